-- Loop: no entry before i covers a group inside s with a variable of m. The first that does is the lowest (`found_here`); at
-- the end there is none (`found_nowhere`).
use mathlib.Core.Path.{◌≡◌}
use Prim.Native.Nat.{ℕ, ◌<◌}
use lib.Bits.{bit_and}
use lib.ListN.{get_or}
use Rattle.reasons.specs.Entries.{largest_word}
use Rattle.reasons.proofs.entries.lowest.Given as goal

abbrev pub invariant-loop-i : goal.invariant-loop-i
invariant-loop-i l = (k : ℕ) → k < l.i → bit_and (largest_word (get_or l.list k 0) l.s) l.m ≡ 0
