-- Loop: of the words gathered those before the index are shades, the others as they were.
use mathlib.Core.Path.{◌≡◌}
use Prim.Native.Nat.{ℕ, ◌≤◌, ◌<◌}
use lib.ListN.{get_or}
use Rattle.words.specs.Words.{shade_word}
use Rattle.lists.proofs.widening.shade_each.Given as goal

abbrev pub invariant-loop-shade : goal.invariant-loop-shade
invariant-loop-shade l =
    ((m : ℕ) → m < l.shade-index → get_or l.shade-items m 0 ≡ shade_word (get_or l.initial.shade-items m 0) l.y)
    × ((m : ℕ) → l.shade-index ≤ m → get_or l.shade-items m 0 ≡ get_or l.initial.shade-items m 0)
