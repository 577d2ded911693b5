-- Loop: all that y covers with a first variable before j is covered. A part that is not decides (`apart_no`, `apart_all`).
use mathlib.Core.Bool.{true, false}
use mathlib.Core.Path.{◌≡◌}
use Prim.Native.Nat.{ℕ, ◌<◌}
use lib.ListN.{length, get_or}
use Rattle.model.specs.Groups.{Bits}
use Rattle.model.specs.Strings.{covers}
use Rattle.words.specs.Words.{set_word}
use Rattle.lists.specs.WorkingLists.{OfWords}
use Rattle.covering.proofs.MeetingSets.{part}
use Rattle.covering.proofs.independence.apart_negative.Given as goal

abbrev pub invariant-loop-j : goal.invariant-loop-j
invariant-loop-j l = OfWords l.l l.list l.y (λ τ s. (k : Bits) → length k ≡ l.l → l.set ≡ set_word k
    → (i : ℕ) → i < l.j → get_or k i false ≡ true → part l.l τ (covers s) k i ≡ true)
