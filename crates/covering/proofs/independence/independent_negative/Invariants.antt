-- Loop: for each variable of the first set before i, the groups that have it first are apart from the second set.
use mathlib.Core.Bool.{true, false}
use mathlib.Core.Path.{◌≡◌}
use Prim.Native.Nat.{ℕ, ◌<◌}
use lib.ListN.{length, get_or}
use Rattle.model.specs.Groups.{Bits}
use Rattle.model.specs.Growth.{Entries}
use Rattle.words.specs.Words.{set_word}
use Rattle.lists.specs.WorkingLists.{WordsOf}
use Rattle.covering.specs.Sets.{first_string, apart}
use Rattle.covering.proofs.independence.independent_negative.Given as goal

abbrev pub invariant-loop-i : goal.invariant-loop-i
invariant-loop-i l = (τ : Entries) (x y : Bits) → WordsOf l.l l.list τ → length x ≡ l.l → length y ≡ l.l
    → l.a ≡ set_word x → l.b ≡ set_word y
    → (k : ℕ) → k < l.i → get_or x k false ≡ true → apart l.l τ (first_string x k) y ≡ true
