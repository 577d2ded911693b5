-- Loop: no entry before e joins the sets, so that the others decide (`positive_next`, `positive_end`).
use mathlib.Core.Path.{◌≡◌}
use Prim.Native.Nat.{ℕ}
use lib.ListN.{length, drop}
use Rattle.model.specs.Groups.{Bits}
use Rattle.model.specs.Growth.{Entries}
use Rattle.model.specs.Tables.{positive}
use Rattle.model.specs.Questions.{independent}
use Rattle.words.specs.Words.{set_word}
use Rattle.lists.specs.WorkingLists.{WordsOf}
use Rattle.covering.proofs.independence.independent_positive.Given as goal

abbrev pub invariant-loop-e : goal.invariant-loop-e
invariant-loop-e v = (l : ℕ) (τ : Entries) (x y : Bits) → WordsOf l v.list τ → length x ≡ l → length y ≡ l
    → v.a ≡ set_word x → v.b ≡ set_word y
    → independent positive l τ x y ≡ independent positive l (drop v.e-index τ) x y
