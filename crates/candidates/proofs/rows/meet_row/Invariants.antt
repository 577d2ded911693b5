-- Loop (`Along`): the row has the meets with the strings before the index that a matches (`meets_end`).
use Prim.Native.Nat.{ℕ, ◌≤◌}
use Rattle.model.specs.Strings.{matches, meet}
use Rattle.lists.specs.WorkingLists.{OfString}
use Rattle.lists.proofs.RowLoops.{Along}
use Rattle.candidates.proofs.rows.meet_row.Given as goal

abbrev pub invariant-loop-e : goal.invariant-loop-e
invariant-loop-e v =
    (v.k ≤ v.e-index) × ((l : ℕ) → OfString l v.list v.n v.a (λ τ s. Along l (matches s) (meet s) τ v.n v.row v.k v.e-index))
