-- Loop (`Along`): the row has those of the entries before e that are opposed to v at most once (`edges_end`).
use Prim.Native.Nat.{ℕ, ◌≤◌}
use lib.Dec.{ltb}
use Rattle.model.specs.Widest.{opposed_count}
use Rattle.lists.specs.WorkingLists.{OfString}
use Rattle.lists.proofs.RowLoops.{Along}
use Rattle.sides.proofs.edge_row.Given as goal

abbrev pub invariant-loop-e : goal.invariant-loop-e
invariant-loop-e v = (v.k ≤ v.e-index)
    × ((l : ℕ) → OfString l v.list v.n v.v (λ τ t. Along l (λ e. ltb (opposed_count e t) 2) (λ e. e) τ v.n v.row v.k v.e-index))
