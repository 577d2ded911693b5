-- Loop: the array holds what the equations found so far make of those given, and going on from it gives the whole (`SoFar`);
-- each equation found leads further on.
use Prim.Native.Nat.{◌+◌, ◌-◌, ◌≤◌}
use lib.ListN.{length}
use Rattle.walks.proofs.Keeping.{Kept}
use Rattle.operations.specs.Operations.{side_of, Starts}
use Rattle.operations.proofs.Applying.{SoFar}
use Rattle.operations.proofs.apply_found.Given as goal

abbrev pub invariant-loop-e : goal.invariant-loop-e
invariant-loop-e l = (l.count ≤ 256) × Kept (λ p. Starts l.l l.initial.list l.n l.left l.right p)
    (λ p. SoFar (side_of l.side) l.l p.0 l.list l.count l.left l.right l.at_left l.at_right p.1)

abbrev pub decreases-loop-e : goal.decreases-loop-e
decreases-loop-e l = length l.left + length l.right - (l.at_left + l.at_right)
