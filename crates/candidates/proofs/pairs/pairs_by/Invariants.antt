-- Loop (`RowsSoFar`): the rows of the strings of a before the index are grown; row by row is all pairs in order.
-- What is kept is good for the list.
use Prim.Native.Nat.{◌≤◌}
use Rattle.lists.specs.WorkingLists.{Holds}
use Rattle.candidates.proofs.RowsGrown.{RowsSoFar}
use Rattle.candidates.proofs.pairs.pairs_by.Given as goal

abbrev pub invariant-loop-x : goal.invariant-loop-x
invariant-loop-x g l =
    (l.n ≤ 256)
    × RowsSoFar l.op l.l l.a l.an (Holds l.l l.b l.bn) (g.G.Growing.fits l.growing l.l) l.list l.n l.x-index
