-- Loop (`ScannedSoFar`): the two sums have what is to be found of the entries before the index, and `found`, or the test of
-- those from it on, is the test of all.
use Rattle.lists.proofs.Surveys.{ScannedSoFar}
use Rattle.lists.proofs.widening.scan.Given as goal

abbrev pub invariant-loop-e : goal.invariant-loop-e
invariant-loop-e l = ScannedSoFar l.list l.n l.y l.lacks l.over l.found l.e-index
