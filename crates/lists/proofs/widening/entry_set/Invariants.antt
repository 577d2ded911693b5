-- Loop: `found` has the positions that the entries before the index open.
use Rattle.lists.proofs.Passes.{opened, EntriesSoFar}
use Rattle.lists.proofs.widening.entry_set.Given as goal

abbrev pub invariant-loop-e : goal.invariant-loop-e
invariant-loop-e l = EntriesSoFar opened l.list l.n l.z l.found l.e-index
