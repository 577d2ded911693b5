-- Loop: `found` has the positions that the near entries before the index open.
use Rattle.lists.proofs.Passes.{opened, ShadesSoFar}
use Rattle.lists.proofs.widening.shade_set.Given as goal

abbrev pub invariant-loop-shade : goal.invariant-loop-shade
invariant-loop-shade l = ShadesSoFar opened l.list l.k l.y l.z l.found l.shade-index
