-- Loop: `found` says whether a near entry before the index subsumes the string.
use Rattle.lists.proofs.Passes.{subsuming, ShadesSoFar}
use Rattle.lists.proofs.widening.shades_subsume.Given as goal

abbrev pub invariant-loop-shade : goal.invariant-loop-shade
invariant-loop-shade l = ShadesSoFar subsuming l.list l.k l.y l.z l.found l.shade-index
