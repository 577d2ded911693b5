use native.Mathlib.Omega.{arith}
use Rattle.lists.proofs.Slices.{part_turn, part_end}
use Rattle.lists.proofs.growth.some_subsumes.Goals as goal

pub loop-e-preserved : goal.loop-e-preserved
loop-e-preserved c = part_turn c.loop-e.invariant c.loop-e-test.true c.subsumes-found.ensures.words

pub returns : goal.returns
returns c = part_end c.loop-e.invariant (omega arith) c.loop-e-test.false
