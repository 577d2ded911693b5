use native.Mathlib.Omega.{arith}
use Rattle.lists.proofs.Surveys.{scanned_start, scanned_turn, scanned_end}
use Rattle.lists.proofs.widening.scan.Goals as goal

pub loop-e-init : goal.loop-e-init
loop-e-init c = scanned_start _ _ _

pub loop-e-preserved : goal.loop-e-preserved
loop-e-preserved c =
    scanned_turn c.loop-e.invariant c.loop-e-test.true c.lone_lack-lacks.ensures c.if_over-over.ensures
    c.subsumes-found.ensures.words

pub returns : goal.returns
returns c = scanned_end c.loop-e.invariant (omega arith) c.loop-e-test.false
