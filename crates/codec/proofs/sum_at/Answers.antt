use Rattle.std.proofs.Common.{refl, arith}
use Rattle.codec.specs.Numbers.{rows, sum}
use Rattle.codec.proofs.Laws.{sum_turn}
use Rattle.codec.proofs.sum_at.Goals as goal

pub loop-i-init : goal.loop-i-init
unfolding rows sum
loop-i-init c = (refl, omega arith)

pub loop-i-preserved : goal.loop-i-preserved
loop-i-preserved c =
    let w = c.loop-i in
    let a = c.args in
    (sum_turn a.at w.i _ w.total a.b.now w.invariant.0 c.number_at.ensures, omega arith)
