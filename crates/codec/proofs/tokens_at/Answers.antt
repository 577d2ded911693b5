use Rattle.std.proofs.Common.{arith, rules}
use Rattle.codec.specs.Numbers.{rows, with_zeros}
use Rattle.codec.proofs.Laws.{read_turn}
use Rattle.codec.proofs.tokens_at.Goals as goal

pub loop-i-init : goal.loop-i-init
unfolding rows with_zeros
loop-i-init g c = search rules

pub loop-i-preserved : goal.loop-i-preserved
loop-i-preserved g c =
    let w = c.loop-i in
    let a = c.args in
    read_turn g.row.N a.at w.i _ a.b.now w.out (omega arith) w.invariant c.number_at.ensures
