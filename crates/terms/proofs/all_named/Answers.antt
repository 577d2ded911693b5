use Rattle.std.proofs.Common.{arith}
use Rattle.terms.proofs.TokenScans.{named_turn, named_end}
use Rattle.terms.proofs.all_named.Goals as goal

pub loop-t-preserved : goal.loop-t-preserved
loop-t-preserved c = let lp = c.loop-t in named_turn _ _ lp.good lp.t-index (omega arith) lp.invariant

pub returns : goal.returns
returns c = let lp = c.loop-t in named_end _ _ lp.good lp.t-index (omega arith) lp.invariant
