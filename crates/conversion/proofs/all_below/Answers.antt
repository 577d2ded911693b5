use native.Mathlib.Omega.{arith}
use Rattle.conversion.proofs.Converting.{below_turn, below_end}
use Rattle.conversion.proofs.all_below.Goals as goal

pub loop-w-preserved : goal.loop-w-preserved
loop-w-preserved c = let lp = c.loop-w in below_turn _ _ lp.good _ _ (omega arith) lp.invariant c.full-full.ensures

pub returns : goal.returns
returns c = let lp = c.loop-w in below_end _ _ lp.good _ (omega arith) lp.invariant
