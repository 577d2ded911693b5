use native.Mathlib.Omega.{arith}
use Rattle.lists.proofs.Passes.{subsuming, shades_start, shades_turn, shades_end}
use Rattle.lists.proofs.widening.shades_subsume.Goals as goal

pub loop-shade-init : goal.loop-shade-init
loop-shade-init c = shades_start subsuming _ _ _ _

pub loop-shade-preserved : goal.loop-shade-preserved
loop-shade-preserved c =
    shades_turn subsuming c.loop-shade.invariant (omega arith) (omega arith) c.loop-shade-test.true
    c.shade_subsumes-found.ensures.strings

pub returns : goal.returns
returns c =
    let w = c.loop-shade in
    shades_end subsuming w.invariant (omega arith) (omega arith) w.auto.shade-index-end c.loop-shade-test.false
