use mathlib.Core.Path.{◌≡◌, sym, ◌∙◌}
use Prim.Native.Nat.{◌+◌, ◌*◌}
use native.Mathlib.Omega.{arith}
use Rattle.lists.proofs.WordTests.{free_more}
use Rattle.lists.proofs.growth.free_up_to.Goals as goal

pub loop-b-preserved : goal.loop-b-preserved
loop-b-preserved c =
    let lp = c.loop-b in
    let next : 8 * (lp.b + 1) ≡ 8 * lp.b + 8 = omega arith in
    rw next (free_more _ _ (8 * lp.b) 8 lp.invariant (sym c.eight_free.ensures ∙ c.if-not-eight_free.false))
