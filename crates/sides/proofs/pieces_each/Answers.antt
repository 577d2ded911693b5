use mathlib.Core.List.{[]}
use Prim.Native.Nat.{◌<◌}
use native.Mathlib.Omega.{arith}
use Rattle.lists.proofs.Holding.{holds_length, holds_slice, within_count}
use Rattle.lists.proofs.SoFar.{so_far_step, so_far_stop, so_far_end}
use Rattle.sides.proofs.pieces_each.Goals as goal

pub returns-in_err-k-clause-made : goal.returns-in_err-k-clause-made
returns-in_err-k-clause-made c =
    rw c.from_residual.ensures (λ τ ρ κ t h y g e is.
    let lp = c.loop-y in
    let lt : lp.y-index < c.args.m = omega arith in
    let w = lp.invariant.1 τ ρ κ t h y g e is in
    let made = c.pieces.ensures.made _ κ _ t w.held g (holds_length y _ lt) e (holds_slice y _ lt) is in
    so_far_stop w [] (omega (arith, lt, y.count)) made c.in_err-k.was)

pub loop-y-preserved : goal.loop-y-preserved
loop-y-preserved c =
    let lp = c.loop-y in
    let lt : lp.y-index < c.args.m = omega arith in
    let got = c.in_ok-k.was in (
      within_count c.pieces.ensures.within got,
      λ τ ρ κ t h y g e is.
          let w = lp.invariant.1 τ ρ κ t h y g e is in
          let made = c.pieces.ensures.made _ κ _ t w.held g (holds_length y _ lt) e (holds_slice y _ lt) is in
          so_far_step w [] (omega (arith, lt, y.count)) made got (λ _ s. tt),
    )

pub returns-clause-made : goal.returns-clause-made
returns-clause-made c =
    λ τ ρ κ t h y g e is. so_far_end (c.loop-y.invariant.1 τ ρ κ t h y g e is) (omega (arith, y.count))
