use mathlib.Core.Path.{◌≡◌, sym, ◌∙◌}
use Prim.Native.Nat.{◌-◌, ◌<◌, ◌^◌}
use native.Mathlib.Omega.{arith}
use borrow.Author.Tests.{not-true}
use lib.Bits.{bit_xor, and_le_l, and_le_r}
use Rattle.model.proofs.Positions.{opposed_length}
use Rattle.words.proofs.Clearing.{trailing_lt}
use Rattle.lists.specs.WorkingLists.{stops}
use Rattle.lists.proofs.Holding.{within_count}
use Rattle.sides.proofs.PieceLoop.{pieces_start, pieces_open, pieces_step, pieces_stop, pieces_end}
use Rattle.sides.proofs.pieces.Goals as goal

pub loop-left-init : goal.loop-left-init
loop-left-init c = (
  omega (arith, and_le_l c.fixed.result (bit_xor c.fixed-2.result 4294967295)),
  omega arith,
  λ τ κ s t h g d e y v.
      rw (c.fixed.ensures.strings t (omega (arith, e)) v, c.fixed-2.ensures.strings s (omega (arith, d)) y)
      (pieces_start κ s t h d e),
)

pub opposed-z-requires : goal.opposed-z-requires
opposed-z-requires c =
    let lp = c.loop-left in
    trailing_lt 64 32 lp.left lp.invariant.0 (omega arith) (λ z. absurd (omega (arith, z)))

pub returns-in_err-k : goal.returns-in_err-k
returns-in_err-k c =
    let lp = c.loop-left in rw c.from_residual.ensures (record {
      within = tt;
      made = λ τ κ s t h g d e y v.
          let w = lp.invariant.2 τ κ s t h g d e y v in
          let small : lp.left < 2 ^ 64 = omega arith in
          let some : ¬ (lp.left ≡ 0) = λ z. absurd (omega (arith, z)) in
          let at = pieces_open w small some in
          let z = c.opposed-z.ensures.strings s t (d ∙ sym e) (omega (arith, d)) y v (not-true _ at.0) at.1 in
          let made = c.append_fresh.ensures.made _ κ _ w.held g (opposed_length _ t s ∙ d) z in
          rw (pieces_stop w small some made c.in_err-k.was) stops;
    })

pub loop-left-smaller : goal.loop-left-smaller
loop-left-smaller c =
    let lp = c.loop-left in
    omega (arith, and_le_r lp.left (lp.left - 1))

pub loop-left-preserved : goal.loop-left-preserved
loop-left-preserved c =
    let lp = c.loop-left in
    let got = c.in_ok-k.was in (
      omega (arith, and_le_l lp.left (lp.left - 1)),
      within_count c.append_fresh.ensures.within got,
      λ τ κ s t h g d e y v.
          let w = lp.invariant.2 τ κ s t h g d e y v in
          let small : lp.left < 2 ^ 64 = omega arith in
          let some : ¬ (lp.left ≡ 0) = λ z. absurd (omega (arith, z)) in
          let at = pieces_open w small some in
          let z = c.opposed-z.ensures.strings s t (d ∙ sym e) (omega (arith, d)) y v (not-true _ at.0) at.1 in
          let made = c.append_fresh.ensures.made _ κ _ w.held g (opposed_length _ t s ∙ d) z in
          pieces_step w small some made got,
    )

pub returns : goal.returns
returns c =
    let lp = c.loop-left in
    record {
      within = lp.invariant.1;
      made = λ τ κ s t h g d e y v. pieces_end (lp.invariant.2 τ κ s t h g d e y v) (omega arith);
    }
