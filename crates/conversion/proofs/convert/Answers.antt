use mathlib.Core.Path.{refl}
use native.Mathlib.Omega.{arith}
use lib.ListN.{length-map}
use Rattle.model.specs.Growth.{grow_all, convert}
use Rattle.lists.proofs.Holding.{holds_empty, within_count}
use Rattle.lists.proofs.SoFar.{so_far_start, so_far_step, so_far_stop, so_far_end}
use Rattle.conversion.proofs.Converting.{none, row_length, row_entry}
use Rattle.conversion.proofs.convert.Goals as goal

pub loop-w-init : goal.loop-w-init
unfolding convert grow_all
loop-w-init c = (omega arith, λ b. so_far_start (holds_empty _ _ c.told-list (omega arith)) refl tt)

pub returns-in_err-n-clause-made : goal.returns-in_err-n-clause-made
returns-in_err-n-clause-made c =
    rw c.from_residual.ensures (λ b.
    let i = c.loop-w.w-index in
    let w = c.loop-w.invariant.1 b in
    let y = c.from-y.ensures.1 _ (row_entry _ _ _ i b (omega arith) c.full-full.ensures) in
    let made = c.grow.ensures.made _ _ w.held (row_length _ _ i) y in
    so_far_stop w (none _) (rw (length-map, length-map) (omega arith)) made c.in_err-n.was)

pub loop-w-preserved : goal.loop-w-preserved
loop-w-preserved c =
    let i = c.loop-w.w-index in
    let is = c.in_ok-n.was in (
      within_count c.grow.ensures.within is,
      λ b.
          let w = c.loop-w.invariant.1 b in
          let y = c.from-y.ensures.1 _ (row_entry _ _ _ i b (omega arith) c.full-full.ensures) in
          let made = c.grow.ensures.made _ _ w.held (row_length _ _ i) y in
          so_far_step w (none _) (rw (length-map, length-map) (omega arith)) made is (λ κ s. tt),
    )

pub returns-clause-made : goal.returns-clause-made
returns-clause-made c = λ b. so_far_end (c.loop-w.invariant.1 b) (rw (length-map, length-map) (omega arith))
