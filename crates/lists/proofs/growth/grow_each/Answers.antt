use mathlib.Core.Path.{refl}
use mathlib.Core.List.{[]}
use native.Mathlib.Omega.{arith}
use lib.ListN.{get_or}
use Rattle.model.specs.Growth.{grow_all}
use Rattle.lists.proofs.Holding.{holds_length, within_count}
use Rattle.lists.proofs.Slices.{cut_length, cut_here}
use Rattle.lists.proofs.SoFar.{so_far_start, so_far_step, so_far_stop, so_far_end}
use Rattle.lists.proofs.growth.grow_each.Goals as goal

pub loop-y-init : goal.loop-y-init
unfolding grow_all
loop-y-init c = (omega arith, λ τ ρ h y. so_far_start h refl tt)

pub returns-in_err-k : goal.returns-in_err-k
returns-in_err-k c =
    rw c.from_residual.ensures (record {
      within = tt;
      made = λ τ ρ h y.
          let i = c.loop-y.y-index in
          let w = c.loop-y.invariant.1 τ ρ h y in
          let here = cut_here y i c.loop-y-test.true in
          let made = c.grow.ensures.made _ (get_or ρ i []) w.held (holds_length y i (omega (arith, cut_length y))) here in
          so_far_stop w [] (omega (arith, cut_length y, y.count)) made c.in_err-k.was;
    })

pub loop-y-preserved : goal.loop-y-preserved
loop-y-preserved c =
    let i = c.loop-y.y-index in (
      within_count c.grow.ensures.within c.in_ok-k.was,
      λ τ ρ h y.
          let w = c.loop-y.invariant.1 τ ρ h y in
          let here = cut_here y i c.loop-y-test.true in
          let made = c.grow.ensures.made _ (get_or ρ i []) w.held (holds_length y i (omega (arith, cut_length y))) here in
          so_far_step w [] (omega (arith, cut_length y, y.count)) made c.in_ok-k.was (λ κ g. tt),
    )

pub returns-clause-made : goal.returns-clause-made
returns-clause-made c = λ τ ρ h y. so_far_end (c.loop-y.invariant.1 τ ρ h y) (omega (arith, cut_length y, y.count))
