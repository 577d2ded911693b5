use mathlib.Core.Path.{refl}
use Rattle.lists.proofs.Holding.{within_count}
use Rattle.lists.proofs.SoFar.{so_far_start, so_far_end}
use Rattle.lists.proofs.Passes.{rest_at, rest_end, each_turn, each_stop}
use Rattle.candidates.proofs.closing.close_rest.Goals as goal

pub loop-s-init : goal.loop-s-init
loop-s-init c = (c.requires.3, λ γ τ h k. so_far_start k refl (c.start-filter.ensures _))

pub returns-in_err-k-clause-made : goal.returns-in_err-k-clause-made
returns-in_err-k-clause-made c =
    rw c.from_residual.ensures (λ γ τ h k.
    each_stop (c.loop-s.invariant.1 γ τ h k) (rest_at h _ _ c.loop-s-test.true) (c.close_one.ensures.made) c.in_err-k.was)

pub loop-s-preserved : goal.loop-s-preserved
loop-s-preserved c =
    let made = c.close_one.ensures in (
      within_count made.within c.in_ok-k.was,
      λ γ τ h k.
          each_turn (c.loop-s.invariant.1 γ τ h k) (rest_at h _ _ c.loop-s-test.true) made.made c.in_ok-k.was
          (λ τ s κ t e is. made.kept τ s t e is κ),
    )

pub returns-clause-made : goal.returns-clause-made
returns-clause-made c = λ γ τ h k. so_far_end (c.loop-s.invariant.1 γ τ h k) (rest_end h _ _ c.loop-s-test.false)
