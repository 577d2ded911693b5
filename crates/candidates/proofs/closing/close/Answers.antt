use mathlib.Core.Path.{refl, sym}
use native.Mathlib.Omega.{arith}
use Rattle.model.specs.Tables.{close}
use Rattle.lists.proofs.Holding.{holds_empty, within_count}
use Rattle.lists.proofs.SoFar.{so_far_start, so_far_end}
use Rattle.lists.proofs.Passes.{entry_here, each_turn, each_stop}
use Rattle.candidates.proofs.closing.close.Goals as goal

pub loop-i-init : goal.loop-i-init
unfolding close
loop-i-init c = (omega arith, λ γ h. so_far_start (holds_empty _ _ c.told-list h.short) refl tt)

pub returns-then-n-ge16 : goal.returns-then-n-ge16
returns-then-n-ge16 c =
    let rest = c.close_rest.ensures in record {
      within = rest.within;
      made = λ γ h. let w = c.loop-i.invariant.1 γ h in rw (sym w.rest) (rest.made γ w.now h w.held);
    }

pub returns-in_err-n-clause-made : goal.returns-in_err-n-clause-made
returns-in_err-n-clause-made c =
    rw c.from_residual.ensures (λ γ h.
    each_stop (c.loop-i.invariant.1 γ h) (entry_here h _ c.loop-i-test.true)
    c.close_one.ensures.made c.in_err-n.was)

pub loop-i-preserved : goal.loop-i-preserved
loop-i-preserved c = (
  within_count c.close_one.ensures.within c.in_ok-n.was,
  λ γ h.
      each_turn (c.loop-i.invariant.1 γ h) (entry_here h _ c.loop-i-test.true)
      c.close_one.ensures.made c.in_ok-n.was (λ τ s κ t e is known got. tt),
)

pub returns-clause-made : goal.returns-clause-made
returns-clause-made c = λ γ h. so_far_end (c.loop-i.invariant.1 γ h) (omega (arith, h.count))
