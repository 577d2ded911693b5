-- A string that is subsumed once it is widened is absorbed; any other is widened.
use mathlib.Core.Path.{sym, ◌∙◌}
use Rattle.model.specs.Growth.{widen}
use Rattle.model.proofs.Stability.{widen_length}
use Rattle.model.proofs.Subsuming.{widen_up}
use Rattle.lists.proofs.Growing.{fresh_zeroed, fresh_widened}
use Rattle.lists.proofs.WideningByPasses.{of_over}
use Rattle.lists.proofs.widening.widened.Goals as goal

pub returns-then-covered : goal.returns-then-covered
returns-then-covered c =
    λ τ s ready y nonzero.
    let z = c.widen-z.ensures τ s ready y in
    let t = of_over ready y (widen τ s) z (widen_length τ s ∙ ready.long) (widen_up τ s) (c.covered.ensures _ τ s _ ready) in
    c.zero.ensures.words ∙ sym (fresh_zeroed _ τ s nonzero (sym t ∙ c.if-covered.true))

pub returns : goal.returns
returns c =
    λ τ s ready y nonzero.
    let z = c.widen-z.ensures τ s ready y in
    let t = of_over ready y (widen τ s) z (widen_length τ s ∙ ready.long) (widen_up τ s) (c.covered.ensures _ τ s _ ready) in
    z ∙ sym (fresh_widened _ τ s nonzero (sym t ∙ c.if-covered.false))
