-- The second array is summed, or both as one (`counted_right`, `counted_both`).
use mathlib.Core.Path.{◌∙◌}
use Rattle.equation_forms.proofs.Outcomes.{counted_right, counted_both}
use Rattle.equation_forms.proofs.counted.Goals as goal

pub returns-in-Variable : goal.returns-in-Variable
returns-in-Variable c = rw c.in-Variable.is (c.sum_at.ensures ∙ counted_right _ _)

pub returns-in-Term : goal.returns-in-Term
returns-in-Term c =
    rw c.in-Term.is (c.sum_at-in-Term.ensures ∙ counted_both _ c.args.b.now)
