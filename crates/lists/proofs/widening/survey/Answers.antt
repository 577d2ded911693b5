-- By what the scan found: `survey_guards`, `survey_untouched`.
use Rattle.lists.proofs.Surveys.{survey_guards, survey_untouched}
use Rattle.lists.proofs.widening.survey.Goals as goal

pub returns-then-edges-fixed-eq0 : goal.returns-then-edges-fixed-eq0
returns-then-edges-fixed-eq0 c =
    λ l τ s h e y.
    let none = c.if-edges-fixed-eq0.true in
    survey_guards c.scan-s.ensures s h e y c.if-s.true
    (rw (c.fixed.ensures.words, c.fixed-2.ensures.words, c.fixed-then-s.ensures.words) at none)

pub returns-then-s : goal.returns-then-s
returns-then-s c = λ l τ s h e y. tt

pub returns-then-edges-eq0 : goal.returns-then-edges-eq0
returns-then-edges-eq0 c =
    λ l τ s h e y.
    let none = c.if-edges-eq0.true in
    survey_untouched c.scan-s.ensures s h e y c.if-s.false
    (rw (c.fixed.ensures.words, c.fixed-2.ensures.words) at none)

pub returns : goal.returns
returns c = λ l τ s h e y. tt
