-- Where none of the entries that may have been appended since y was noted stirs it, growing by y changes nothing
-- (`noted_idle`).
use mathlib.Core.Path.{◌∙◌}
use mathlib.Core.Bool.{false≢true}
use native.Mathlib.Omega.{arith}
use Rattle.lists.proofs.Absorption.{filter_noted, noted_idle, idle_absorbed}
use Rattle.lists.proofs.filter.renewed.Goals as goal

pub returns-then-seen-s : goal.returns-then-seen-s
returns-then-seen-s c = λ l τ s h e y f. (f, λ q. absurd (false≢true q))

pub returns-then-reach-version : goal.returns-then-reach-version
returns-then-reach-version c = λ l τ s h e y f. (f, λ q. absurd (false≢true q))

pub returns-then-not-quiet : goal.returns-then-not-quiet
returns-then-not-quiet c = λ l τ s h e y f. (f, λ q. absurd (false≢true q))

pub returns : goal.returns
returns c =
    λ l τ s h e y f.
    let b = filter_noted f h.short _ c.slot-s.ensures s e (c.if-seen-s.false ∙ y) in
    let quiet = c.quiet.ensures l τ s h e y b.widened b.kept b.over
    (c.if-not-quiet.false) in
    let idle = noted_idle b _ _ h.count (omega arith) quiet in (
      c.note.ensures l τ s b.widened h.short f e y b.kept b.over idle,
      λ q. idle_absorbed τ s b.widened idle,
    )
