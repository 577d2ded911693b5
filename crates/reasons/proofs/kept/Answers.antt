-- The string that covers just s is subsumed by an entry exactly where the entry covers s.
use mathlib.Core.Path.{sym, ◌∙◌}
use Rattle.model.proofs.Strings.{exactly_length}
use Rattle.words.proofs.Codec.{group_entry}
use Rattle.reasons.specs.Verdicts.{untouched}
use Rattle.reasons.proofs.Verdicts.{subsumed_group}
use Rattle.reasons.proofs.kept.Goals as goal

pub returns-then-subsumed : goal.returns-then-subsumed
unfolding untouched
returns-then-subsumed c =
    λ τ k h whole is.
    let y = c.from-y.ensures.1 _ (group_entry k _ _ _ whole c.full.ensures is) in
    rw (sym (subsumed_group τ k) ∙ sym (c.subsumed.ensures.strings _ τ _ h (exactly_length k ∙ whole) y) ∙ c.if-subsumed.true)

pub returns : goal.returns
unfolding untouched
returns c =
    λ τ k h whole is.
    let y = c.from-y.ensures.1 _ (group_entry k _ _ _ whole c.full.ensures is) in
    rw (sym (subsumed_group τ k) ∙ sym (c.subsumed.ensures.strings _ τ _ h (exactly_length k ∙ whole) y) ∙ c.if-subsumed.false)
