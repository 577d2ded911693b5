-- By the test.
use Rattle.std.proofs.Common.{sym, ◌∙◌}
use Rattle.words.specs.Words.{if_over}
use Rattle.words.proofs.if_over.Goals as goal

pub returns-then-subsumes : goal.returns-then-subsumes
unfolding if_over
returns-then-subsumes c = rw (sym c.subsumes.ensures.words ∙ c.if-subsumes.true)

pub returns : goal.returns
unfolding if_over
returns c = rw (sym c.subsumes.ensures.words ∙ c.if-subsumes.false)
