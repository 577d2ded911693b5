-- By the test.
use Rattle.std.proofs.Common.{sym, ◌∙◌}
use Rattle.words.specs.Words.{lacks_word, lone_lack}
use Rattle.words.proofs.lone_lack.Goals as goal

pub returns-then-near : goal.returns-then-near
unfolding lacks_word lone_lack
returns-then-near c = rw (sym c.near.ensures.words ∙ c.if-near.true)

pub returns : goal.returns
unfolding lacks_word lone_lack
returns c = rw (sym c.near.ensures.words ∙ c.if-near.false)
