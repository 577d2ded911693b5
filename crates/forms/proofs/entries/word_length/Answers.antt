-- The test of the definition.
use borrow.Author.Tests.{le-leb, lt-leb}
use Rattle.forms.specs.TableForms.{word_length}
use Rattle.forms.proofs.entries.word_length.Goals as goal

pub returns-then-l-le16 : goal.returns-then-l-le16
unfolding word_length
returns-then-l-le16 c = rw (le-leb _ 16 c.if-l-le16.true)

pub returns-else-l-le16 : goal.returns-else-l-le16
unfolding word_length
returns-else-l-le16 c = rw (lt-leb _ 16 c.if-l-le16.false)
