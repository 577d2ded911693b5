-- The test is of the two numbers themselves.
use borrow.Author.Tests.{ltb-true, ltb-false}
use Rattle.equation_forms.proofs.more.Goals as goal

pub returns : goal.returns
returns c = (ltb-true _ _, ltb-false _ _)
