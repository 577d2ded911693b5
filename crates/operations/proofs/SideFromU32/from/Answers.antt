-- By cases: the number is 0, or it is not.
use borrow.Author.Tests.{eq-eqb, ne_eqb}
use Rattle.operations.specs.Operations.{side_numbered}
use Rattle.operations.proofs.SideFromU32.from.Goals as goal

pub returns-then-number-eq0 : goal.returns-then-number-eq0
unfolding side_numbered
returns-then-number-eq0 c = rw (eq-eqb _ 0 c.if-number-eq0.true)

pub returns : goal.returns
unfolding side_numbered
returns c = rw (ne_eqb _ 0 c.if-number-eq0.false)
