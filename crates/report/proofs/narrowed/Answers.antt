-- An accepted state has the code 0; any other keeps what it was.
use borrow.Author.Tests.{ne_eqb}
use Rattle.report.specs.Reports.{narrowed}
use Rattle.report.proofs.narrowed.Goals as goal

pub returns-then-s-eq0 : goal.returns-then-s-eq0
unfolding narrowed
returns-then-s-eq0 c =
    rw (c.if-s-eq0.true, c.refused.ensures, c.from.ensures)

pub returns-else-s-eq0 : goal.returns-else-s-eq0
unfolding narrowed
returns-else-s-eq0 c = rw (ne_eqb _ 0 c.if-s-eq0.false)
