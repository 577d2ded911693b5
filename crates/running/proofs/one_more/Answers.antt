-- Below the largest count it is one more; there it stays.
use borrow.Author.Tests.{lt-ltb, le-ltb}
use Rattle.running.specs.States.{one_more}
use Rattle.running.proofs.one_more.Goals as goal

pub returns-then-k-lt-APPLIED : goal.returns-then-k-lt-APPLIED
unfolding one_more
returns-then-k-lt-APPLIED c = rw (lt-ltb _ 4294967295 c.if-k-lt-APPLIED.true)

pub returns : goal.returns
unfolding one_more
returns c = rw (le-ltb _ 4294967295 c.if-k-lt-APPLIED.false)
