-- Below 10, below 100 and above, the decimal has one, two and three digits.
use mathlib.Core.Path.{sym, ap}
use lib.ListN.{length}
use Rattle.text.proofs.Writing.{one_digit, two_digits, three_digits}
use Rattle.text.proofs.lines.digits.Goals as goal

pub returns-then-n-lt10 : goal.returns-then-n-lt10
returns-then-n-lt10 c = sym (ap length (one_digit _ c.if-n-lt10.true))

pub returns-then-n-lt100 : goal.returns-then-n-lt100
returns-then-n-lt100 c = sym (ap length (two_digits _ c.if-n-lt10.false c.if-n-lt100.true))

pub returns-else-n-lt100 : goal.returns-else-n-lt100
returns-else-n-lt100 c = sym (ap length (three_digits _ c.if-n-lt100.false))
