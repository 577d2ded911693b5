-- By the test of the width, `good_width`.
use mathlib.Core.Path.{sym, ◌∙◌}
use Rattle.tables.proofs.of_zeros.Goals as goal

pub returns-then-not-good_width : goal.returns-then-not-good_width
returns-then-not-good_width c = rw (c.refused.ensures, sym c.good_width.ensures ∙ c.if-not-good_width.true)

pub returns : goal.returns
returns c = rw (sym c.good_width.ensures ∙ c.if-not-good_width.false)
