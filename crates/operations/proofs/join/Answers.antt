-- The two checks and the test of the widths come in the order of the definition; then `join_checked` is asked.
use mathlib.Core.Path.{sym, ◌∙◌}
use borrow.Author.Tests.{eq-eqb, ne_eqb}
use Rattle.tables.specs.Refusals.{if_accepted}
use Rattle.operations.specs.Operations.{join_call}
use Rattle.operations.proofs.join.Goals as goal

pub join_checked-requires : goal.join_checked-requires
join_checked-requires c = (
  c.check.ensures.good.0 c.in-Ok.is,
  c.check-in-Ok.ensures.good.0 c.in-Ok-check.is,
  sym c.if-t-u.true,
)

pub returns-in-Err : goal.returns-in-Err
unfolding join_call if_accepted
returns-in-Err c =
    rw (c.refused.ensures, sym c.check.ensures.answer ∙ c.in-Err.is)

pub returns-in-Err-check : goal.returns-in-Err-check
unfolding join_call if_accepted
returns-in-Err-check c =
    rw (
      c.refused-in-Err-check.ensures,
      sym c.check.ensures.answer ∙ c.in-Ok.is,
      sym c.check-in-Ok.ensures.answer ∙ c.in-Err-check.is,
    )

pub returns-then-t-u : goal.returns-then-t-u
unfolding join_call if_accepted
returns-then-t-u c =
    rw (
      sym c.check.ensures.answer ∙ c.in-Ok.is,
      sym c.check-in-Ok.ensures.answer ∙ c.in-Ok-check.is,
      eq-eqb _ _ c.if-t-u.true,
    )
    c.join_checked.ensures

pub returns-else-t-u : goal.returns-else-t-u
unfolding join_call if_accepted
returns-else-t-u c =
    rw (
      c.refused-else-t-u.ensures,
      sym c.check.ensures.answer ∙ c.in-Ok.is,
      sym c.check-in-Ok.ensures.answer ∙ c.in-Ok-check.is,
      ne_eqb _ _ c.if-t-u.false,
    )
