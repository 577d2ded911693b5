-- The two checks and the test of the widths come in the order of the definition; the answer is that of `equal_checked`.
use mathlib.Core.Path.{sym}
use borrow.Author.Tests.{eq-eqb, ne_eqb}
use Rattle.std.proofs.lemmas.Result.{err_from_is_err_and}
use Rattle.tables.specs.Refusals.{if_accepted}
use Rattle.questions.specs.Replies.{equal_call}
use Rattle.questions.proofs.Tests.{reply_is}
use Rattle.questions.proofs.equal.Goals as goal

pub returns-in_err-check : goal.returns-in_err-check
unfolding equal_call if_accepted
returns-in_err-check c =
    let p = err_from_is_err_and c.from_residual.result c.from_residual.ensures.1 in
    rw (p.1, p.2, sym c.in_err-check.ensures.answer)

pub returns-in_err-check-2 : goal.returns-in_err-check-2
unfolding equal_call if_accepted
returns-in_err-check-2 c =
    let f = c.from_residual-in_err-check-2 in
    let p = err_from_is_err_and f.result f.ensures.1 in
    rw (p.1, p.2, sym c.in_ok-check.ensures.answer, sym c.in_err-check-2.ensures.answer)

pub returns-then-t-u : goal.returns-then-t-u
unfolding equal_call if_accepted
returns-then-t-u c =
    rw (sym c.in_ok-check.ensures.answer, sym c.in_ok-check-2.ensures.answer, ne_eqb _ _ c.if-t-u.true)

pub returns : goal.returns
unfolding equal_call if_accepted
returns c =
    rw (
      c.equal_checked.ensures,
      sym c.in_ok-check.ensures.answer,
      sym c.in_ok-check-2.ensures.answer,
      eq-eqb _ _ c.if-t-u.false,
      reply_is,
    )
