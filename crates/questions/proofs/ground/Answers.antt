-- The check and the test of the variable come in the order of the definition; the answer is that of `ground_checked`.
use mathlib.Core.Path.{sym}
use Rattle.std.proofs.lemmas.Result.{err_from_is_err_and}
use Rattle.tables.specs.Refusals.{if_accepted}
use Rattle.questions.specs.Replies.{ground_call}
use Rattle.questions.proofs.Tests.{reply_is}
use Rattle.questions.proofs.ground.Goals as goal

pub returns-in_err-check : goal.returns-in_err-check
unfolding ground_call if_accepted
returns-in_err-check c =
    let p = err_from_is_err_and c.from_residual.result c.from_residual.ensures.1 in
    rw (p.1, p.2, sym c.in_err-check.ensures.answer)

pub returns-then-not-x-t : goal.returns-then-not-x-t
unfolding ground_call if_accepted
returns-then-not-x-t c = rw (sym c.in_ok-check.ensures.answer, c.if-not-x-t.true)

pub returns : goal.returns
unfolding ground_call if_accepted
returns c = rw (c.ground_checked.ensures, sym c.in_ok-check.ensures.answer, c.if-not-x-t.false, reply_is)
