-- A set has no bit above l exactly where it is at most the word of all l bits; the answer is that of `independent_checked`.
use mathlib.Core.Path.{◌≡◌, sym, ◌∙◌}
use mathlib.Core.Bool.{true, false}
use Rattle.std.proofs.lemmas.Result.{err_from_is_err_and}
use Rattle.tables.specs.Refusals.{if_accepted}
use Rattle.questions.specs.Replies.{good_sets, independent_call}
use Rattle.questions.proofs.Tests.{sets_test, reply_is}
use Rattle.operations.proofs.Checked.{good_wide}
use Rattle.questions.proofs.independent.Goals as goal

pub full-full-requires : goal.full-full-requires
full-full-requires c = good_wide (c.check.ensures.good.0 c.in_ok-check.was)

pub returns-in_err-check : goal.returns-in_err-check
unfolding independent_call if_accepted
returns-in_err-check c =
    let p = err_from_is_err_and c.from_residual.result c.from_residual.ensures.1 in
    rw (p.1, p.2, sym c.in_err-check.ensures.answer)

pub returns-then-not-a-full : goal.returns-then-not-a-full
unfolding independent_call if_accepted
returns-then-not-a-full c =
    let a = c.args in
    let s : good_sets a.t.l a.a a.b ≡ false = sym (sets_test _ _ _ _ c.full-full.ensures) ∙ c.if-not-a-full.true in
    rw (sym c.in_ok-check.ensures.answer, s)

pub returns : goal.returns
unfolding independent_call if_accepted
returns c =
    let a = c.args in
    let s : good_sets a.t.l a.a a.b ≡ true = sym (sets_test _ _ _ _ c.full-full.ensures) ∙ c.if-not-a-full.false in
    rw (c.independent_checked.ensures, sym c.in_ok-check.ensures.answer, s, reply_is)
