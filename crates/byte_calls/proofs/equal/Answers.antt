-- A refusal of either reader is returned as it is, the first's first; both tables go to the question on values.
use mathlib.Core.Path.{◌∙◌}
use Rattle.std.proofs.lemmas.Result.{err_from_is_err_and}
use Rattle.questions.specs.Replies.{Refused}
use Rattle.questions.specs.Replies.{equal_call}
use Rattle.byte_calls.specs.ByteCalls.{after_read, equal_bytes}
use Rattle.byte_calls.proofs.AfterChecks.{whole_stops, whole_goes_on}
use Rattle.byte_calls.proofs.equal.Goals as goal

pub returns-in_err-t : goal.returns-in_err-t
unfolding equal_bytes
returns-in_err-t c =
    let p = err_from_is_err_and c.from_residual.result c.from_residual.ensures.1 in
    rw (p.1, p.2) (whole_stops c.args.b.now Refused (λ t. after_read c.args.c.now Refused (equal_call t)) c.in_err-t.ensures)

pub returns-in_err-u : goal.returns-in_err-u
unfolding equal_bytes
returns-in_err-u c =
    let p = err_from_is_err_and c.from_residual-in_err-u.result c.from_residual-in_err-u.ensures.1 in
    rw (p.1, p.2) (whole_stops c.args.c.now Refused (equal_call _) c.in_err-u.ensures
    ∙ whole_goes_on c.args.b.now Refused (λ t. after_read c.args.c.now Refused (equal_call t)) c.in_ok-t.ensures)

pub returns : goal.returns
unfolding equal_bytes
returns c =
    c.equal.ensures
    ∙ whole_goes_on c.args.c.now Refused (equal_call _) c.in_ok-u.ensures
    ∙ whole_goes_on c.args.b.now Refused (λ t. after_read c.args.c.now Refused (equal_call t)) c.in_ok-t.ensures
