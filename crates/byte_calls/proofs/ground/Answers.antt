-- A refusal of the reader is returned as it is; the table that was read goes to the question on values.
use mathlib.Core.Path.{◌∙◌}
use Rattle.std.proofs.lemmas.Result.{err_from_is_err_and}
use Rattle.operations.specs.Operations.{side_of}
use Rattle.questions.specs.Replies.{Refused}
use Rattle.questions.specs.Replies.{ground_call}
use Rattle.byte_calls.specs.ByteCalls.{ground_bytes}
use Rattle.byte_calls.proofs.AfterChecks.{whole_stops, whole_goes_on}
use Rattle.byte_calls.proofs.ground.Goals as goal

pub returns-in_err-t : goal.returns-in_err-t
unfolding ground_bytes
returns-in_err-t c =
    let p = err_from_is_err_and c.from_residual.result c.from_residual.ensures.1 in
    rw (p.1, p.2) (whole_stops c.args.b.now Refused (λ t. ground_call (side_of c.args.side) t c.args.x) c.in_err-t.ensures)

pub returns : goal.returns
unfolding ground_bytes
returns c =
    c.ground.ensures ∙ whole_goes_on c.args.b.now Refused (λ t. ground_call (side_of c.args.side) t c.args.x) c.in_ok-t.ensures
