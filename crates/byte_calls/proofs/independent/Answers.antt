-- A refusal of the reader is returned as it is; the table that was read goes to the question on values.
use mathlib.Core.Path.{◌∙◌}
use Rattle.std.proofs.lemmas.Result.{err_from_is_err_and}
use Rattle.operations.specs.Operations.{side_of}
use Rattle.questions.specs.Replies.{Refused}
use Rattle.questions.specs.Replies.{independent_call}
use Rattle.byte_calls.specs.ByteCalls.{independent_bytes}
use Rattle.byte_calls.proofs.AfterChecks.{whole_stops, whole_goes_on}
use Rattle.byte_calls.proofs.independent.Goals as goal

pub returns-in_err-t : goal.returns-in_err-t
unfolding independent_bytes
returns-in_err-t c =
    let p = err_from_is_err_and c.from_residual.result c.from_residual.ensures.1 in
    rw (p.1, p.2) (whole_stops c.args.b.now Refused
    (λ t. independent_call (side_of c.args.side) t c.args.first c.args.second) c.in_err-t.ensures)

pub returns : goal.returns
unfolding independent_bytes
returns c =
    c.independent.ensures ∙ whole_goes_on c.args.b.now Refused
    (λ t. independent_call (side_of c.args.side) t c.args.first c.args.second) c.in_ok-t.ensures
