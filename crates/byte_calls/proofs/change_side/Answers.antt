-- A refusal of the reader is returned as it is; the table that was read goes to the call on values.
use mathlib.Core.Path.{◌∙◌, sym}
use Rattle.operations.specs.Operations.{side_of}
use Rattle.operations.specs.Operations.{change_side_call}
use Rattle.byte_calls.specs.ByteCalls.{refuses_zero, change_side_bytes}
use Rattle.byte_calls.proofs.AfterChecks.{whole_stops, whole_goes_on}
use Rattle.byte_calls.proofs.change_side.Goals as goal

pub returns-in-Err : goal.returns-in-Err
unfolding change_side_bytes
returns-in-Err c =
    c.refused.ensures ∙ whole_stops c.args.b.now refuses_zero (λ t. change_side_call (side_of c.args.side) t) c.in-Err.ensures

pub returns-in-Ok : goal.returns-in-Ok
unfolding change_side_bytes
returns-in-Ok c =
    c.change_side.ensures ∙ whole_goes_on c.args.b.now refuses_zero (λ t. change_side_call (side_of c.args.side) t) c.in-Ok.ensures
