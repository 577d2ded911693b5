-- A refusal of either reader is returned as it is, the first's first; both tables go to the call on values.
use mathlib.Core.Path.{◌∙◌}
use Rattle.operations.specs.Operations.{side_of, join_call}
use Rattle.byte_calls.specs.ByteCalls.{refuses_zero, after_read, join_bytes}
use Rattle.byte_calls.proofs.AfterChecks.{whole_stops, whole_goes_on}
use Rattle.byte_calls.proofs.join.Goals as goal

pub returns-in-Err : goal.returns-in-Err
unfolding join_bytes
returns-in-Err c =
    c.refused.ensures ∙ whole_stops c.args.b.now refuses_zero
    (λ t. after_read c.args.c.now refuses_zero (join_call (side_of c.args.side) t)) c.in-Err.ensures

pub returns-in-Err-read_whole : goal.returns-in-Err-read_whole
unfolding join_bytes
returns-in-Err-read_whole c =
    c.refused-in-Err-read_whole.ensures
    ∙ whole_stops c.args.c.now refuses_zero (join_call (side_of c.args.side) _) c.in-Err-read_whole.ensures
    ∙ whole_goes_on c.args.b.now refuses_zero
    (λ t. after_read c.args.c.now refuses_zero (join_call (side_of c.args.side) t)) c.in-Ok.ensures

pub returns-in-Ok-read_whole : goal.returns-in-Ok-read_whole
unfolding join_bytes
returns-in-Ok-read_whole c =
    c.join.ensures
    ∙ whole_goes_on c.args.c.now refuses_zero (join_call (side_of c.args.side) _) c.in-Ok-read_whole.ensures
    ∙ whole_goes_on c.args.b.now refuses_zero
    (λ t. after_read c.args.c.now refuses_zero (join_call (side_of c.args.side) t)) c.in-Ok.ensures
