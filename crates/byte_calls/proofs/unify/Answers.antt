-- A refusal of the reader is returned as it is; the table that was read goes to `unify_terms`.
use mathlib.Core.Path.{◌∙◌, sym}
use Rattle.operations.specs.Operations.{side_of}
use Rattle.byte_calls.specs.ByteCalls.{refuses_zero, unify_bytes, terms_call}
use Rattle.byte_calls.proofs.AfterChecks.{whole_stops, whole_goes_on}
use Rattle.byte_calls.proofs.unify.Goals as goal

pub returns-in-Err : goal.returns-in-Err
unfolding unify_bytes
returns-in-Err c =
    c.refused.ensures ∙ whole_stops c.args.b.now refuses_zero
    (λ t. terms_call (side_of c.args.side) t c.args.left.now c.args.right.now) c.in-Err.ensures

pub returns-in-Ok : goal.returns-in-Ok
unfolding unify_bytes
returns-in-Ok c =
    c.unify_terms.ensures ∙ whole_goes_on c.args.b.now refuses_zero
    (λ t. terms_call (side_of c.args.side) t c.args.left.now c.args.right.now) c.in-Ok.ensures
