-- A refusal of the reader is returned as it is; the table that was read goes to `equation_term`.
use mathlib.Core.Path.{◌∙◌, sym}
use Rattle.operations.specs.Operations.{side_of}
use Rattle.byte_calls.specs.ByteCalls.{refuses_zero, equation_bytes, term_call}
use Rattle.byte_calls.proofs.AfterChecks.{whole_stops, whole_goes_on}
use Rattle.byte_calls.proofs.equation.Goals as goal

pub returns-in-Err : goal.returns-in-Err
unfolding equation_bytes
returns-in-Err c =
    c.refused.ensures ∙ whole_stops c.args.b.now refuses_zero
    (λ t. term_call (side_of c.args.side) t c.args.x c.args.term.now) c.in-Err.ensures

pub returns-in-Ok : goal.returns-in-Ok
unfolding equation_bytes
returns-in-Ok c =
    c.equation_term.ensures ∙ whole_goes_on c.args.b.now refuses_zero
    (λ t. term_call (side_of c.args.side) t c.args.x c.args.term.now) c.in-Ok.ensures
