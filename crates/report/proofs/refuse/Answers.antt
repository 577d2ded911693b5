-- The word, the number and the newline follow one another without a gap, and are written where there is room for them.
use mathlib.Core.Path.{ap, ◌∙◌}
use Prim.Native.Nat.{◌≤◌, ◌<◌}
use native.Mathlib.Omega.{arith}
use lib.ListN.{length, length-set}
use Rattle.tables.specs.Refusals.{refusal_number}
use Rattle.running.specs.declared.Running.{Running}
use Rattle.running.specs.States.{none_applied}
use Rattle.text.specs.Text.{decimal}
use Rattle.text.proofs.Writing.{decimal_most}
use Rattle.text.proofs.Blocks.{code_small}
use Rattle.report.specs.Reports.{refused_text}
use Rattle.report.proofs.Fitting.{refused_length, refused_written, reported_fits, reported_narrow}
use Rattle.report.proofs.Fitting.{fitted_fits, fitted_narrow, narrowed_none}
use Rattle.report.proofs.refuse.Goals as goal

pub overflow_add-end : goal.overflow_add-end
overflow_add-end c = omega (arith, c.digits-end.ensures, decimal_most c.from-code.result)

pub returns-then-out-end : goal.returns-then-out-end
returns-then-out-end c =
    let code = refusal_number c.args.r in
    let out = c.args.out.now in
    let end = c.digits-end.ensures ∙ ap length (ap decimal c.from-code.ensures) in
    let short : length out < length (refused_text code) =
    omega (arith, refused_length code, c.if-out-end.true, end) in record {
      answer = rw (c.refused-state.ensures, c.from-code.ensures)
          (ap (λ (s : Running). record { state = s; size = 0 }) (narrowed_none c.args.r)
          ∙ reported_narrow (none_applied code 0) (refused_text code) out short);
      bytes = fitted_narrow (refused_text code) out short;
    }

pub write-requires : goal.write-requires
write-requires c = omega (arith, c.if-out-end.false)

pub write_decimal-requires : goal.write_decimal-requires
write_decimal-requires c = (
  rw c.from-code.ensures (code_small c.args.r),
  omega (arith, c.if-out-end.false, c.digits-end.ensures, c.write.auto.out),
)

pub bounds-out-end : goal.bounds-out-end
bounds-out-end c =
    omega (arith, c.if-out-end.false, c.write.auto.out, c.write_decimal.auto.out)

pub shape_of-out : goal.shape_of-out
shape_of-out c =
    rw length-set (c.write_decimal.auto.out ∙ c.write.auto.out)

pub returns : goal.returns
returns c =
    let code = refusal_number c.args.r in
    let out = c.args.out.now in
    let long = refused_length code in
    let end = c.digits-end.ensures ∙ ap length (ap decimal c.from-code.ensures) in
    let fits : length (refused_text code) ≤ length out = omega (arith, long, c.if-out-end.false, end) in record {
      answer = rw (c.refused-state.ensures, c.from-code.ensures, end, ← long)
          (reported_fits (none_applied code 0) (refused_text code) out fits);
      bytes = rw (c.write_decimal.ensures, c.write.ensures, c.from-code.ensures)
          (refused_written code out (omega (arith, end)) ∙ fitted_fits (refused_text code) out fits);
    }
