-- The equations are checked first: a refusal gives only its number, else they are run.
use mathlib.Core.Path.{sym, ◌∙◌}
use native.Mathlib.Omega.{arith}
use Rattle.tables.proofs.Checking.{width_most}
use Rattle.equation_forms.specs.declared.Left.TheVariants.{Variable}
use Rattle.equation_forms.proofs.Tests.{equations_passed}
use Rattle.report.proofs.Inputs.{rest_refused, rest_goes}
use Rattle.report.proofs.report_rest.Goals as goal

pub check-requires : goal.check-requires
check-requires c = let most = width_most _ c.requires.width in omega (arith, most)

pub write_fitting-requires : goal.write_fitting-requires
write_fitting-requires c =
    let checked = sym c.check.ensures ∙ c.in-Ok.is in
    ((equations_passed Variable c.args.t.l c.args.q.now checked).sizes, c.requires)

pub returns-in-Err : goal.returns-in-Err
returns-in-Err c =
    let checked = sym c.check.ensures ∙ c.in-Err.is in
    let same = rest_refused c.args.t c.args.q.now checked in
    let reported = c.refuse.ensures in
    record {
      answer = rw (same.0, same.1) at reported.answer;
      bytes = rw same.1 at reported.bytes;
    }

pub returns-in-Ok : goal.returns-in-Ok
returns-in-Ok c =
    let checked = sym c.check.ensures ∙ c.in-Ok.is in
    let same = rest_goes c.args.t c.args.q.now checked in
    let reported = c.write_fitting.ensures in
    record {
      answer = rw (same.0, same.1) at reported.answer;
      bytes = rw same.1 at reported.bytes;
    }
