-- Each refusal before the first equation gives its state; where the whole input passes its checks the equations are applied.
use mathlib.Core.Path.{sym, ◌∙◌}
use native.Mathlib.Omega.{arith}
use Rattle.tables.proofs.Checking.{accepted_unless}
use Rattle.equation_forms.proofs.Tests.{equations_passed}
use Rattle.running.proofs.Beginning.{read_few, run_unread, run_unchecked, run_goes}
use Rattle.running.proofs.run.Goals as goal

pub check-requires : goal.check-requires
check-requires c =
    let few = read_few c.args.b.now c.read_table-read.ensures (accepted_unless _ c.in_default.not-Err) in
    omega (arith, few)

pub apply-requires : goal.apply-requires
apply-requires c =
    let checked = sym c.check.ensures ∙ c.in-Ok.is in
    (equations_passed c.args.f _ c.args.q.now checked).sizes

pub returns-in-Err : goal.returns-in-Err
returns-in-Err c =
    rw (c.refused.ensures, c.from.ensures)
    (run_unread c.args.f c.args.side c.args.b.now c.args.q.now
    c.read_table-read.ensures c.in-Err.is)

pub returns-in-Err-check : goal.returns-in-Err-check
returns-in-Err-check c =
    rw (c.refused-in-Err-check.ensures, c.from-in-Err-check.ensures)
    (run_unchecked c.args.f c.args.side c.args.b.now c.args.q.now
    c.read_table-read.ensures (accepted_unless _ c.in_default.not-Err)
    (sym c.check.ensures ∙ c.in-Err-check.is))

pub returns-in-Ok : goal.returns-in-Ok
returns-in-Ok c =
    c.apply.ensures
    ∙ run_goes c.args.f c.args.side c.args.b.now c.args.q.now
    c.read_table-read.ensures (accepted_unless _ c.in_default.not-Err)
    (sym c.check.ensures ∙ c.in-Ok.is)
