-- What the checks of the equation come to decides: a refusal, or the equation that was read.
use Rattle.std.proofs.lemmas.Result.{err_from_is_err_and}
use Rattle.tables.specs.Refusals.{if_accepted}
use Rattle.tables.proofs.Checking.{good_passes}
use Rattle.terms.specs.Checks.{if_read}
use Rattle.operations.proofs.Checked.{good_wide}
use Rattle.reasons.specs.Verdicts.{reason_call}
use Rattle.reasons.proofs.judge_checked.Goals as goal

pub read_equation-requires : goal.read_equation-requires
read_equation-requires c = good_wide c.requires

pub returns-in_err-e : goal.returns-in_err-e
unfolding reason_call if_accepted if_read
returns-in_err-e c =
    let p = err_from_is_err_and c.from_residual.result c.from_residual.ensures.1 in
    rw (p.1, p.2, good_passes _ c.requires, c.in_err-e.ensures)

pub returns : goal.returns
unfolding reason_call if_accepted if_read
returns c =
    let g = c.in_ok-e.ensures in
    rw (good_passes _ c.requires, g.1) (c.judge_read.ensures (record { left = c.args.x; right = g.0 }) g.2)
