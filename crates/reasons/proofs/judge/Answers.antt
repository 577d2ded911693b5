-- The table's check comes first; the verdict is that of `judge_checked`.
use mathlib.Core.Path.{sym}
use Rattle.std.proofs.lemmas.Result.{err_from_is_err_and}
use Rattle.tables.specs.Refusals.{if_accepted}
use Rattle.reasons.specs.Verdicts.{reason_call}
use Rattle.reasons.proofs.judge.Goals as goal

pub returns-in_err-check : goal.returns-in_err-check
unfolding reason_call if_accepted
returns-in_err-check c =
    let p = err_from_is_err_and c.from_residual.result c.from_residual.ensures.1 in
    rw (p.1, p.2, sym c.in_err-check.ensures.answer)
