-- A refusal of the reader is returned as it is; the table that was read is good and goes to `reason_term`.
use mathlib.Core.Path.{◌∙◌}
use Rattle.std.proofs.lemmas.Result.{err_from_is_err_and}
use Rattle.tables.specs.declared.Table.{Table}
use Rattle.reasons.specs.Verdicts.{Verdict}
use Rattle.reasons.specs.Verdicts.{Refused}
use Rattle.byte_calls.specs.ByteCalls.{term_reason, reason_bytes}
use Rattle.byte_calls.proofs.AfterChecks.{whole_stops, whole_goes_on, read_table_good}
use Rattle.byte_calls.proofs.reason.Goals as goal
use Rattle.byte_calls.proofs.reason.Goals.{Start}

-- what is told of the table that was read
abbrev ask : Start → Table → Verdict
ask c t = term_reason t c.args.x c.args.term.now c.args.s

pub reason_term-requires : goal.reason_term-requires
reason_term-requires c = read_table_good c.args.b.now c.in_ok-t.ensures

pub returns-in_err-t : goal.returns-in_err-t
unfolding reason_bytes
returns-in_err-t c =
    let p = err_from_is_err_and c.from_residual.result c.from_residual.ensures.1 in
    rw (p.1, p.2) (whole_stops c.args.b.now Refused (ask (goal.at.returns-in_err-t c).Start) c.in_err-t.ensures)

pub returns : goal.returns
unfolding reason_bytes
returns c =
    c.reason_term.ensures ∙ whole_goes_on c.args.b.now Refused (ask (goal.at.returns c).Start) c.in_ok-t.ensures
