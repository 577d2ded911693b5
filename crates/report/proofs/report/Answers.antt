-- Above 8192 bytes, an unread table, or the rest of the input: each way is one law of the whole.
use mathlib.Core.Path.{ap}
use Rattle.tables.specs.declared.Answered.{Answered}
use Rattle.tables.proofs.Checking.{accepted_unless}
use Rattle.report.proofs.Inputs.{input_long, input_rest, input_refused, reads, input_good, input_goes}
use Rattle.report.proofs.report.Goals as goal

pub returns-then-input-gt-INPUT : goal.returns-then-input-gt-INPUT
returns-then-input-gt-INPUT c =
    let same = input_long c.args.input.now c.if-input-gt-INPUT.true in
    let reported = c.refuse.ensures in
    record {
      answer = rw (same.0, same.1) at reported.answer;
      bytes = rw same.1 at reported.bytes;
    }

pub front_length-end-requires : goal.front_length-end-requires
front_length-end-requires c =
    ap (λ (a : Answered). a.answer)
    (reads c.args.input.now c.if-input-gt-INPUT.false c.read_table-read.ensures
    (accepted_unless _ c.in_default.not-Err))

pub report_rest-requires : goal.report_rest-requires
report_rest-requires c =
    input_good c.args.input.now c.if-input-gt-INPUT.false c.read_table-read.ensures
    (accepted_unless _ c.in_default.not-Err)

pub returns-in-Err : goal.returns-in-Err
returns-in-Err c =
    let same = input_refused c.args.input.now c.if-input-gt-INPUT.false c.read_table-read.ensures
    c.in-Err.is in
    let reported = c.refuse-in-Err.ensures in
    record {
      answer = rw (same.0, same.1) at reported.answer;
      bytes = rw same.1 at reported.bytes;
    }

pub returns : goal.returns
returns c =
    let input = c.args.input.now in
    let same = input_goes input c.if-input-gt-INPUT.false c.read_table-read.ensures (accepted_unless _ c.in_default.not-Err) in
    let reported = rw (input_rest input c.front_length-end.ensures.length) at c.report_rest.ensures in
    record {
      answer = rw (same.0, same.1) at reported.answer;
      bytes = rw same.1 at reported.bytes;
    }
