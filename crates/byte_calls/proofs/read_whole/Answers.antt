-- What the reader answers, as one value.
use Rattle.std.proofs.lemmas.Result.{err_from_is_err_and}
use Rattle.byte_calls.proofs.AfterChecks.{whole_read, whole_refused}
use Rattle.byte_calls.proofs.read_whole.Goals as goal

pub returns-in_err-read : goal.returns-in_err-read
returns-in_err-read c =
    let p = err_from_is_err_and c.from_residual.result c.from_residual.ensures.1 in
    rw (p.1, p.2) (whole_refused c.args.b.now c.read_table-read.ensures c.in_err-read.was)

pub returns : goal.returns
returns c = whole_read c.args.b.now c.read_table-read.ensures c.in_ok-read.was
