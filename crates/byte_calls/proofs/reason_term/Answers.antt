-- The check of the bytes; at most 1024 tokens then stand at the front of the array.
use mathlib.Core.Path.{◌≡◌, sym, ◌∙◌}
use native.Mathlib.Omega.{arith}
use borrow.Author.Rules.{rules}
use lib.Dec.{lit<}
use lib.ListN.{length}
use lib.Seq.{length-take-le}
use Rattle.std.proofs.lemmas.Result.{err_from_is_err_and}
use Rattle.byte_calls.proofs.AfterChecks.{bytes_few, reason_bytes_refused, reason_bytes_accepted}
use Rattle.byte_calls.proofs.reason_term.Goals as goal

pub tokens_at-row-requires : goal.tokens_at-row-requires
tokens_at-row-requires c = (lit< tt, (bytes_few c.args.term.now (sym c.in_ok-check_bytes.ensures), omega arith))

pub slice_bounds-judge_checked-end : goal.slice_bounds-judge_checked-end
slice_bounds-judge_checked-end c =
    let few = bytes_few c.args.term.now (sym c.in_ok-check_bytes.ensures) in
    let row = c.tokens_at-row.result in
    let long : length row ≡ 1024 = search rules in sym (length-take-le _ row (omega (arith, few, long)))

pub returns-in_err-check_bytes : goal.returns-in_err-check_bytes
returns-in_err-check_bytes c =
    let a = c.args in
    let p = err_from_is_err_and c.from_residual.result c.from_residual.ensures.1 in
    rw (p.1, p.2) (reason_bytes_refused a.t a.x a.term.now a.s (sym c.in_err-check_bytes.ensures))

pub returns : goal.returns
returns c =
    let a = c.args in
    c.judge_checked.ensures
    ∙ reason_bytes_accepted a.t a.x a.term.now a.s (sym c.in_ok-check_bytes.ensures) c.tokens_at-row.ensures
