-- The check of the table, then that of the bytes; what passes both is the call on their tokens.
use mathlib.Core.Path.{refl, sym}
use Rattle.std.proofs.lemmas.Result.{err_from_is_err_and}
use Rattle.byte_calls.proofs.AfterChecks.{turned_as, terms_table_refused, terms_bytes_refused, terms_passed}
use Rattle.byte_calls.proofs.unify_parts.Goals as goal

pub unify_tokens-requires : goal.unify_tokens-requires
unify_tokens-requires c = (c.in_ok-check_parts.ensures.good.0 refl, sym c.in_ok-check_both_bytes.ensures)

pub returns-in_err-check_parts : goal.returns-in_err-check_parts
returns-in_err-check_parts c =
    let p = err_from_is_err_and c.from_residual.result c.from_residual.ensures.1 in
    rw (p.1, p.2) (record {
      bounded = tt;
      comes = turned_as (terms_table_refused _ _ _ _ (sym c.in_err-check_parts.ensures.answer));
    })

pub returns-in_err-check_both_bytes : goal.returns-in_err-check_both_bytes
returns-in_err-check_both_bytes c =
    let p = err_from_is_err_and c.from_residual-in_err-check_both_bytes.result c.from_residual-in_err-check_both_bytes.ensures.1 in
    rw (p.1, p.2) (record {
      bounded = tt;
      comes = turned_as
          (terms_bytes_refused _ _ _ _ (sym c.in_ok-check_parts.ensures.answer) (sym c.in_err-check_both_bytes.ensures));
    })

pub returns : goal.returns
returns c =
    let g = c.unify_tokens.ensures in record {
      bounded = g.bounded;
      comes = rw (terms_passed _ _ _ _ (sym c.in_ok-check_both_bytes.ensures)) g.comes;
    }
