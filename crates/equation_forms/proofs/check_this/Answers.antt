-- There are two bytes a token and at most 1024 tokens (`array_room`), and the array they are read into begins with them:
-- those of the term, or of the left side and then of the right.
use mathlib.Core.Path.{◌≡◌, sym, ap, ◌∙◌}
use native.Mathlib.Omega.{arith}
use borrow.Author.Rules.{rules}
use lib.Dec.{lit<}
use lib.ListN.{length}
use lib.Seq.{length-take-le}
use Rattle.std.proofs.lemmas.Result.{err_from_is_err_and}
use Rattle.terms.specs.Checks.{Written, check_written, check_answer}
use Rattle.equation_forms.proofs.Cursors.{tokens_few}
use Rattle.equation_forms.proofs.EachEquation.{Filled, array_room, one_term_read, left_first, two_terms_read}
use Rattle.equation_forms.proofs.EachEquation.{one_term_refused, one_term_accepted}
use Rattle.equation_forms.proofs.check_this.Goals as goal
use Rattle.equation_forms.proofs.check_this.Goals.{After-tokens_at-row}

-- the tokens are in the array
filled : (c : After-tokens_at-row) → Filled c.args.f c.args.c c.args.b.now
    c.left_number-x.result c.tokens-part.result.now c.tokens_at-row.result
filled c =
    record {
      on = c.requires.1;
      here = c.requires.2;
      left = c.left_number-x.ensures;
      is = c.tokens-part.ensures;
      filled = c.tokens_at-row.ensures;
    }

long : (c : After-tokens_at-row) → length c.tokens_at-row.result ≡ 1024
long c = search rules

pub tokens_at-row-requires : goal.tokens_at-row-requires
tokens_at-row-requires c =
    let p = c.requires in
    (lit< tt, (rw c.tokens-part.ensures (tokens_few p.1 p.2), omega arith))

pub slice_bounds-check_equation-end : goal.slice_bounds-check_equation-end
slice_bounds-check_equation-end c =
    let h = filled (goal.at.slice_bounds-check_equation-end c).After-tokens_at-row in
    let whole = long (goal.at.slice_bounds-check_equation-end c).After-tokens_at-row in
    sym (length-take-le _ c.tokens_at-row.result (omega (arith, array_room h, whole)))

pub slice_bounds-ss-end : goal.slice_bounds-ss-end
slice_bounds-ss-end c =
    let h = filled (goal.at.slice_bounds-ss-end c).After-tokens_at-row in
    let whole = long (goal.at.slice_bounds-ss-end c).After-tokens_at-row in
    sym (length-take-le _ c.tokens_at-row.result (omega (arith, left_first h c.in-Term.is, array_room h, whole)))

pub slice_bounds-rs-start : goal.slice_bounds-rs-start
slice_bounds-rs-start c = left_first (filled (goal.at.slice_bounds-rs-start c).After-tokens_at-row) c.in-Term.is

pub slice_bounds-rs-count : goal.slice_bounds-rs-count
slice_bounds-rs-count c =
    left_first (filled (goal.at.slice_bounds-rs-count c).After-tokens_at-row) c.in-Term.is

pub returns-in_err-check_equation-in-Variable : goal.returns-in_err-check_equation-in-Variable
returns-in_err-check_equation-in-Variable c =
    let p = err_from_is_err_and c.from_residual.result c.from_residual.ensures.1 in
    let h = filled (goal.at.returns-in_err-check_equation-in-Variable c).After-tokens_at-row in
    rw (p.1, p.2) (one_term_refused _ _ _ (sym c.in_err-check_equation-in-Variable.ensures)
    ∙ ap (λ (w : Written). check_answer (check_written c.args.l w)) (one_term_read h c.in-Variable.is))

pub returns-in_ok-check_equation-in-Variable : goal.returns-in_ok-check_equation-in-Variable
returns-in_ok-check_equation-in-Variable c =
    let h = filled (goal.at.returns-in_ok-check_equation-in-Variable c).After-tokens_at-row in
    one_term_accepted _ _ _ (sym c.in_ok-check_equation-in-Variable.ensures)
    ∙ ap (λ (w : Written). check_answer (check_written c.args.l w)) (one_term_read h c.in-Variable.is)

pub returns-in-Term : goal.returns-in-Term
unfolding check_written
returns-in-Term c =
    c.check_sides.ensures
    ∙ ap (λ (w : Written). check_answer (check_written c.args.l w))
    (two_terms_read (filled (goal.at.returns-in-Term c).After-tokens_at-row) c.in-Term.is)
