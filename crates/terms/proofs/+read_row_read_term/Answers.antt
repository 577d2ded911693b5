-- By recursion: what the calls below promise closes each return by one law of `Reader`.
use Rattle.std.proofs.Common.{ℕ, ◌≤◌, ◌∙◌, sym, ap, length, arith}
use Rattle.terms.proofs.Reader.{parsed_inside, row_inside, plus, one_more, row_none, row_more, term_none}
use Rattle.terms.proofs.Reader.{term_variable, term_head}
use Rattle.terms.proofs.+read_row_read_term.Goals as goal
use Rattle.terms.proofs.+read_row_read_term.Goals.{read_row-In_ok-n}

-- ---- read_row

-- the first term uses no more than there is
inside : (t : ℕ) (c : read_row-In_ok-n t) → c.in_ok-n.n ≤ length c.args.ts.now
inside t c = parsed_inside c.args.l c.in_ok-n.n c.args.ts.now (sym c.in_ok-n.ensures)

pub read_row-returns-then-count-eq0 : goal.read_row-returns-then-count-eq0
read_row-returns-then-count-eq0 t c = rw c.if-count-eq0.true (row_none c.args.l c.args.ts.now)

pub read_row-returns-in_err-n : goal.read_row-returns-in_err-n
read_row-returns-in_err-n t c =
    c.from_residual.ensures
    ∙ row_more c.args.l c.args.count c.args.ts.now _ c.if-count-eq0.false (sym c.in_err-n.ensures)

pub read_row-offset_bounds-ts-n : goal.read_row-offset_bounds-ts-n
read_row-offset_bounds-ts-n t c = omega (arith, inside t c, c.well_formed)

pub read_row-slice_bounds-read_row-count : goal.read_row-slice_bounds-read_row-count
read_row-slice_bounds-read_row-count t c = inside t c

pub read_row-slice_bounds-read_row-start : goal.read_row-slice_bounds-read_row-start
read_row-slice_bounds-read_row-start t c = inside t c

pub read_row-returns-in_err-m : goal.read_row-returns-in_err-m
read_row-returns-in_err-m t c =
    c.from_residual-in_err-m.ensures
    ∙ ap (plus c.in_ok-n.n) c.in_err-m.ensures
    ∙ row_more c.args.l c.args.count c.args.ts.now _ c.if-count-eq0.false (sym c.in_ok-n.ensures)

pub read_row-overflow_add-result : goal.read_row-overflow_add-result
read_row-overflow_add-result t c =
    omega (
      arith,
      inside t (goal.at.read_row-overflow_add-result t c).In_ok-n,
      row_inside c.args.l _ c.in_ok-n.n c.in_ok-m.m c.args.ts.now (sym c.in_ok-m.ensures),
      c.well_formed,
    )

pub read_row-returns : goal.read_row-returns
read_row-returns t c =
    ap (plus c.in_ok-n.n) c.in_ok-m.ensures
    ∙ row_more c.args.l c.args.count c.args.ts.now _ c.if-count-eq0.false (sym c.in_ok-n.ensures)

-- ---- read_term

pub read_term-returns-then-ts-eq0 : goal.read_term-returns-then-ts-eq0
read_term-returns-then-ts-eq0 t c = term_none c.args.l c.args.ts.now c.if-ts-eq0.true

pub read_term-returns-then-x-l : goal.read_term-returns-then-x-l
read_term-returns-then-x-l t c =
    term_variable c.args.l c.args.ts.now _ c.if-ts-eq0.false c.if-t-lt-FIRST_HEAD.true c.if-x-l.true

pub read_term-returns-then-t-lt-FIRST_HEAD : goal.read_term-returns-then-t-lt-FIRST_HEAD
read_term-returns-then-t-lt-FIRST_HEAD t c =
    term_variable c.args.l c.args.ts.now _ c.if-ts-eq0.false c.if-t-lt-FIRST_HEAD.true c.if-x-l.false

pub read_term-returns-in_err-n : goal.read_term-returns-in_err-n
read_term-returns-in_err-n t c =
    c.from_residual.ensures
    ∙ ap one_more c.in_err-n.ensures
    ∙ term_head c.args.l c.args.ts.now c.if-ts-eq0.false c.if-t-lt-FIRST_HEAD.false

pub read_term-overflow_add-result : goal.read_term-overflow_add-result
read_term-overflow_add-result t c =
    omega (arith, row_inside c.args.l _ 1 c.in_ok-n.n c.args.ts.now (sym c.in_ok-n.ensures), c.well_formed)

pub read_term-returns : goal.read_term-returns
read_term-returns t c =
    ap one_more c.in_ok-n.ensures ∙ term_head c.args.l c.args.ts.now c.if-ts-eq0.false c.if-t-lt-FIRST_HEAD.false
