-- The check of the tokens gives the term and its set; the bit of x, which is 1 to l, is the set of x alone, and the tokens are
-- those of the term.
use mathlib.Core.Path.{sym}
use native.Mathlib.Omega.{arith}
use Rattle.std.proofs.lemmas.Result.{err_from_is_err_and}
use Rattle.terms.proofs.Checking.{checked_refuses}
use Rattle.walks.proofs.Starting.{all_tokens}
use Rattle.operations.proofs.Checked.{Read, read_equation, read_counted}
use Rattle.operations.proofs.read_equation.Goals as goal
use Rattle.operations.proofs.read_equation.Goals.{In_ok-m}

-- the equation that was read
read : (c : In_ok-m) → let a = c.args in
    Read a.l a.x a.ts.now c.in_ok-m.m
read c = read_equation _ _ _ _ (sym c.in_ok-m.ensures)

pub overflow_sub-x : goal.overflow_sub-x
overflow_sub-x c = omega (arith, (read (goal.at.overflow_sub-x c).In_ok-m).low)

pub overflow_shl-x : goal.overflow_shl-x
overflow_shl-x c =
    let r = read (goal.at.overflow_shl-x c).In_ok-m in
    omega (arith, c.requires, r.high, r.low)

pub returns-in_err-m : goal.returns-in_err-m
returns-in_err-m c =
    let p = err_from_is_err_and c.from_residual.result c.from_residual.ensures.1 in
    rw (p.1, p.2) (checked_refuses _ _ _ (sym c.in_err-m.ensures))

pub returns : goal.returns
returns c =
    let r = read (goal.at.returns c).In_ok-m in
    let short = all_tokens c.args.ts.now (λ i. omega (arith, c.shared_slice_known-1.given i)) in
    (r.term, r.is, c.equation_of.ensures _ _ (read_counted c.requires short r))
