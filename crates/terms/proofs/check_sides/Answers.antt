-- One return for each check, in the definition's order.
use mathlib.Core.Path.{◌≡◌, sym, ap}
use Prim.Native.Nat.{◌+◌, ◌≤◌}
use native.Mathlib.Omega.{arith}
use lib.ListN.{length}
use Rattle.std.proofs.lemmas.Result.{err_from_is_err_and}
use Rattle.terms.specs.Checks.{check_answer}
use Rattle.terms.proofs.Checking.{checked_reads, checked_refuses, sides_long, sides_left, sides_right, sides_read}
use Rattle.terms.proofs.check_sides.Goals as goal
use Rattle.terms.proofs.check_sides.Goals.{Else-left-right}

-- the tokens are few enough
few : (c : Else-left-right) → length c.args.left.now + length c.args.right.now ≤ 1024
few c = omega (arith, c.if-left-gt-TOKENS.false, c.if-left-right.false)

pub returns-then-left-gt-TOKENS : goal.returns-then-left-gt-TOKENS
returns-then-left-gt-TOKENS c = sides_long _ _ _ (omega (arith, c.if-left-gt-TOKENS.true))

pub returns-then-left-right : goal.returns-then-left-right
returns-then-left-right c = sides_long _ _ _ (omega (arith, c.if-left-gt-TOKENS.false, c.if-left-right.true))

pub returns-in_err-check_term : goal.returns-in_err-check_term
returns-in_err-check_term c =
    let p = err_from_is_err_and c.from_residual.result c.from_residual.ensures.1 in
    rw (p.1, p.2) (sides_left _ _ _ (few (goal.at.returns-in_err-check_term c).Else-left-right)
    (checked_refuses _ _ _ (sym c.in_err-check_term.ensures)))

pub returns-in_err-check_term-2 : goal.returns-in_err-check_term-2
returns-in_err-check_term-2 c =
    let p = err_from_is_err_and c.from_residual-in_err-check_term-2.result c.from_residual-in_err-check_term-2.ensures.1 in
    let left = checked_reads _ _ _ (sym c.in_ok-check_term.ensures) in
    rw (p.1, p.2) (sides_right _ _ _ (few (goal.at.returns-in_err-check_term-2 c).Else-left-right) left.1
    (checked_refuses _ _ _ (sym c.in_err-check_term-2.ensures)))

pub returns : goal.returns
unfolding check_answer
returns c =
    let left = checked_reads _ _ _ (sym c.in_ok-check_term.ensures) in
    let right = checked_reads _ _ _ (sym c.in_ok-check_term-2.ensures) in
    sym (ap check_answer (sides_read _ _ _ (few (goal.at.returns c).Else-left-right) left.1 right.1))
