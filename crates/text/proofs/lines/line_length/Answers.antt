-- The words have at most 9 characters and the numbers at most 3 digits, so that the sums fit.
use Prim.Native.Nat.{◌≤◌}
use native.Mathlib.Omega.{arith}
use Rattle.text.proofs.Writing.{decimal_most}
use Rattle.text.proofs.lines.line_length.Goals as goal
use Rattle.text.proofs.lines.line_length.Goals.{After-digits-2}

-- each number has at most three digits
few : (c : After-digits-2) → (c.digits.result ≤ 3) × (c.digits-2.result ≤ 3)
few c =
    let a = c.args in (
      omega (arith, c.digits.ensures, decimal_most a.a),
      omega (arith, c.digits-2.ensures, decimal_most a.b),
    )

pub overflow_add-result : goal.overflow_add-result
overflow_add-result c =
    let f = few (goal.at.overflow_add-result c).After-digits-2 in
    omega (arith, f.0, f.1, c.requires.0, c.requires.1)

pub overflow_add-result-2 : goal.overflow_add-result-2
overflow_add-result-2 c =
    let f = few (goal.at.overflow_add-result-2 c).After-digits-2 in
    omega (arith, f.0, f.1, c.requires.0, c.requires.1)

pub overflow_add-result-3 : goal.overflow_add-result-3
overflow_add-result-3 c =
    let f = few (goal.at.overflow_add-result-3 c).After-digits-2 in
    omega (arith, f.0, f.1, c.requires.0, c.requires.1)

pub overflow_add-result-4 : goal.overflow_add-result-4
overflow_add-result-4 c =
    let f = few (goal.at.overflow_add-result-4 c).After-digits-2 in
    omega (arith, f.0, f.1, c.requires.0, c.requires.1)
