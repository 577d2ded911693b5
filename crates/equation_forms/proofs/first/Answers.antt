-- The form has room for its two sizes, and no equation stands before the first.
use native.Mathlib.Omega.{arith}
use Rattle.equation_forms.proofs.first.Goals as goal

pub number_at-requires : goal.number_at-requires
number_at-requires c = omega (arith, c.requires.1.long)

pub returns : goal.returns
returns c = rw c.number_at.ensures
