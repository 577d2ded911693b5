-- Both ways promise the same, and 256 times 256 fits.
use native.Mathlib.Nat.{mul-le-mul}
use native.Mathlib.Omega.{arith}
use Rattle.candidates.proofs.pairs.pairs.Goals as goal

pub overflow_mul-an : goal.overflow_mul-an
overflow_mul-an c = omega (arith, mul-le-mul c.requires.0 c.requires.1)
