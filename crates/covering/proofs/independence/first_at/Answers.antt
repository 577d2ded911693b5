-- The set below position i is the high half, the bit of i the low one (`first_word`).
use native.Mathlib.Nat.{lt_of_le_of_lt}
use native.Mathlib.Omega.{arith}
use lib.Bits.{and_le_l}
use lib.Pow.{pow_pos}
use Rattle.words.proofs.Positions.{one_shl}
use Rattle.covering.proofs.FirstVariables.{first_word}
use Rattle.covering.proofs.independence.first_at.Goals as goal

pub overflow_sub-result : goal.overflow_sub-result
overflow_sub-result c = rw (one_shl c.args.i 32 (omega arith)) (pow_pos c.args.i)

pub overflow_cast-result : goal.overflow_cast-result
overflow_cast-result c = record { fits = lt_of_le_of_lt (and_le_l c.args.set _) (omega arith) }

pub returns : goal.returns
returns c =
    λ k i n e.
    rw (e, one_shl c.args.i 32 (omega arith)) (first_word k c.args.i i (omega arith))
