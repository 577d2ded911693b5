-- A word has at most 64 bits (`ones-le`).
use native.Mathlib.Omega.{arith}
use lib.Bits.{bit_and, xor_lt, and_lt}
use lib.Count.{ones-le}
use Rattle.covering.proofs.cover.rank.Goals as goal

pub returns-clause-bound : goal.returns-clause-bound
returns-clause-bound c =
    let a = c.args in
    let kept = and_lt 64 a.v a.y (omega arith) (omega arith) in
    ones-le 64 _ (xor_lt 64 (bit_and a.v a.y) a.v kept (omega arith))
