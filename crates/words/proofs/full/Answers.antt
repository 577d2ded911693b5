-- `1 << l` is 2^l (`one_shl`), and one less is below 2^32, so that nothing is cut off.
use Rattle.std.proofs.Common.{mod-eq_of_lt, arith, pow_pos, pow_mono}
use Rattle.words.proofs.Positions.{one_shl}
use Rattle.words.proofs.full.Goals as goal

pub overflow_sub-result : goal.overflow_sub-result
overflow_sub-result c = rw (one_shl c.args.l 64 (omega arith)) (pow_pos c.args.l)

pub returns : goal.returns
returns c =
    rw (one_shl c.args.l 64 (omega arith))
    (mod-eq_of_lt (omega (arith, pow_mono {i = c.args.l} {j = 32} (omega arith), pow_pos c.args.l)))
