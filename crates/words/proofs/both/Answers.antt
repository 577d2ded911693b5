-- `1 << i` is the bit of position i (`one_shl`); shifted and as it is, it stands in both halves (`both_halves_or`).
use Rattle.std.proofs.Common.{arith}
use Rattle.words.proofs.Positions.{one_shl, both_halves_or}
use Rattle.words.proofs.both.Goals as goal

pub returns : goal.returns
returns c = rw (one_shl c.args.i 64 (omega arith)) (both_halves_or c.args.i c.requires)
