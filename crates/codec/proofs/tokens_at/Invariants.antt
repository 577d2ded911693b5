-- Loop: `out` has the first i numbers, then zeros (`read_turn`).
use Rattle.std.proofs.Common.{◌≡◌, drop}
use Rattle.codec.specs.Numbers.{numbers, with_zeros}
use Rattle.codec.proofs.tokens_at.Given as goal

abbrev pub invariant-loop-i : goal.invariant-loop-i
invariant-loop-i g l = l.out ≡ with_zeros g.row.N (numbers l.i (drop l.at l.b))
