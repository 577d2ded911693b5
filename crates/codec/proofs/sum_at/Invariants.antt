-- Loop: `total` is the sum of the first i numbers, and at most 65535 for each (`sum_turn`).
use Rattle.std.proofs.Common.{◌≡◌, ◌*◌, ◌≤◌, drop}
use Rattle.codec.specs.Numbers.{numbers, sum}
use Rattle.codec.proofs.sum_at.Given as goal

abbrev pub invariant-loop-i : goal.invariant-loop-i
invariant-loop-i l = (l.total ≡ sum (numbers l.i (drop l.at l.b))) × (l.total ≤ 65535 * l.i)
