-- Loop: `care` and `value` are the words of the positions of the bytes read so far, the last of the row, none of which is 243
-- or more (`taken`).
use Rattle.std.proofs.Common.{◌≡◌, true, ◌-◌, ◌^◌, ◌<◌, length, drop}
use Rattle.words.specs.Words.{care_of, value_of}
use Rattle.packing.specs.Packing.{row_positions, all_packed}
use Rattle.packing.proofs.row_positions.Given as goal

abbrev pub invariant-loop-b : goal.invariant-loop-b
invariant-loop-b l =
    let rest = drop (length l.row - length l.yielded) l.row in
    (goal.iterator-loop-b).can_next l.b-iterator
    × (goal.iterator-loop-b).is_finite l.b-iterator
    × (all_packed rest ≡ true)
    × (l.care ≡ care_of (row_positions rest))
    × (l.value ≡ value_of (row_positions rest))
    × (l.care < 2 ^ 35)
    × (l.value < 2 ^ 35)
