-- Loop: the bytes of the positions from 5 i on are left to write (`Left`); a byte takes five positions off (`left_turn`).
use Rattle.std.proofs.Common.{◌≡◌, ◌+◌, ◌-◌, ◌*◌, drop}
use Rattle.std.proofs.lemmas.List.Edits.{sets}
use Rattle.model.specs.Strings.{Trits}
use Rattle.words.specs.Words.{value_of}
use Rattle.packing.specs.Packing.{packed_bytes}
use Rattle.packing.proofs.Bytes.{stars_of, Left}
use Rattle.packing.proofs.pack.Given as goal

abbrev pub invariant-loop-i : goal.invariant-loop-i
invariant-loop-i l =
    (s : Trits) → l.initial.ones ≡ value_of s → l.initial.stars ≡ stars_of s
    → Left (drop (5 * l.i) s) (l.k - l.i) l.ones l.stars (l.at + l.i) l.b (sets l.initial.b l.at (packed_bytes l.k s))
