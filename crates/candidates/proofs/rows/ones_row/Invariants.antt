-- Loop (`RowSoFar`): the row has a string for each variable of the set before position i (`ones_end`).
use mathlib.Core.Path.{◌≡◌}
use mathlib.Core.Bool.{false}
use Prim.Native.Nat.{◌≤◌}
use lib.ListN.{length, get_or}
use Rattle.model.specs.Groups.{Bits}
use Rattle.model.specs.Strings.{one_at}
use Rattle.words.specs.Words.{set_word}
use Rattle.lists.proofs.RowLoops.{RowSoFar}
use Rattle.candidates.proofs.rows.ones_row.Given as goal

abbrev pub invariant-loop-i : goal.invariant-loop-i
invariant-loop-i l = (l.k ≤ l.i)
    × ((g : Bits) → length g ≡ l.l → l.m ≡ set_word g → RowSoFar l.l (λ j. get_or g j false) (one_at l.l) l.l l.row l.k l.i)
