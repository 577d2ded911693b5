-- Loop (`PiecesSoFar`): to append the pieces at the positions left gives the whole; a turn takes the lowest of them.
use mathlib.Core.Path.{◌≡◌}
use Prim.Native.Nat.{◌≤◌, ◌<◌, ◌^◌}
use lib.ListN.{length}
use Rattle.model.specs.Strings.{Trits}
use Rattle.model.specs.Growth.{Entries}
use Rattle.words.specs.Words.{word}
use Rattle.lists.specs.WorkingLists.{Holds}
use Rattle.sides.specs.Parts.{append_pieces}
use Rattle.sides.proofs.PieceLoop.{PiecesSoFar}
use Rattle.sides.proofs.pieces.Given as goal

abbrev pub invariant-loop-left : goal.invariant-loop-left
invariant-loop-left l = (l.left < 2 ^ 32) × (l.k ≤ 256)
    × ((τ κ : Entries) (s t : Trits) → Holds l.l l.initial.list l.n τ → Holds l.l l.edges l.m κ → length s ≡ l.l
    → length t ≡ l.l → l.y ≡ word s → l.v ≡ word t → PiecesSoFar l.l κ s t (append_pieces κ t τ s) l.list l.k l.left)

abbrev pub decreases-loop-left : goal.decreases-loop-left
decreases-loop-left l = l.left
