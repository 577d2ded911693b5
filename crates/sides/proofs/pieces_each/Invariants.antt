-- Loop (`SoFar`): the pieces of the strings before y are appended, and to go on with the others gives the whole.
use mathlib.Core.Path.{◌≡◌}
use Prim.Native.Nat.{◌≤◌}
use lib.ListN.{length}
use Rattle.model.specs.Strings.{Trits}
use Rattle.model.specs.Growth.{fold, Entries}
use Rattle.words.specs.Words.{word}
use Rattle.lists.specs.WorkingLists.{Holds}
use Rattle.lists.proofs.SoFar.{SoFar, Any}
use Rattle.sides.specs.Parts.{append_pieces}
use Rattle.sides.proofs.pieces_each.Given as goal

abbrev pub invariant-loop-y : goal.invariant-loop-y
invariant-loop-y l = (l.k ≤ 256)
    × ((τ ρ κ : Entries) (t : Trits) → Holds l.l l.initial.list l.n τ → Holds l.l l.taken l.m ρ → Holds l.l l.edges l.en κ
    → length t ≡ l.l → l.v ≡ word t → SoFar l.l (append_pieces κ t) ρ (fold (append_pieces κ t) τ ρ) Any l.list l.k l.y-index)
