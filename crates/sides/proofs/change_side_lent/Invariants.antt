-- Loop (`SoFar`): the entries before v are taken away, and the list is the complement of some entries, as `take_away` asks.
use Prim.Native.Nat.{◌≤◌}
use Rattle.model.specs.Growth.{Entries}
use Rattle.model.specs.Tables.{take_away, change_side}
use Rattle.lists.specs.WorkingLists.{Holds}
use Rattle.lists.proofs.SoFar.{SoFar}
use Rattle.sides.proofs.MatchedEntries.{SomeComplement}
use Rattle.sides.proofs.change_side_lent.Given as goal

abbrev pub invariant-loop-v : goal.invariant-loop-v
invariant-loop-v l = (l.n ≤ 256)
    × ((τ : Entries) → Holds l.l l.t l.tn τ → SoFar l.l take_away τ (change_side l.l τ) (SomeComplement l.l) l.list l.n l.v-index)
