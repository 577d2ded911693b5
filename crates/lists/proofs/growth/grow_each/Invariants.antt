-- Loop (`SoFar`): the list is grown by the strings before the index, and to go on with the others gives the whole.
use Prim.Native.Nat.{◌≤◌}
use Rattle.model.specs.Growth.{Entries, grow, grow_all}
use Rattle.lists.specs.WorkingLists.{Holds}
use Rattle.lists.proofs.SoFar.{SoFar, Any}
use Rattle.lists.proofs.growth.grow_each.Given as goal

abbrev pub invariant-loop-y : goal.invariant-loop-y
invariant-loop-y l = (l.k ≤ 256)
    × ((τ ρ : Entries) → Holds l.l l.initial.list l.n τ → Holds l.l l.row l.m ρ
    → SoFar l.l grow ρ (grow_all τ ρ) Any l.list l.k l.y-index)
