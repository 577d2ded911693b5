-- Loop (`SoFar`): the list is grown by the strings before j, and absorbs what stands in slots of its version (`skip_seen`).
use Prim.Native.Nat.{◌-◌, ◌≤◌}
use Rattle.model.specs.Growth.{Entries, grow, grow_all}
use Rattle.lists.specs.WorkingLists.{Holds}
use Rattle.lists.specs.Filters.{Filters}
use Rattle.lists.proofs.SoFar.{SoFar}
use Rattle.lists.proofs.filter.grow_unseen.Given as goal

abbrev pub invariant-loop-j : goal.invariant-loop-j
invariant-loop-j l = (l.j ≤ l.m) × (l.k ≤ 256)
    × ((τ ρ : Entries) → Holds l.l l.initial.list l.n τ → Holds l.l l.row l.m ρ → Filters l.l l.initial.seen τ
    → SoFar l.l grow ρ (grow_all τ ρ) (Filters l.l l.seen) l.list l.k l.j)

abbrev pub decreases-loop-j : goal.decreases-loop-j
decreases-loop-j l = l.m - l.j
