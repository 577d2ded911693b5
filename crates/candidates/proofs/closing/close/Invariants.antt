-- Loop (`SoFar`): the list is closed with each c before i; with the others, here or in `close_rest`, it becomes the whole.
use Prim.Native.Nat.{◌≤◌}
use Rattle.model.specs.Growth.{Entries}
use Rattle.model.specs.Tables.{close_with, close}
use Rattle.lists.specs.WorkingLists.{Holds}
use Rattle.lists.proofs.SoFar.{SoFar, Any}
use Rattle.candidates.proofs.closing.close.Given as goal

abbrev pub invariant-loop-i : goal.invariant-loop-i
invariant-loop-i l =
    (l.n ≤ 256) × ((γ : Entries) → Holds l.l l.c l.cn γ → SoFar l.l close_with γ (close γ) Any l.list l.n l.i)
