-- Loop (`SoFar`): of the strings from `from` on the list is closed with each before the index, and absorbs all that the filter
-- holds.
use Prim.Native.Nat.{◌≤◌}
use lib.ListN.{drop}
use Rattle.model.specs.Growth.{Entries, fold}
use Rattle.model.specs.Tables.{close_with}
use Rattle.lists.specs.WorkingLists.{Holds}
use Rattle.lists.specs.Filters.{Filters}
use Rattle.lists.proofs.SoFar.{SoFar}
use Rattle.candidates.proofs.closing.close_rest.Given as goal

abbrev pub invariant-loop-s : goal.invariant-loop-s
invariant-loop-s l = (l.k ≤ 256)
    × ((γ τ : Entries) → Holds l.l l.c l.cn γ → Holds l.l l.fn.list l.n τ
    → SoFar l.l close_with (drop l.from γ) (fold close_with τ (drop l.from γ)) (Filters l.l l.filter.seen) l.list l.k l.s-index)
