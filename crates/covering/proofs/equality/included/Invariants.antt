-- Loop: the entries before e are covered, so that the others decide (`within_next`, `within_end`).
use mathlib.Core.Path.{◌≡◌}
use lib.ListN.{drop}
use Rattle.model.specs.Growth.{Entries}
use Rattle.lists.specs.WorkingLists.{WordsOf}
use Rattle.covering.specs.Covering.{within}
use Rattle.covering.proofs.equality.included.Given as goal

abbrev pub invariant-loop-e : goal.invariant-loop-e
invariant-loop-e l = (α β : Entries) → WordsOf l.l l.a α → WordsOf l.l l.b β
    → within l.l α β ≡ within l.l (drop l.e-index α) β
