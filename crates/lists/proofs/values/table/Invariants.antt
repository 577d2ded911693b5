-- Loop (`Column`, of either array): the words before i are those of the strings, the others 0.
use Rattle.model.specs.Growth.{Entries}
use Rattle.words.specs.declared.Entry.{Entry}
use Rattle.lists.specs.WorkingLists.{Holds}
use Rattle.lists.proofs.TableValues.{Column}
use Rattle.lists.proofs.values.table.Given as goal

abbrev pub invariant-loop-i : goal.invariant-loop-i
invariant-loop-i l =
    (τ : Entries) → Holds l.l l.list l.n τ
    → Column (λ (e : Entry). e.care) τ l.care l.i × Column (λ (e : Entry). e.value) τ l.value l.i
