-- Loop (`Columns`): the care and the value words of the first i entries are written, and the length stays.
use mathlib.Core.Path.{◌≡◌}
use lib.ListN.{length}
use Rattle.model.specs.Growth.{Entries}
use Rattle.tables.specs.Values.{table_of}
use Rattle.lists.specs.WorkingLists.{Holds}
use Rattle.forms.proofs.Writing.{Columns}
use Rattle.forms.proofs.entries.write_plain.Given as goal

abbrev pub invariant-loop-i : goal.invariant-loop-i
invariant-loop-i l = (length l.out ≡ length l.initial.out)
    × ((τ : Entries) → Holds l.l l.list l.n τ → let t = table_of l.l τ in
    Columns l.k l.n t.care t.value l.initial.out l.out l.i)
