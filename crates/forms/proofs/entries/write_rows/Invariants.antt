-- Loop: the rows of the first i entries are written, and the length stays (`rows_turn`).
use mathlib.Core.Path.{◌≡◌}
use lib.ListN.{length, take}
use lib.Seq.{sets}
use Rattle.model.specs.Growth.{Entries}
use Rattle.lists.specs.WorkingLists.{Holds}
use Rattle.forms.specs.TableForms.{rows_of}
use Rattle.forms.proofs.entries.write_rows.Given as goal

abbrev pub invariant-loop-i : goal.invariant-loop-i
invariant-loop-i l = (length l.out ≡ length l.initial.out)
    × ((τ : Entries) → Holds l.l l.list l.n τ → l.out ≡ sets l.initial.out 4 (rows_of (take l.i τ)))
