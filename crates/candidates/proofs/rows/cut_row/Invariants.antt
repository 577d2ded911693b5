-- Loop (`Along`): the row has the cut of each string before i (`map_end`).
use mathlib.Core.Path.{◌≡◌}
use mathlib.Core.Bool.{true}
use lib.ListN.{length}
use Rattle.model.specs.Groups.{Bits, cut}
use Rattle.model.specs.Growth.{Entries}
use Rattle.model.specs.Tables.{kept}
use Rattle.words.specs.Words.{set_word}
use Rattle.lists.specs.WorkingLists.{Holds}
use Rattle.lists.proofs.RowLoops.{Along}
use Rattle.candidates.proofs.rows.cut_row.Given as goal

abbrev pub invariant-loop-i : goal.invariant-loop-i
invariant-loop-i l =
    (k : Bits) (τ : Entries) → Holds (length k) l.list l.n τ → l.keep ≡ set_word k
    → Along (kept k) (λ y. true) (cut k) τ l.n l.row l.i l.i
