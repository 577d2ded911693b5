-- Up to i every row was good, and the words of the row are those of the entries; a turn unpacks one more.
use Rattle.std.proofs.Common.{◌≡◌, ℕ, ◌<◌, length, get_or}
use Rattle.words.specs.Words.{word}
use Rattle.packing.specs.Packing.{unpacked}
use Rattle.forms.specs.declared.Layout.TheVariants.{Packed}
use Rattle.forms.specs.TableForms.{all_well, all_good}
use Rattle.forms.proofs.Decoding.{row_at, rows_on}
use Rattle.forms.proofs.entries.read_rows.Given as goal

abbrev pub invariant-loop-i : goal.invariant-loop-i
invariant-loop-i l =
    (length l.row ≡ 256) × (all_well Packed l.l l.n l.b ≡ all_good l.l (rows_on l.l l.n l.b l.i))
    × ((m : ℕ) → m < l.i → get_or l.row m 0 ≡ word (unpacked l.l (row_at l.l l.b m)))
