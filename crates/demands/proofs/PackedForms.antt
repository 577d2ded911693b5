-- From one layout to another and back through the exported calls: nothing of a table is lost, byte for byte. Assumes nothing.
use mathlib.Core.Path.{◌≡◌, sym, ap, subst, ◌∙◌}
use mathlib.Core.List.{List, ◌++◌}
use Prim.Native.Nat.{ℕ}
use lib.ListN.{length, take, drop}
use Rattle.tables.specs.declared.Table.{Table}
use Rattle.tables.specs.declared.Answered.{Answered}
use Rattle.tables.specs.Values.{accepts}
use Rattle.forms.specs.declared.Extent.TheVariants.{Whole}
use Rattle.forms.specs.declared.Layout.{Layout}
use Rattle.forms.specs.declared.Layout.TheVariants.{Plain, Packed}
use Rattle.forms.specs.TableForms.{form_length, read_form, read_table, read_packed, form_of, table_form}
use Rattle.forms.proofs.Outcomes.{form_long}
use Rattle.forms.proofs.Reading.{read_good}
use Rattle.byte_calls.specs.Outputs.{output_number_as, output_bytes_as, output_number, output_bytes}
use Rattle.demands.specs.Demand2.{Fits, Reads}
use Rattle.demands.proofs.ReadsBack.{read_made}
use Rattle.demands.proofs.HandedBack.{handed_back}
use Rattle.demands.proofs.Demand2.{form_exported}

module _ (f h : Layout) (b out : List ℕ) {t : Table} (reads : read_form f Whole b ≡ accepts t)
    (wrote : output_number_as h (read_form f Whole b) out ≡ 0) where
  -- What was written in the other layout, at the length that the sizes give.
  abbrev pub form_written : List ℕ
  form_written = take (form_length h t.l t.n) (output_bytes_as h (read_form f Whole b) out)

  -- It reads as the table.
  pub written_reads_same : read_form h Whole form_written ≡ accepts t
  written_reads_same =
      let same : (read_form f Whole b).table ≡ t = ap (λ (a : Answered). a.table) reads in
      let bytes = output_bytes_as h (read_form f Whole b) out in
      subst (λ (u : Table). read_form h Whole (take (form_length h u.l u.n) bytes) ≡ accepts u) same
      ((form_exported f h b out).result wrote).2.alone

  -- So it is written in the first layout again as the form that was read would be: the number, and every byte of the output.
  pub written_back : (out' : List ℕ)
      → (output_number_as f (read_form h Whole form_written) out' ≡ output_number_as f (read_form f Whole b) out')
      × (output_bytes_as f (read_form h Whole form_written) out' ≡ output_bytes_as f (read_form f Whole b) out')
  written_back out' =
      let same = written_reads_same ∙ sym reads in
      (ap (λ (a : Answered). output_number_as f a out') same, ap (λ (a : Answered). output_bytes_as f a out') same)

  -- Where the form that was read is the table's own and the output has room, that is this form, and past it what it held.
  pub own_form_back : (out' : List ℕ) → b ≡ form_of f t → Fits f t out'
      → output_bytes_as f (read_form h Whole form_written) out' ≡ b ++ drop (length b) out'
  own_form_back out' own room =
      let same = written_reads_same ∙ sym reads in
      let a = read_form f Whole b in
      let at : a.table ≡ t = ap (λ (y : Answered). y.table) reads in
      let room' : Fits f a.table out' = rw at room in
      let zero = ((handed_back f a out' (read_made b f)).zero_where (ap (λ (y : Answered). y.answer) reads)).1 room' in
      let bytes = ((handed_back f a out' (read_made b f)).wrote zero).bytes in
      let long : length b ≡ form_length f t.l t.n = ap length own ∙ form_long t (read_good f Whole b t reads).0 f in
      ap (λ (y : Answered). output_bytes_as f y out') same ∙ bytes ∙ rw (at, ← long, ← own)

-- `sharing_unpack` of what `sharing_pack` wrote hands back what `sharing_read` does.
pub unpack_pack : (b out : List ℕ) {t : Table} (reads : Reads b t) (wrote : output_number_as Packed (read_table Whole b) out ≡ 0)
    (out' : List ℕ)
    → let packed = form_written Plain Packed b out reads wrote in
    (output_number (read_packed packed) out' ≡ output_number (read_table Whole b) out')
    × (output_bytes (read_packed packed) out' ≡ output_bytes (read_table Whole b) out')
unpack_pack b out reads wrote out' = written_back Plain Packed b out reads wrote out'

-- Of a form that a call wrote, the plain form comes back, byte for byte.
pub unpack_pack_same : (b out : List ℕ) {t : Table} (reads : Reads b t)
    (wrote : output_number_as Packed (read_table Whole b) out ≡ 0) (out' : List ℕ) → b ≡ table_form t → Fits Plain t out'
    → output_bytes (read_packed (form_written Plain Packed b out reads wrote)) out' ≡ b ++ drop (length b) out'
unpack_pack_same b out reads wrote out' own room = own_form_back Plain Packed b out reads wrote out' own room
