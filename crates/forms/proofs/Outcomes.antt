-- What a form is answered, test by test, and the bytes that are written. Assumes nothing.
use mathlib.Core.Path.{◌≡◌, refl, sym, ap, ◌∙◌}
use mathlib.Core.Bool.{true, false}
use mathlib.Core.List.{List, [], ◌∷◌, ◌++◌}
use Prim.Native.Nat.{ℕ, ◌+◌, ◌*◌, ◌≤◌, ◌<◌}
use native.Mathlib.Nat.{zero-add}
use native.Mathlib.Omega.{arith}
use borrow.Author.Tests.{le-leb, lt-leb, eqb-true, leb-true}
use lib.ListN.{length, take, drop, length-append}
use lib.Seq.{length-take-le, sets, sets-eq}
use Rattle.model.specs.Growth.{limit}
use Rattle.tables.specs.declared.Table.{Table}
use Rattle.tables.specs.declared.Refusal.{Refusal}
use Rattle.tables.specs.declared.Refusal.TheVariants as R
use Rattle.tables.specs.Refusals.{Accepted, Refused}
use Rattle.tables.specs.Refusals.{if_accepted}
use Rattle.tables.specs.Values.{entries_of, good_width, zero_table, refuses, check_table, GoodTable}
use Rattle.tables.proofs.Checking.{good_few, good_long, good_holds}
use Rattle.codec.specs.Numbers.{word_bytes, joined, bytes}
use Rattle.codec.proofs.Rows.{sets_append}
use Rattle.codec.proofs.Laws.{length_bytes, bytes_append}
use Rattle.packing.specs.Packing.{row_length}
use Rattle.forms.specs.declared.Extent.{Extent}
use Rattle.forms.specs.declared.Extent.TheVariants.{Whole, Front}
use Rattle.forms.specs.declared.Layout.{Layout}
use Rattle.forms.specs.declared.Layout.TheVariants.{Plain, Packed}
use Rattle.forms.specs.TableForms.{sized, first_size, second_size, word_length, form_length, fits}
use Rattle.forms.specs.TableForms.{read_entries, read_sized, read_form, entry_bytes, form_of, form_answer, written}
use Rattle.forms.proofs.PackedRows.{rows_length}

-- ---- Reading a table

module _ (f : Layout) (x : Extent) (b : List ℕ) where
  -- No sizes: 1.
  pub read_unsized : length b < 4 → refuses R.Torn zero_table ≡ read_form f x b
  unfolding read_form sized
  read_unsized short = rw (lt-leb 4 (length b) short)

  module _ (l n : ℕ) (el : l ≡ first_size b) (en : n ≡ second_size b) (room : 4 ≤ length b) where
    as_sized : read_form f x b ≡ read_sized f x l n b
    unfolding read_form sized
    as_sized = rw (le-leb 4 (length b) room, el, en)

    -- An l outside 1 to 32: 2.
    pub read_width : good_width l ≡ false → refuses R.Width zero_table ≡ read_form f x b
    unfolding read_sized
    read_width w = rw (as_sized, w)

    module _ (w : good_width l ≡ true) where
      -- More than 256 entries: 3.
      pub read_many : limit < n → refuses R.Entries zero_table ≡ read_form f x b
      unfolding read_sized
      read_many lt = rw (as_sized, w, lt-leb n limit lt)

      module _ (few : n ≤ limit) where
        -- A length that the sizes do not give: 1.
        pub read_torn : fits x (form_length f l n) (length b) ≡ false → refuses R.Torn zero_table ≡ read_form f x b
        unfolding read_sized
        read_torn h = rw (as_sized, w, le-leb n limit few, h)

        -- Else the entries are read.
        pub read_all : fits x (form_length f l n) (length b) ≡ true → read_entries f l n b ≡ read_form f x b
        unfolding read_sized
        read_all h = rw (as_sized, w, le-leb n limit few, h)

-- A form that fits is within the bytes.
pub fits_room : (x : Extent) (size room : ℕ) → fits x size room ≡ true → size ≤ room
unfolding fits
fits_room Whole size room f = let e = eqb-true size room f in omega (arith, e)
fits_room Front size room f = leb-true size room f

-- A form of any number of entries has its sizes.
pub form_sizes : (f : Layout) (l n : ℕ) → 4 ≤ form_length f l n
form_sizes Plain l n = omega arith
form_sizes Packed l n = omega arith

-- ---- Writing a table

module _ (f : Layout) (t : Table) (out : List ℕ) where
  -- A table that is refused by its own check: nothing is written.
  pub write_refused : {r : Refusal} → check_table t ≡ Refused r
      → (Refused r ≡ form_answer f t (length out)) × (out ≡ written (Refused r) (form_of f t) out)
  unfolding form_answer if_accepted written
  write_refused e = (rw e, refl)

  module _ (good : check_table t ≡ Accepted) where
    -- An output too short: 9, and nothing is written.
    pub write_narrow : length out < form_length f t.l t.n
        → (Refused R.Narrow ≡ form_answer f t (length out)) × (out ≡ written (Refused R.Narrow) (form_of f t) out)
    unfolding form_answer if_accepted written
    write_narrow short = (rw (good, lt-leb (form_length f t.l t.n) (length out) short), refl)

    -- Else it is accepted.
    pub write_fits : form_length f t.l t.n ≤ length out → Accepted ≡ form_answer f t (length out)
    unfolding form_answer if_accepted
    write_fits room = rw (good, le-leb (form_length f t.l t.n) (length out) room)

module _ (t : Table) (g : GoodTable t) where
  -- the first words of an array of a good table
  words_long : (k : ℕ) (ws : List ℕ) → length ws ≡ limit → length (bytes k (take t.n ws)) ≡ k * t.n
  words_long k ws long =
      length_bytes k (take t.n ws)
      ∙ ap (λ (n : ℕ). k * n) (length-take-le t.n ws (omega (arith, good_few g, long)))

  -- The bytes of a good table's entries, beside the sizes.
  pub entry_bytes_long : (f : Layout) → 4 + length (entry_bytes f t) ≡ form_length f t.l t.n
  unfolding entry_bytes
  entry_bytes_long Plain =
      let k : ℕ = word_length t.l in
      let cs = take t.n t.care in
      let vs = take t.n t.value in
      ap (λ (b : List ℕ). 4 + length b) (bytes_append k cs vs)
      ∙ omega (
        arith,
        length-append (bytes k cs) (bytes k vs),
        words_long k t.care (good_long g).0,
        words_long k t.value (good_long g).1,
      )
  entry_bytes_long Packed =
      let count : length (entries_of t) ≡ t.n = sym (good_holds g).count in
      ap (λ (k : ℕ). 4 + k)
      (rows_length t.l (entries_of t) g.list.wide ∙ ap (λ (n : ℕ). row_length t.l * n) count)

  -- The form of a good table has the length that its sizes give.
  pub form_long : (f : Layout) → length (form_of f t) ≡ form_length f t.l t.n
  unfolding form_of joined word_bytes
  form_long f = omega (arith, entry_bytes_long f)

  -- Where there is room the stores of the sizes and the entries are the form, and the bytes past it are kept.
  pub stored : (f : Layout) (out : List ℕ) → form_length f t.l t.n ≤ length out
      → sets (sets (sets out 0 (word_bytes 2 t.l)) 2 (word_bytes 2 t.n)) 4 (entry_bytes f t)
      ≡ written Accepted (form_of f t) out
  unfolding form_of joined word_bytes written if_accepted
  stored f out room =
      sym (sets_append (bytes 2 (t.l ∷ t.n ∷ [])) (entry_bytes f t) out 0)
      ∙ sets-eq (form_of f t) out 0 (omega (arith, form_long f))
      ∙ ap (λ (k : ℕ). form_of f t ++ drop k out) (zero-add (length (form_of f t)))
