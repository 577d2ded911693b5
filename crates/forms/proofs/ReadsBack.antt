-- What is written reads back: the table where it is reduced, and its groups in any case. Assumes nothing.
use mathlib.Core.Path.{◌≡◌, refl, sym, ap, ap₂, ◌∙◌, subst}
use mathlib.Core.Bool.{Bool, true}
use mathlib.Core.List.{List, [], ◌∷◌, ◌++◌, map, append-nil}
use Prim.Native.Nat.{ℕ, zero, suc, ◌+◌, ◌*◌, ◌^◌, ◌≤◌, ◌<◌}
use native.Mathlib.Omega.{arith}
use borrow.Author.Tests.{lt-ltb, le-leb, eq-eqb}
use lib.Bits.{bit_and}
use lib.ListN.{length, get_or, take, drop, length-append, length-map}
use lib.Pow.{pow_mono}
use lib.Seq.{length-take-le, get_or-take, drop-drop, drop_at}
use Rattle.model.specs.Growth.{Entries, limit, grow_all, Reduced}
use Rattle.model.specs.Strings.{Trits}
use Rattle.model.specs.Tables.{Side, groups}
use Rattle.model.specs.Questions.{Equal}
use Rattle.model.proofs.Shape.{regrown}
use Rattle.words.specs.declared.Entry.{Entry}
use Rattle.words.specs.Words.{entry, care_of, value_of, string}
use Rattle.words.proofs.Codec.{care_lt, value_lt, value_in}
use Rattle.tables.specs.declared.Table.{Table}
use Rattle.tables.specs.Refusals.{Accepted}
use Rattle.tables.specs.Lists.{padded, list_words, Stores, pairs, strings}
use Rattle.tables.specs.Refusals.{if_accepted}
use Rattle.tables.specs.Values.{table_of, entries_of, accepts, made_or_full, zero_table, GoodTable}
use Rattle.tables.specs.Values.{clean, entry_at, all_from, all_clean}
use Rattle.tables.proofs.Arrays.{stores_at, stores_length}
use Rattle.tables.proofs.Checking.{good_holds, width_most}
use Rattle.packing.specs.Packing.{row_length, packed}
use Rattle.codec.specs.Numbers.{rows, words, word_bytes, joined, bytes}
use Rattle.codec.proofs.Laws.{length_bytes, bytes_append, Narrow, number_back, words_back}
use Rattle.forms.specs.declared.Extent.TheVariants.{Whole, Front}
use Rattle.forms.specs.declared.Layout.{Layout}
use Rattle.forms.specs.declared.Layout.TheVariants.{Plain, Packed}
use Rattle.forms.specs.TableForms.{sized, first_size, second_size, word_length, form_length, fits, cares, values, packed_rows}
use Rattle.forms.specs.TableForms.{written_entries, all_well, read_form, read_table, read_packed, Passed}
use Rattle.forms.specs.TableForms.{rows_of, entry_bytes, form_of, table_form, packed_form, written}
use Rattle.forms.proofs.WordLengths.{positions_fit}
use Rattle.forms.proofs.Tests.{entries_in, passed_reads}
use Rattle.forms.proofs.Reading.{entries_grow, read_groups}
use Rattle.forms.proofs.Cutting.{table_followed}
use Rattle.forms.proofs.Outcomes.{entry_bytes_long, form_long}
use Rattle.forms.proofs.PackedRows.{packed_rows_read, packed_rows_good, packed_rows_back}

-- ---- Rows of words

narrow_take : (k n : ℕ) (ws : List ℕ) → ((i : ℕ) → i < n → get_or ws i 0 < 2 ^ (8 * k)) → Narrow k (take n ws)
narrow_take k zero ws f = tt
narrow_take k (suc n) [] f = tt
narrow_take k (suc n) (w ∷ ws) f = (f 0 (omega arith), narrow_take k n ws (λ i lt. f (suc i) (omega arith)))

-- the second of two rows
words_second : (k n : ℕ) (us ws : List ℕ) → length us ≡ n → length ws ≡ n → Narrow k ws
    → words k n (drop (k * n) (bytes k us ++ bytes k ws)) ≡ ws
words_second k n us ws e f h =
    ap (words k n) (drop_at (bytes k us) (bytes k ws) (k * n) (length_bytes k us ∙ ap (λ (m : ℕ). k * m) e)
    ∙ sym (append-nil (bytes k ws)))
    ∙ words_back k n ws [] f h

pairs_take : (n : ℕ) (cs vs : List ℕ) → take n (pairs (take n cs) (take n vs)) ≡ take n (pairs cs vs)
unfolding pairs
pairs_take zero cs vs = refl
pairs_take (suc n) [] vs = refl
pairs_take (suc n) (c ∷ cs) [] = refl
pairs_take (suc n) (c ∷ cs) (v ∷ vs) = ap (λ (r : List Entry). record { care = c; value = v } ∷ r) (pairs_take n cs vs)

all_up : (p : ℕ → Bool) (i n : ℕ) → ((m : ℕ) → m < i + n → p m ≡ true) → all_from i n p ≡ true
unfolding all_from
all_up p i zero f = refl
all_up p i (suc n) f = rw (f i (omega arith)) (all_up p (suc i) n (λ m lt. f m (omega arith)))

clean_word : (l : ℕ) (s : Trits) → length s ≡ l → clean l (entry s) ≡ true
unfolding clean
clean_word l s e =
    rw (
      ← e,
      lt-ltb (care_of s) (2 ^ length s) (care_lt s),
      eq-eqb (bit_and (value_of s) (care_of s)) (value_of s)
          (value_in s),
    )

-- ---- The words of a good table value

module _ {l : ℕ} {care value : List ℕ} {n : ℕ} {τ : Entries} (h : Stores l care value n τ) where
  -- the first n words of the arrays
  rows_long : (length (take n care) ≡ n) × (length (take n value) ≡ n)
  unfolding list_words padded
  rows_long =
      let ws = list_words τ in
      let room : n ≤ length ws = rw (length-append, length-map τ entry) (omega (arith, h.count)) in
      let cs : n ≤ length care = rw (h.arrays.cares, length-map ws) room in
      let vs : n ≤ length value = rw (h.arrays.values, length-map ws) room in
      (length-take-le n care cs, length-take-le n value vs)

  rows_narrow : (k : ℕ) → l ≤ 8 * k → Narrow k (take n care) × Narrow k (take n value)
  rows_narrow k most = (
    narrow_take k n care (λ i lt. omega (arith, below i lt, care_lt (at i), ap (λ (e : Entry). e.care) (stores_at h i lt))),
    narrow_take k n value
        (λ i lt. omega (arith, below i lt, value_lt (at i), ap (λ (e : Entry). e.value) (stores_at h i lt))),
  )
    where
      at : ℕ → Trits
      at i = get_or τ i []

      below : (i : ℕ) → i < n → 2 ^ length (at i) ≤ 2 ^ (8 * k)
      below i lt = pow_mono {j = 8 * k} (omega (arith, stores_length h i lt))

  rows_clean : all_clean l n (take n care) (take n value) ≡ true
  unfolding all_clean
  rows_clean =
      all_up (λ i. clean l (entry_at (take n care) (take n value) i)) 0 n
      (λ i lt.
      let here : i < n = omega arith in
      rw (get_or-take n care i 0 here, get_or-take n value i 0 here, stores_at h i here)
      (clean_word l (get_or τ i []) (stores_length h i here)))

  rows_strings : strings l (take n care) (take n value) n ≡ strings l care value n
  unfolding strings
  rows_strings = ap (map (string l)) (pairs_take n care value)

-- ---- The form of a good table value

module _ (t : Table) (g : GoodTable t) where
  -- its sizes
  form_width : (f : Layout) → first_size (form_of f t) ≡ t.l
  unfolding form_of joined word_bytes
  form_width f = number_back 2 t.l (omega (arith, width_most t.l g.width))

  form_count : (f : Layout) → second_size (form_of f t) ≡ t.n
  unfolding form_of joined word_bytes
  form_count f = number_back 2 t.n (omega (arith, (good_holds g).count, g.list.few))

  -- the words of a plain one
  abbrev size : ℕ
  size = word_length t.l

  form_words : drop 4 (form_of Plain t) ≡ bytes size (take t.n t.care) ++ bytes size (take t.n t.value)
  unfolding form_of entry_bytes joined word_bytes
  form_words = bytes_append size (take t.n t.care) (take t.n t.value)

  form_narrow : Narrow size (take t.n t.care) × Narrow size (take t.n t.value)
  form_narrow = rows_narrow (good_holds g) size (positions_fit t.l (width_most t.l g.width))

  form_cares : cares t.l t.n (form_of Plain t) ≡ take t.n t.care
  form_cares =
      ap (words size t.n) form_words
      ∙ words_back size t.n _ _ (rows_long (good_holds g)).0 form_narrow.0

  form_values : values t.l t.n (form_of Plain t) ≡ take t.n t.value
  form_values =
      let h = good_holds g in
      ap (words size t.n)
      (sym (drop-drop (size * t.n) 4 (form_of Plain t)) ∙ ap (drop (size * t.n)) form_words)
      ∙ words_second size t.n (take t.n t.care) _ (rows_long h).0 (rows_long h).1 form_narrow.1

  -- the rows of a packed one
  form_rows : packed_rows t.l t.n (form_of Packed t) ≡ map packed (entries_of t)
  unfolding form_of entry_bytes joined word_bytes
  form_rows =
      let τ = entries_of t in
      ap₂ (rows (row_length t.l)) (good_holds g).count (sym (append-nil (rows_of τ)))
      ∙ packed_rows_read t.l τ [] g.list.wide

  -- it holds the table's entries
  written_same : (f : Layout) → written_entries f t.l t.n (form_of f t) ≡ entries_of t
  unfolding entries_of written_entries
  written_same Plain = rw (form_cares, form_values) (rows_strings (good_holds g))
  written_same Packed = rw form_rows (packed_rows_back t.l (entries_of t) g.list.wide)

  form_entries : (f : Layout) → entries_in f (form_of f t) ≡ entries_of t
  form_entries f = rw (form_width f, form_count f) (written_same f)

  -- each is well written
  form_well : (f : Layout) → all_well f t.l t.n (form_of f t) ≡ true
  unfolding all_well
  form_well Plain = rw (form_cares, form_values) (rows_clean (good_holds g))
  form_well Packed = rw form_rows (packed_rows_good t.l (entries_of t) g.list.wide)

  form_passed : (f : Layout) → Passed f Whole (form_of f t)
  unfolding sized fits
  form_passed f = record {
    sizes = le-leb 4 (length (form_of f t)) (omega (arith, form_long t g f, entry_bytes_long t g f));
    width = rw (form_width f) g.width;
    few = rw (form_count f) (le-leb t.n limit (omega (arith, (good_holds g).count, g.list.few)));
    long = rw (form_width f, form_count f)
        (eq-eqb (form_length f t.l t.n) (length (form_of f t)) (sym (form_long t g f)));
    clean = rw (form_width f, form_count f) (form_well f);
  }

  -- The form of a good table reads as its entries, grown in order, whichever layout it has.
  pub form_reads : (f : Layout) → read_form f Whole (form_of f t) ≡ made_or_full t.l zero_table (grow_all [] (entries_of t))
  form_reads f = passed_reads f Whole (form_of f t) (form_passed f) ∙ rw (form_entries f, form_width f)

  -- The packed form of a table reads as the same table as its plain form does.
  pub packed_reads_same : read_packed (packed_form t) ≡ read_table Whole (table_form t)
  packed_reads_same = form_reads Packed ∙ sym (form_reads Plain)

  -- What is written reads back as a table of the same groups, on either side.
  pub written_groups : (f : Layout)
      → (u : Table) × (read_form f Whole (form_of f t) ≡ accepts u)
      × ((side : Side) → Equal (groups side u.l (entries_of u)) (groups side t.l (entries_of t)))
  written_groups f =
      let p = form_passed f in
      let m = entries_grow p in
      let e = passed_reads f Whole (form_of f t) p ∙ m.2 in (
        table_of _ m.0,
        e,
        λ side. subst (Equal _) (ap₂ (groups side) (form_width f) (form_entries f))
            (read_groups f Whole side (form_of f t) _ e),
      )

  -- A reduced table reads back as it was written.
  pub written_reads : (f : Layout) → Reduced (entries_of t) → read_form f Whole (form_of f t) ≡ accepts t
  unfolding made_or_full
  written_reads f r = form_reads f ∙ rw (regrown (entries_of t) r g.list.few) (ap accepts (sym g.same))

  -- It reads back too at the front of the bytes that it was written into.
  pub written_front : (f : Layout) (out : List ℕ) → Reduced (entries_of t)
      → read_form f Front (written Accepted (form_of f t) out) ≡ accepts t
  unfolding written if_accepted
  written_front f out r = table_followed f (form_of f t) t (written_reads f r) (drop (length (form_of f t)) out)
