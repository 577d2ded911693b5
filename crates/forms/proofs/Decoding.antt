-- The words that a reader takes are those of the entries that are written. Assumes nothing.
use mathlib.Core.Path.{◌≡◌, refl, sym, ap, subst, ◌∙◌}
use mathlib.Core.Bool.{Bool, true, false, ◌&&◌}
use mathlib.Core.List.{List, [], ◌∷◌, map}
use Prim.Native.Nat.{ℕ, zero, suc, ◌+◌, ◌-◌, ◌*◌, ◌≤◌, ◌<◌}
use native.Mathlib.Nat.{zero-add, mul-zero, mul-suc}
use native.Mathlib.Numerals.{add-one}
use native.Mathlib.Omega.{arith}
use lib.ListN.{length, get_or, take, drop, length-map, length-drop, get_or-map}
use lib.Seq.{length-take-le, take-nil, drop-drop}
use Rattle.std.specs.Prelude.{Option, MatchOption}
use Rattle.model.specs.Growth.{limit}
use Rattle.words.specs.declared.Entry.{Entry}
use Rattle.words.specs.Words.{entry, string, word, word_of}
use Rattle.words.proofs.Words.{word_of_entry}
use Rattle.tables.specs.Lists.{pairs, strings}
use Rattle.tables.specs.Values.{clean, entry_at, all_clean}
use Rattle.tables.proofs.Checking.{all_at, clean_is}
use Rattle.lists.specs.WorkingLists.{Holds}
use Rattle.packing.specs.Packing.{row_length, row_positions, unpacked, good_row, unpacked_row}
use Rattle.codec.specs.Numbers.{word_at, rows}
use Rattle.codec.proofs.Rows.{rows_count, rows_at, rows_from}
use Rattle.codec.proofs.Laws.{length_words, words_at}
use Rattle.forms.specs.declared.Layout.TheVariants.{Plain, Packed}
use Rattle.forms.specs.TableForms.{word_length, form_length, cares, values, packed_rows, written_at, all_good}
use Rattle.forms.specs.TableForms.{written_entries, all_well}
use Rattle.forms.proofs.Reading.{entries_wide}

-- ---- The strings of two rows

-- as many as the rows have words
strings_count : (l : ℕ) (cs vs : List ℕ) (n : ℕ) → length cs ≡ n → length vs ≡ n → n ≡ length (strings l cs vs n)
unfolding strings pairs
strings_count l cs vs zero e f = refl
strings_count l [] vs (suc n) e f = absurd (omega arith)
strings_count l (c ∷ cs) [] (suc n) e f = absurd (omega arith)
strings_count l (c ∷ cs) (v ∷ vs) (suc n) e f = ap suc (strings_count l cs vs n (omega arith) (omega arith))

-- each is that of the words at its index
strings_at : (l : ℕ) (cs vs : List ℕ) (n i : ℕ) → length cs ≡ n → length vs ≡ n → i < n
    → get_or (strings l cs vs n) i [] ≡ string l (entry_at cs vs i)
unfolding strings pairs
strings_at l cs vs zero i e f lt = absurd (omega arith)
strings_at l [] vs (suc n) i e f lt = absurd (omega arith)
strings_at l (c ∷ cs) [] (suc n) i e f lt = absurd (omega arith)
strings_at l (c ∷ cs) (v ∷ vs) (suc n) zero e f lt = refl
strings_at l (c ∷ cs) (v ∷ vs) (suc n) (suc i) e f lt = strings_at l cs vs n i (omega arith) (omega arith) (omega arith)

-- ---- The entries that are written

module _ (l n : ℕ) (b : List ℕ) where
  -- the entry at an index is made of the two words that stand at its places
  pub entry_read : {k c v : ℕ} (i : ℕ) → i < n → k ≡ word_length l → c ≡ word_at k b (4 + k * i)
      → v ≡ word_at k b (4 + k * i + k * n) → record { care = c; value = v } ≡ written_at l n b i
  entry_read {k} i lt ek ec ev =
      let place : 4 + k * i + k * n ≡ 4 + k * n + k * i = omega arith in
      let c = ec ∙ sym (words_at k n 4 i b lt) in
      let v = ev ∙ ap (word_at k b) place ∙ sym (words_at k n (4 + k * n) i b lt) in
      rw (c, v, ek)

  -- the word of a clean entry is that of its string
  pub entry_word : (i : ℕ) → i < n → all_well Plain l n b ≡ true
      → word_of (written_at l n b i) ≡ word (get_or (written_entries Plain l n b) i [])
  unfolding all_well all_clean written_entries
  entry_word i lt good =
      let cs = length_words (word_length l) n (drop 4 b) in
      let vs = length_words (word_length l) n (drop (4 + word_length l * n) b) in
      let told = all_at (λ k. clean l (written_at l n b k)) 0 n good i lt in
      let e = clean_is l (written_at l n b i) (subst (λ (k : ℕ). clean l (written_at l n b k) ≡ true) (zero-add i) told) in
      ap word_of e ∙ word_of_entry (string l (written_at l n b i))
      ∙ ap word (sym (strings_at l (cares l n b) (values l n b) n i cs vs lt))

  -- there are n of them
  pub plain_count : n ≡ length (written_entries Plain l n b)
  unfolding written_entries
  plain_count =
      strings_count l (cares l n b) (values l n b) n (length_words (word_length l) n (drop 4 b))
      (length_words (word_length l) n (drop (4 + word_length l * n) b))

-- ---- Packed rows

-- What unpacking a row has told.
pub row_told : (l : ℕ) (row : List ℕ) {u : Option Entry} → u ≡ unpacked_row l row
    → MatchOption u (good_row l row ≡ false) (λ e. (good_row l row ≡ true) × (e ≡ entry (unpacked l row)))
unfolding unpacked_row
row_told l row {u = u} e = go (good_row l row) refl
  where
    go : (g : Bool) → good_row l row ≡ g
        → MatchOption u (good_row l row ≡ false) (λ e. (good_row l row ≡ true) × (e ≡ entry (unpacked l row)))
    go true h = rw (e, h) (refl, refl)
    go false h = rw (e, h) refl

module _ (l : ℕ) (b : List ℕ) where
  -- The row at an index.
  abbrev pub row_at : ℕ → List ℕ
  row_at i = take (row_length l) (drop (4 + row_length l * i) b)

  -- as the code takes it
  pub row_part : {k : ℕ} (i : ℕ) → k ≡ row_length l → take (4 + k * i + k - (4 + k * i)) (drop (4 + k * i) b) ≡ row_at i
  row_part {k} i e =
      let d : 4 + k * i + k - (4 + k * i) ≡ k = omega arith in
      ap (λ (j : ℕ). take j (drop (4 + k * i) b)) d ∙ rw e

  -- and its length
  pub part_length : {k : ℕ} (i : ℕ) → k ≡ row_length l → 4 + k * i + k ≤ length b
      → length (take (4 + k * i + k - (4 + k * i)) (drop (4 + k * i) b)) ≡ row_length l
  part_length {k} i e h =
      let d : 4 + k * i + k - (4 + k * i) ≡ k = omega arith in
      let at = 4 + k * i in
      rw d (length-take-le k (drop at b) (omega (arith, h, length-drop at b)) ∙ e)

module _ (l n : ℕ) (b : List ℕ) where
  -- the rows from an index on
  abbrev pub rows_on : ℕ → List (List ℕ)
  rows_on i = rows (row_length l) (n - i) (drop (4 + row_length l * i) b)

  -- at the start they are all
  pub rows_start : all_well Packed l n b ≡ all_good l (rows_on 0)
  unfolding all_well
  rows_start =
      let k : ℕ = row_length l in
      let e : 4 + k * 0 ≡ 4 = rw (mul-zero k) in
      let m : n - 0 ≡ n = omega arith in
      rw (e, m)

  -- a turn: one more row is tested
  pub rows_tested : (i : ℕ) → i < n → all_well Packed l n b ≡ all_good l (rows_on i)
      → all_well Packed l n b ≡ (good_row l (row_at l b i) && all_good l (rows_on (i + 1)))
  unfolding all_good
  rows_tested i lt e =
      let k : ℕ = row_length l in
      let m : n - i ≡ suc (n - (i + 1)) = omega arith in
      let at : 4 + k * i + k ≡ 4 + k * (i + 1) = rw (add-one i, mul-suc k i) (omega arith) in
      let here : rows_on i ≡ row_at l b i ∷ rows_on (i + 1) =
      ap (λ (j : ℕ). rows k j (drop (4 + k * i) b)) m ∙ rows_from k (n - (i + 1)) (4 + k * i) b
      ∙ ap (λ (j : ℕ). row_at l b i ∷ rows k (n - (i + 1)) (drop j b)) at in
      e ∙ ap (all_good l) here

  -- at the end all were good
  pub rows_ended : (i : ℕ) → i ≡ n → all_well Packed l n b ≡ all_good l (rows_on i) → all_well Packed l n b ≡ true
  unfolding all_good rows
  rows_ended i end e =
      let m : n - i ≡ 0 = omega (arith, end) in
      e ∙ ap (λ (j : ℕ). all_good l (rows (row_length l) j (drop (4 + row_length l * i) b))) m

  -- the words of good rows hold the entries
  pub rows_hold : (row : List ℕ) → l ≤ 32 → n ≤ limit → form_length Packed l n ≤ length b → length row ≡ limit
      → ((i : ℕ) → i < n → get_or row i 0 ≡ word (unpacked l (row_at l b i)))
      → Holds l row n (written_entries Packed l n b)
  unfolding written_entries row_positions
  rows_hold row short few long room at =
      let k : ℕ = row_length l in
      let rs = packed_rows l n b in
      let count : n ≡ length (map (unpacked l) rs) = sym (length-map rs (unpacked l) ∙ rows_count k n (drop 4 b)) in
      record {
        here = λ i lt.
            let there : get_or rs i [] ≡ row_at l b i =
            rows_at k n i (drop 4 b) lt ∙ ap (take k) (drop-drop (k * i) 4 b) in
            at i lt
            ∙ ap word (ap (unpacked l) (sym there) ∙ sym (get_or-map (unpacked l) rs i [])
            ∙ ap (get_or (map (unpacked l) rs) i) (take-nil l));
        room = room;
        count = count;
        good = record { wide = entries_wide Packed l n b long; few = omega (arith, few, count) };
        short = short;
      }
