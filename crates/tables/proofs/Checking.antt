-- The check of a table value: its tests, and that an accepted value holds its own list. Assumes nothing.
use mathlib.Core.Path.{◌≡◌, refl, sym, ap, ap₂, ◌∙◌, subst}
use mathlib.Core.Bool.{Bool, true, false, ◌&&◌, cond}
use mathlib.Core.List.{List, [], ◌∷◌, ◌++◌, map}
use Prim.Native.Nat.{ℕ, zero, suc, ◌+◌, ◌-◌, ◌^◌, ◌≤◌, ◌<◌}
use native.Mathlib.Nat.{not-suc-le-zero, le_of_suc-le-suc, zero-add, add-zero, suc-add}
use native.Mathlib.Omega.{arith}
use borrow.Author.Tests.{eq-eqb, eqb-true, ltb-true, lt-ltb, le-leb, leb-true}
use lib.Bits.{bit_and, bit_or, and_le_r}
use lib.Dec.{ltb, leb, eqb}
use lib.ListN.{length, get_or, take, drop, replicate, length-append, length-map, length-drop, length-replicate, take-append-drop}
use lib.Seq.{length-take-le, get_or-drop}
use Rattle.model.specs.Strings.{Trits}
use Rattle.model.specs.Growth.{Entries, limit}
use Rattle.model.specs.Tables.{Wide}
use Rattle.words.specs.declared.Entry.{Entry}
use Rattle.words.specs.Words.{entry, care_of, value_of, string, Encodes}
use Rattle.words.proofs.Codec.{clean_encodes, string_length, care_lt, value_in}
use Rattle.tables.specs.declared.Table.{Table}
use Rattle.tables.specs.declared.Refusal.{Refusal}
use Rattle.tables.specs.declared.Refusal.TheVariants as R
use Rattle.tables.specs.Refusals.{Answer, Accepted, Refused}
use Rattle.tables.specs.Lists.{zero_entry, padded, list_words, Stores, pairs, strings}
use Rattle.tables.specs.Values.{most_variables, clean, is_zero, entry_at, all_from, all_clean, zero_past, good_width, table_of}
use Rattle.tables.specs.Values.{entries_of}
use Rattle.tables.specs.Values.{check_table, GoodTable}
use Rattle.tables.proofs.Arrays.{arrays_at, stores_at, stores_length}
use Rattle.tables.proofs.Values.{stores_good}
use Rattle.tables.proofs.Tests.{below_full, both_true, both_zero}

-- An answer that is no refusal is accepted.
pub accepted_unless : (a : Answer) → ((r : Refusal) → ¬ (a ≡ Refused r)) → a ≡ Accepted
accepted_unless Accepted none = refl
accepted_unless (Refused r) none = absurd (none r refl)

-- ---- A test of all indexes

pub all_at : (p : ℕ → Bool) (i n : ℕ) → all_from i n p ≡ true → (m : ℕ) → m < n → p (i + m) ≡ true
unfolding all_from
all_at p i zero h m lt = absurd (not-suc-le-zero lt)
all_at p i (suc n) h zero lt = rw (let z : i + 0 ≡ i = omega arith in z) (both_true (p i) (all_from (suc i) n p) h).0
all_at p i (suc n) h (suc m) lt =
    let s : i + suc m ≡ suc i + m = omega arith in
    rw s (all_at p (suc i) n (both_true (p i) (all_from (suc i) n p) h).1 m (le_of_suc-le-suc lt))

all_below : (p : ℕ → Bool) (n : ℕ) → all_from 0 n p ≡ true → (m : ℕ) → m < n → p m ≡ true
all_below p n h m lt = subst (λ (k : ℕ). p k ≡ true) (zero-add m) (all_at p 0 n h m lt)

all_intro : (p : ℕ → Bool) (i n : ℕ) → ((m : ℕ) → m < n → p (i + m) ≡ true) → all_from i n p ≡ true
unfolding all_from
all_intro p i zero f = refl
all_intro p i (suc n) f =
    let here : p i ≡ true = subst (λ (k : ℕ). p k ≡ true) (add-zero i) (f 0 (omega arith)) in
    rw here
    (all_intro p (suc i) n (λ m lt. subst (λ (k : ℕ). p k ≡ true) (let s : i + suc m ≡ suc i + m = omega arith in s)
    (f (suc m) (omega arith))))

-- ---- One entry

pub clean_hit : (l full c v : ℕ) → full ≡ 2 ^ l - 1
    → (leb c full && eqb (bit_and v c) v) ≡ clean l (record { care = c; value = v })
unfolding clean
clean_hit l full c v e = ap (λ (b : Bool). b && eqb (bit_and v c) v) (below_full l c full e)

pub clean_is : (l : ℕ) (e : Entry) → clean l e ≡ true → Encodes l e
unfolding clean
clean_is l e h =
    let t = both_true (ltb e.care (2 ^ l)) _ h in
    let c = ltb-true e.care (2 ^ l) t.0 in
    let v = eqb-true (bit_and e.value e.care) e.value t.1 in
    let le : bit_and e.value e.care ≤ e.care = and_le_r e.value e.care in
    clean_encodes l e c (omega (arith, v)) v

clean_word : (l : ℕ) (s : Trits) → length s ≡ l → clean l (entry s) ≡ true
unfolding clean
clean_word l s e =
    rw (← e, lt-ltb (care_of s) (2 ^ length s) (care_lt s), eq-eqb (bit_and (value_of s) (care_of s)) (value_of s) (value_in s))

zero_is : (e : Entry) → is_zero e ≡ true → e ≡ zero_entry
unfolding is_zero
zero_is e h =
    let t = both_true (eqb e.care 0) (eqb e.value 0) h in
    λ i. record { care = eqb-true e.care 0 t.0 i; value = eqb-true e.value 0 t.1 i }

-- nothing is gathered with its words where nothing was and it is zero
pub gathered : (some : ℕ) (e : Entry) → eqb (bit_or some (bit_or e.care e.value)) 0 ≡ (eqb some 0 && is_zero e)
unfolding is_zero
gathered some e = both_zero some _ ∙ ap (λ (b : Bool). eqb some 0 && b) (both_zero e.care e.value)

-- ---- All entries

cares_back : (care value : List ℕ) → length care ≡ length value → map (λ (e : Entry). e.care) (pairs care value) ≡ care
unfolding pairs
cares_back [] vs e = refl
cares_back (c ∷ cs) [] e = absurd (omega arith)
cares_back (c ∷ cs) (v ∷ vs) e = ap (λ (r : List ℕ). c ∷ r) (cares_back cs vs (omega arith))

values_back : (care value : List ℕ) → length care ≡ length value → map (λ (e : Entry). e.value) (pairs care value) ≡ value
unfolding pairs
values_back [] [] e = refl
values_back [] (v ∷ vs) e = absurd (omega arith)
values_back (c ∷ cs) [] e = absurd (omega arith)
values_back (c ∷ cs) (v ∷ vs) e = ap (λ (r : List ℕ). v ∷ r) (values_back cs vs (omega arith))

pairs_length : (care value : List ℕ) → length care ≡ length value → length (pairs care value) ≡ length care
unfolding pairs
pairs_length [] vs e = refl
pairs_length (c ∷ cs) [] e = absurd (omega arith)
pairs_length (c ∷ cs) (v ∷ vs) e = ap suc (pairs_length cs vs (omega arith))

pairs_at : (care value : List ℕ) → length care ≡ length value → (i : ℕ)
    → get_or (pairs care value) i zero_entry ≡ entry_at care value i
unfolding pairs
pairs_at [] [] e i = refl
pairs_at [] (v ∷ vs) e i = absurd (omega arith)
pairs_at (c ∷ cs) [] e i = absurd (omega arith)
pairs_at (c ∷ cs) (v ∷ vs) e zero = refl
pairs_at (c ∷ cs) (v ∷ vs) e (suc i) = pairs_at cs vs (omega arith) i

-- entries that encode strings are the words of the strings that they stand for
kept : (l : ℕ) (ws : List Entry) (n : ℕ) → n ≤ length ws → ((m : ℕ) → m < n → Encodes l (get_or ws m zero_entry))
    → take n ws ≡ map entry (map (string l) (take n ws))
kept l ws zero h f = refl
kept l [] (suc n) h f = absurd (not-suc-le-zero h)
kept l (w ∷ ws) (suc n) h f =
    ap₂ {C = List Entry} (λ x r. x ∷ r) (f 0 (omega arith)) (kept l ws n (le_of_suc-le-suc h) (λ m lt. f (suc m) (omega arith)))

zeros : (ws : List Entry) → ((m : ℕ) → m < length ws → get_or ws m zero_entry ≡ zero_entry) → ws ≡ replicate (length ws) zero_entry
zeros [] f = refl
zeros (w ∷ ws) f = ap₂ {C = List Entry} (λ x r. x ∷ r) (f 0 (omega arith)) (zeros ws (λ m lt. f (suc m) (omega arith)))

wide_strings : (l : ℕ) (ws : List Entry) → Wide l (map (string l) ws)
unfolding Wide
wide_strings l [] = tt
wide_strings l (w ∷ ws) = (string_length l w, wide_strings l ws)

module _ (l : ℕ) (ws : List Entry) (n : ℕ) (len : length ws ≡ limit) (few : n ≤ limit) where
  taken : length (map (string l) (take n ws)) ≡ n
  taken = length-map (take n ws) (string l) ∙ length-take-le n ws (omega (arith, len, few))

  -- words that encode strings up to n, and zeros from there on
  own_words : ((m : ℕ) → m < n → Encodes l (get_or ws m zero_entry))
      → ((m : ℕ) → m < limit - n → get_or ws (n + m) zero_entry ≡ zero_entry)
      → ws ≡ list_words (map (string l) (take n ws))
  unfolding list_words padded
  own_words enc zer =
      let gone : length (drop n ws) ≡ limit - n = length-drop n ws ∙ ap (λ (k : ℕ). k - n) len in
      let front : length (map entry (map (string l) (take n ws))) ≡ n = length-map (map (string l) (take n ws)) entry ∙ taken in
      sym (take-append-drop n ws)
      ∙ ap₂ {C = List Entry} (λ x r. x ++ r)
      (kept l ws n (omega (arith, len, few)) enc)
      (zeros (drop n ws) (λ m lt. get_or-drop n ws m zero_entry ∙ zer m (omega (arith, gone)))
      ∙ ap (λ (k : ℕ). replicate k zero_entry) (gone ∙ ap (λ (k : ℕ). limit - k) (sym front)))

module _ (l : ℕ) (care value : List ℕ) (n : ℕ) (cs : length care ≡ limit) (vs : length value ≡ limit) (few : n ≤ limit) where
  -- two arrays that pass the check hold the list that they are read as
  pub checked_holds : all_clean l n care value ≡ true → zero_past n care value ≡ true
      → Stores l care value n (strings l care value n)
  unfolding strings all_clean zero_past
  checked_holds a z =
      let same : length care ≡ length value = cs ∙ sym vs in
      let ws = pairs care value in
      let len : length ws ≡ limit = pairs_length care value same ∙ cs in
      let own : ws ≡ list_words (map (string l) (take n ws)) =
      own_words l ws n len few
      (λ m lt. rw (pairs_at care value same m) (clean_is l _ (all_below (λ i. clean l (entry_at care value i)) n a m lt)))
      (λ m lt. pairs_at care value same (n + m) ∙ zero_is _
      (all_at (λ i. is_zero (entry_at care value i)) n (limit - n) z m lt)) in
      record {
        arrays = record {
          cares = sym (cares_back care value same) ∙ ap (map (λ (e : Entry). e.care)) own;
          values = sym (values_back care value same) ∙ ap (map (λ (e : Entry). e.value)) own;
        };
        count = sym (taken l ws n len few);
        good = record { wide = wide_strings l (take n ws); few = rw (taken l ws n len few) few };
      }

-- ---- And back: a good table value passes

replicate_at : (k m : ℕ) → get_or (replicate k zero_entry) m zero_entry ≡ zero_entry
replicate_at zero m = refl
replicate_at (suc k) zero = refl
replicate_at (suc k) (suc m) = replicate_at k m

past_at : (ws : List Entry) (k m : ℕ) → get_or (ws ++ replicate k zero_entry) (length ws + m) zero_entry ≡ zero_entry
past_at [] k m = rw (zero-add m) (replicate_at k m)
past_at (w ∷ ws) k m = rw (suc-add (length ws) m) (past_at ws k m)

module _ {l : ℕ} {care value : List ℕ} {n : ℕ} {τ : Entries} (h : Stores l care value n τ) where
  holds_clean : all_clean l n care value ≡ true
  unfolding all_clean
  holds_clean =
      all_intro (λ i. clean l (entry_at care value i)) 0 n
      (λ m lt. rw (zero-add m, stores_at h m lt) (clean_word l (get_or τ m []) (stores_length h m lt)))

  holds_zero : zero_past n care value ≡ true
  unfolding zero_past is_zero list_words padded
  holds_zero =
      all_intro (λ i. is_zero (entry_at care value i)) n (limit - n)
      (λ m lt.
      let here : n ≡ length (map entry τ) = h.count ∙ sym (length-map τ entry) in
      ap is_zero
      (arrays_at h.arrays (n + m)
      ∙ ap (λ (k : ℕ). get_or (list_words τ) (k + m) zero_entry) here
      ∙ past_at (map entry τ) (limit - length (map entry τ)) m))

-- what a good table value holds
pub good_holds : {t : Table} → GoodTable t → Stores t.l t.care t.value t.n (entries_of t)
unfolding table_of
good_holds g = record {
  arrays = record { cares = ap (λ (x : Table). x.care) g.same; values = ap (λ (x : Table). x.value) g.same };
  count = ap (λ (x : Table). x.n) g.same;
  good = g.list;
}

module _ {t : Table} (g : GoodTable t) where
  -- at most 256 entries
  pub good_few : t.n ≤ limit
  good_few = let h = good_holds g in omega (arith, h.count, h.good.few)

  words_long : length (list_words (entries_of t)) ≡ limit
  unfolding list_words padded
  words_long =
      let ws = map entry (entries_of t) in
      length-append ws (replicate (limit - length ws) zero_entry)
      ∙ omega (arith, g.list.few, length-map (entries_of t) entry, length-replicate {A = Entry} (limit - length ws) zero_entry)

  -- arrays of 256 words
  pub good_long : (length t.care ≡ limit) × (length t.value ≡ limit)
  good_long =
      let a = (good_holds g).arrays in (
        ap length a.cares ∙ length-map (list_words (entries_of t)) (λ (e : Entry). e.care) ∙ words_long,
        ap length a.values ∙ length-map (list_words (entries_of t)) (λ (e : Entry). e.value) ∙ words_long,
      )

-- Entries past the count are zero in a good table value.
pub good_past : {t : Table} → GoodTable t → zero_past t.n t.care t.value ≡ true
good_past g = holds_zero (good_holds g)

-- The check accepts every good table value.
pub good_passes : (t : Table) → GoodTable t → check_table t ≡ Accepted
unfolding check_table
good_passes t g =
    let h = good_holds g in
    rw (g.width, le-leb t.n limit (good_few g), holds_clean h, holds_zero h)

pub width_most : (l : ℕ) → good_width l ≡ true → l ≤ most_variables
unfolding good_width
width_most l h = leb-true l most_variables (both_true (ltb 0 l) (leb l most_variables) h).1

-- ---- Both promises of the check, by its answer

module _ (t : Table) {r : Refusal} where
  pub check_refused : Refused r ≡ check_table t
      → (Refused r ≡ check_table t) × ((Refused r ≡ Accepted → GoodTable t) × (GoodTable t → Refused r ≡ Accepted))
  check_refused e = (e, (λ q. absurd (let z : ◌≡◌ {A = ℕ} 0 1 = cc in omega arith), λ g. e ∙ good_passes t g))

-- an answer of the three tests that accepts
all_passed : (a b c : Bool)
    → cond a (cond b (cond c Accepted (Refused R.Stray)) (Refused R.Entries)) (Refused R.Width) ≡ Accepted
    → (a ≡ true) × (b ≡ true) × (c ≡ true)
all_passed true true true e = (refl, refl, refl)
all_passed true true false e = absurd (let z : ◌≡◌ {A = ℕ} 0 1 = cc in omega arith)
all_passed true false c e = absurd (let z : ◌≡◌ {A = ℕ} 0 1 = cc in omega arith)
all_passed false b c e = absurd (let z : ◌≡◌ {A = ℕ} 0 1 = cc in omega arith)

-- What the check accepts is a good table value, where the arrays have their 256 words.
pub passes_good : (t : Table) → length t.care ≡ limit → length t.value ≡ limit → check_table t ≡ Accepted → GoodTable t
unfolding check_table entries_of
passes_good t cs vs e =
    let clean = all_clean t.l t.n t.care t.value in
    let past = zero_past t.n t.care t.value in
    let p = all_passed (good_width t.l) (leb t.n limit) (clean && past) e in
    let b = both_true clean past p.2 in
    stores_good t p.0 (checked_holds t.l t.care t.value t.n cs vs (leb-true t.n limit p.1) b.0 b.1)

pub check_accepted : (t : Table) → length t.care ≡ limit → length t.value ≡ limit → Accepted ≡ check_table t
    → (Accepted ≡ check_table t) × ((Accepted ≡ Accepted → GoodTable t) × (GoodTable t → Accepted ≡ Accepted))
check_accepted t cs vs e = (e, (λ q. passes_good t cs vs (sym e), λ g. refl))
