-- The form of the table whose entries a list holds, as it is written. Assumes nothing.
use mathlib.Core.Path.{◌≡◌, refl, sym, ap, ap₂, ◌∙◌}
use mathlib.Core.Bool.{true}
use mathlib.Core.List.{List, [], ◌∷◌}
use Prim.Native.Nat.{ℕ, suc, ◌+◌, ◌*◌, ◌≤◌, ◌<◌}
use native.Mathlib.Omega.{arith}
use lib.ListN.{length, get_or, take, set, length-append, length-map}
use lib.Seq.{sets, set_comm}
use Rattle.model.specs.Strings.{Trits}
use Rattle.model.specs.Growth.{Entries}
use Rattle.words.specs.declared.Entry.{Entry}
use Rattle.words.specs.Words.{entry, string, Encodes}
use Rattle.words.proofs.Codec.{string_of_entry}
use Rattle.tables.specs.declared.Refusal.TheVariants as R
use Rattle.tables.specs.Refusals.{Accepted, Refused}
use Rattle.tables.specs.Lists.{padded, list_words}
use Rattle.tables.specs.Values.{table_of, good_width, GoodTable}
use Rattle.tables.proofs.Arrays.{stores_at}
use Rattle.tables.proofs.Values.{stores_table, table_of_good}
use Rattle.tables.proofs.Checking.{good_passes}
use Rattle.lists.specs.WorkingLists.{Holds}
use Rattle.codec.specs.Numbers.{word_bytes, bytes}
use Rattle.codec.proofs.Rows.{row_in}
use Rattle.codec.proofs.Laws.{word_long, write_turn, rows_stored}
use Rattle.forms.specs.declared.Layout.{Layout}
use Rattle.forms.specs.declared.Layout.TheVariants.{Plain}
use Rattle.forms.specs.TableForms.{word_length, form_length, entry_bytes, form_of, form_answer, written}
use Rattle.forms.proofs.Outcomes.{write_narrow, write_fits, stored}

-- ---- Stores at other places

-- a store before a run of stores
set_before : (b : List ℕ) (i : ℕ) (xs : List ℕ) (j y : ℕ) → j < i → set (sets b i xs) j y ≡ sets (set b j y) i xs
set_before b i [] j y lt = refl
set_before b i (x ∷ xs) j y lt =
    set_before (set b i x) (suc i) xs j y (omega arith)
    ∙ ap (λ (c : List ℕ). sets c (suc i) xs) (set_comm b i j x y (λ e. absurd (omega (arith, e))))

-- a run of stores that ends before another begins
sets_before : (b : List ℕ) (i : ℕ) (xs : List ℕ) (j : ℕ) (ys : List ℕ) → j + length ys ≤ i
    → sets (sets b i xs) j ys ≡ sets (sets b j ys) i xs
sets_before b i xs j [] h = refl
sets_before b i xs j (y ∷ ys) h =
    ap (λ (c : List ℕ). sets c (suc j) ys) (set_before b i xs j y (omega arith))
    ∙ sets_before (set b j y) i xs (suc j) ys (omega arith)

-- ---- An entry of a list

-- the words of a string of l positions encode it
pub entry_encodes : {l : ℕ} {e : Entry} {s : Trits} → length s ≡ l → e ≡ entry s → Encodes l e × (string l e ≡ s)
entry_encodes {l = l} {e = e} {s = s} long q =
    let is = string_of_entry l e s long q in
    (q ∙ ap entry (sym is), is)

module _ {l : ℕ} {list : List ℕ} {n : ℕ} {τ : Entries} (h : Holds l list n τ) where
  -- the words of the string at an index are those of its table value
  pub table_words : (i : ℕ) {e : Entry} → i < n → e ≡ entry (get_or τ i [])
      → (e.care ≡ get_or (table_of l τ).care i 0) × (e.value ≡ get_or (table_of l τ).value i 0)
  unfolding table_of
  table_words i lt q =
      let same = q ∙ sym (stores_at (stores_table l τ h.good) i (omega (arith, h.count))) in
      (ap (λ (x : Entry). x.care) same, ap (λ (x : Entry). x.value) same)

  -- it has as many words as the list has strings
  pub table_long : (n ≤ length (table_of l τ).care) × (n ≤ length (table_of l τ).value)
  unfolding table_of list_words padded
  table_long =
      let ws = list_words τ in
      let room : n ≤ length ws = rw (length-append, length-map τ entry) (omega (arith, h.count)) in
      (rw (length-map ws (λ (e : Entry). e.care)) room, rw (length-map ws (λ (e : Entry). e.value)) room)

-- ---- The care and the value words

-- The first i care words of k bytes stand from index 4 on, the first i value words after room for n care words.
abbrev pub Columns : (k n : ℕ) (cs vs out₀ out : List ℕ) (i : ℕ) → Type 0
Columns k n cs vs out₀ out i = out ≡ sets (sets out₀ 4 (bytes k (take i cs))) (4 + k * n) (bytes k (take i vs))

-- a turn writes one more of each
pub columns_turn : (k n : ℕ) (cs vs out₀ out : List ℕ) (i : ℕ) {c v : ℕ} {out₁ out₂ : List ℕ} → i < n → n ≤ length cs
    → n ≤ length vs → Columns k n cs vs out₀ out i → c ≡ get_or cs i 0 → v ≡ get_or vs i 0
    → out₁ ≡ sets out (4 + k * i) (word_bytes k c) → out₂ ≡ sets out₁ (4 + k * n + k * i) (word_bytes k v)
    → Columns k n cs vs out₀ out₂ (i + 1)
columns_turn k n cs vs out₀ out i {out₁ = out₁} lt cl vl q ec ev first second =
    let front = sets out₀ 4 (bytes k (take i cs)) in
    let x = word_bytes k (get_or cs i 0) in
    let room : 4 + k * i + length x ≤ 4 + k * n = omega (arith, row_in k n i lt, word_long k (get_or cs i 0)) in
    let turned : out₁ ≡ sets (sets out₀ 4 (bytes k (take (i + 1) cs))) (4 + k * n) (bytes k (take i vs)) =
    first ∙ ap₂ (λ (b : List ℕ) (w : ℕ). sets b (4 + k * i) (word_bytes k w)) q ec
    ∙ sets_before front (4 + k * n) (bytes k (take i vs)) (4 + k * i) x room
    ∙ ap (λ (b : List ℕ). sets b (4 + k * n) (bytes k (take i vs))) (write_turn k out₀ cs front 4 i (omega arith) refl) in
    second ∙ ap (λ (w : ℕ). sets out₁ (4 + k * n + k * i) (word_bytes k w)) ev
    ∙ write_turn k _ vs out₁ (4 + k * n) i (omega arith) turned

-- at the end they are the bytes of the entries
pub columns_end : {l : ℕ} {list : List ℕ} {n : ℕ} {τ : Entries} {k i : ℕ} (out₀ out : List ℕ) → Holds l list n τ
    → k ≡ word_length l → i ≡ n → Columns k n (table_of l τ).care (table_of l τ).value out₀ out i
    → out ≡ sets out₀ 4 (entry_bytes Plain (table_of l τ))
unfolding table_of entry_bytes
columns_end {l = l} {n = n} {τ = τ} {k = k} out₀ out h size end q =
    let t = table_of l τ in
    let all = rw end at q in
    all ∙ rows_stored k n 4 t.care (take n t.value) out₀ (table_long h).0 ∙ rw (← size, ← h.count)

-- ---- The form of a list

module _ (f : Layout) {l : ℕ} {list : List ℕ} {n : ℕ} {τ : Entries} (w : good_width l ≡ true) (h : Holds l list n τ)
    (out : List ℕ) where
  good : GoodTable (table_of l τ)
  good = table_of_good l τ w h.good

  -- An output too short: 9, and nothing is written.
  pub list_narrow : length out < form_length f l n
      → (Refused R.Narrow ≡ form_answer f (table_of l τ) (length out))
      × (out ≡ written (Refused R.Narrow) (form_of f (table_of l τ)) out)
  unfolding table_of
  list_narrow short =
      let less = rw h.count at short in
      write_narrow f (table_of l τ) out (good_passes (table_of l τ) good) less

  -- Else it is accepted, and the stores of the sizes and the entries are the form.
  pub list_fits : {out₁ out₂ out₃ : List ℕ} → form_length f l n ≤ length out → out₁ ≡ sets out 0 (word_bytes 2 l)
      → out₂ ≡ sets out₁ 2 (word_bytes 2 n) → out₃ ≡ sets out₂ 4 (entry_bytes f (table_of l τ))
      → (Accepted ≡ form_answer f (table_of l τ) (length out)) × (out₃ ≡ written Accepted (form_of f (table_of l τ)) out)
  unfolding table_of
  list_fits room first second third =
      let t = table_of l τ in
      let more = rw h.count at room in
      let two = second ∙ ap₂ (λ (b : List ℕ) (m : ℕ). sets b 2 (word_bytes 2 m)) first h.count in
      let all = third ∙ ap (λ (b : List ℕ). sets b 4 (entry_bytes f t)) two in
      (write_fits f t out (good_passes t good) more, all ∙ stored t good f out more)
