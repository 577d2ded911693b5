-- The table value of a working list, word by word, and what a call answers of it. Assumes nothing.
use mathlib.Core.Path.{◌≡◌, refl, sym, ap, ◌∙◌, subst}
use mathlib.Core.Bool.{Bool, true, false}
use mathlib.Core.List.{List, [], map}
use mathlib.Core.Option.{Option}
use Prim.Native.Nat.{ℕ, ◌+◌, ◌-◌, ◌≤◌, ◌<◌}
use native.Mathlib.Nat.{not-suc-le-zero}
use native.Mathlib.Omega.{arith}
use borrow.Author.Tests.{ltb-true, ltb-false}
use lib.Dec.{ltb}
use lib.ListN.{length, get_or, set, replicate, length-append, length-map, length-replicate, length-set}
use lib.ListN.{get_or-replicate, get_or-map}
use lib.Seq.{ext_get_or, get_or-append-add}
use Rattle.model.specs.Growth.{Entries, limit}
use Rattle.words.specs.declared.Entry.{Entry}
use Rattle.words.specs.Words.{entry}
use Rattle.tables.specs.declared.Table.{Table}
use Rattle.tables.specs.declared.Refusal.{Refusal}
use Rattle.tables.specs.declared.Refusal.TheVariants as R
use Rattle.tables.specs.declared.Answered.{Answered}
use Rattle.tables.specs.Lists.{zero_entry, padded, list_words}
use Rattle.tables.specs.Values.{table_of, accepts, refuses, made_or_full, entries_of, GoodTable}
use Rattle.tables.proofs.Arrays.{list_words_at}
use Rattle.lists.specs.WorkingLists.{Grown}
use Rattle.lists.specs.WorkingLists.{Count, Full}
use Rattle.lists.specs.Comings.{Coming}
use Rattle.lists.specs.Comings as C
use Rattle.lists.specs.WorkingLists.{Holds, Makes}
use Rattle.lists.specs.Comings.{Bounded, Comes, turned, stayed, counted}
use Rattle.lists.proofs.Holding.{makes_count, makes_full, run_turn, run_stays}

-- ---- The words of a list, with zeros up to 256

-- there are 256 of them
list_words_length : (τ : Entries) → length τ ≤ limit → length (list_words τ) ≡ limit
unfolding list_words padded
list_words_length τ h = simp (length-append, length-replicate, length-map) (omega arith)

-- those past the count are 0
list_words_past : (τ : Entries) (i : ℕ) → length τ ≤ i → i < limit → get_or (list_words τ) i zero_entry ≡ zero_entry
unfolding list_words padded
list_words_past τ i h lt =
    let long = length-map τ entry in
    subst (λ (m : ℕ). get_or (list_words τ) m zero_entry ≡ zero_entry)
    (let z : length (map entry τ) + (i - length τ) ≡ i = rw long (omega arith) in z)
    (get_or-append-add (map entry τ) _ (i - length τ) zero_entry
    ∙ get_or-replicate (limit - length (map entry τ)) (i - length τ) zero_entry zero_entry (rw long (omega arith)))

-- ---- One of the two arrays of a table value

-- The first i words are those of the strings of τ, by the part f of an entry; the others are 0.
pub record Column (f : Entry → ℕ) (τ : Entries) (ws : List ℕ) (i : ℕ) : Type 0 where
  pub room : length ws ≡ limit
  pub done : (m : ℕ) → m < i → get_or ws m 0 ≡ f (entry (get_or τ m []))
  pub past : (m : ℕ) → i ≤ m → m < limit → get_or ws m 0 ≡ 0

module _ (f : Entry → ℕ) (τ : Entries) where
  -- before the loop
  pub column_start : Column f τ (replicate limit 0) 0
  column_start = record {
    room = length-replicate {A = ℕ} limit 0;
    done = λ m lt. absurd (not-suc-le-zero lt);
    past = λ m le lt. get_or-replicate limit m 0 0 lt;
  }

  module _ {ws : List ℕ} {i : ℕ} (w : Column f τ ws i) where
    -- one word more
    pub column_turn : (y : ℕ) → i < limit → y ≡ f (entry (get_or τ i [])) → Column f τ (set ws i y) (i + 1)
    column_turn y lt is = record {
      room = length-set ws i y ∙ w.room;
      done = run_turn ws (λ m. f (entry (get_or τ m []))) i y (omega (arith, w.room)) w.done is;
      past = λ m le b. run_stays ws i y m (omega arith) ∙ w.past m (omega arith) b;
    }

    -- at the end they are the words of the list
    pub column_end : f zero_entry ≡ 0 → length τ ≤ limit → i ≡ length τ → ws ≡ map f (list_words τ)
    column_end z few end =
        ext_get_or 0 ws _ (w.room ∙ sym (length-map (list_words τ) f ∙ list_words_length τ few))
        (λ m lt. at m (omega (arith, w.room)) (ltb m i) refl ∙ sym (get_or-map f (list_words τ) m zero_entry)
        ∙ ap (get_or (map f (list_words τ)) m) z)
      where
        at : (m : ℕ) → m < limit → (b : Bool) → ltb m i ≡ b → get_or ws m 0 ≡ f (get_or (list_words τ) m zero_entry)
        at m lt true e =
            let h = ltb-true m i e in
            w.done m h ∙ ap f (sym (list_words_at τ m (omega (arith, end))))
        at m lt false e =
            let h = ltb-false m i e in
            w.past m h lt ∙ sym (ap f (list_words_past τ m (omega (arith, end)) lt) ∙ z)

-- both arrays, written to the end, and the count make the table value
pub column_table : {l n i : ℕ} {care value : List ℕ} {τ : Entries} → length τ ≤ limit → n ≡ length τ → i ≡ n
    → Column (λ e. e.care) τ care i → Column (λ e. e.value) τ value i
    → record { l = l; n = n; care = care; value = value } ≡ table_of l τ
unfolding table_of
column_table {l = l} {i = i} {τ = τ} few count end cs vs =
    let all : i ≡ length τ = end ∙ count in
    let c = column_end (λ e. e.care) τ cs refl few all in
    let v = column_end (λ e. e.value) τ vs refl few all in
    λ j. record { l = l; n = count j; care = c j; value = v j }

-- ---- What came of a list that was to be made

module _ {l : ℕ} {list : List ℕ} {g : Grown} {o : Option Entries} (made : Makes l list g o) (t : Table) where
  -- its count
  pub made_counted : {n : ℕ} → g ≡ Count n → Comes l t list (C.Count n) (made_or_full l t o)
  unfolding made_or_full
  made_counted e = let m = makes_count made e in rw m.1 (counted m.2)

  -- or 8
  pub full_turned : g ≡ Full → Comes l t list (C.Refused R.Full) (made_or_full l t o)
  unfolding made_or_full
  full_turned e = rw (makes_full made e) (turned R.Full)

-- ---- What came of a call, by its case

-- a refusal
pub came_refused : {l : ℕ} {t : Table} {list : List ℕ} {came : Coming} {a : Answered} {r : Refusal} → Comes l t list came a
    → came ≡ C.Refused r → refuses r t ≡ a
came_refused {t = t} {r = r} (turned q) e = let same : r ≡ q = cc in ap (λ (x : Refusal). refuses x t) same
came_refused stayed e = absurd (let z : ◌≡◌ {A = ℕ} 0 1 = cc in omega arith)
came_refused (counted h) e = absurd (let z : ◌≡◌ {A = ℕ} 0 1 = cc in omega arith)

-- the table as it was given
pub came_same : {l : ℕ} {t : Table} {list : List ℕ} {came : Coming} {a : Answered} → Comes l t list came a → came ≡ C.Same
    → accepts t ≡ a
came_same (turned q) e = absurd (let z : ◌≡◌ {A = ℕ} 0 1 = cc in omega arith)
came_same stayed e = refl
came_same (counted h) e = absurd (let z : ◌≡◌ {A = ℕ} 0 1 = cc in omega arith)

-- the entries of the list
pub came_count : {l : ℕ} {t : Table} {list : List ℕ} {came : Coming} {a : Answered} {n : ℕ} → Comes l t list came a
    → came ≡ C.Count n → (τ : Entries) × Holds l list n τ × (a ≡ accepts (table_of l τ))
came_count (turned q) e = absurd (let z : ◌≡◌ {A = ℕ} 0 1 = cc in omega arith)
came_count stayed e = absurd (let z : ◌≡◌ {A = ℕ} 0 1 = cc in omega arith)
came_count {n = n} (counted {n = m} {τ = τ} h) e = (τ, (let same : n ≡ m = cc in rw same h), refl)

-- the count that came is within the limit
pub bounded_count : {came : Coming} {n : ℕ} → Bounded came → came ≡ C.Count n → n ≤ limit
bounded_count w e = rw e at w

-- a good table as it was given is the table of its entries
pub good_stayed : {t : Table} → GoodTable t → (list : List ℕ)
    → Comes t.l t list C.Same (accepts (table_of t.l (entries_of t)))
good_stayed {t} g list = subst (λ (u : Table). Comes t.l t list C.Same (accepts u)) g.same stayed
