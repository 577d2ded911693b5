-- What comes of reading a form into a list, by its case. Assumes nothing.
use mathlib.Core.Path.{◌≡◌, ap, subst}
use mathlib.Core.Bool.{true, false}
use mathlib.Core.List.{List, []}
use mathlib.Core.Option.{Option}
use Prim.Native.Nat.{ℕ, ◌≤◌}
use native.Mathlib.Omega.{arith}
use Rattle.model.specs.Growth.{Entries, limit, grow_all}
use Rattle.tables.specs.declared.Refusal.{Refusal}
use Rattle.tables.specs.declared.Refusal.TheVariants as R
use Rattle.tables.specs.declared.Answered.{Answered}
use Rattle.tables.specs.Values.{table_of, zero_table, accepts, refuses, made_or_full, good_width}
use Rattle.lists.specs.WorkingLists.{Grown, Count, Full, Holds, Within, Makes, makes, stops}
use Rattle.lists.proofs.Holding.{makes_count, makes_full}
use Rattle.forms.specs.declared.Layout.{Layout}
use Rattle.forms.specs.TableForms.{written_entries, all_well, bad_entry, read_entries}
use Rattle.forms.specs.declared.Sizes.{Sizes}
use Rattle.forms.specs.Listings.{Listed, Read, Refused, Reads, unread, listed}

-- ---- What was read

-- a refusal
pub reads_refused : {list : List ℕ} {r : Listed} {a : Answered} {q : Refusal} → Reads list r a → r ≡ Refused q
    → refuses q zero_table ≡ a
reads_refused {q = q} (unread p) e = let same : q ≡ p = cc in ap (λ (x : Refusal). refuses x zero_table) same
reads_refused (listed w h) e = absurd (let z : ◌≡◌ {A = ℕ} 0 1 = cc in omega arith)

-- The entries of a list that was read: so many, of a good width.
pub record ReadAs (list : List ℕ) (l n : ℕ) (a : Answered) : Type 0 where
  pub entries : Entries
  pub width : good_width l ≡ true
  pub held : Holds l list n entries
  pub is : a ≡ accepts (table_of l entries)

-- the entries of the list
pub reads_list : {list : List ℕ} {r : Listed} {a : Answered} {l n : ℕ} → Reads list r a → r ≡ Read l n
    → ReadAs list l n a
reads_list (unread p) e = absurd (let z : ◌≡◌ {A = ℕ} 0 1 = cc in omega arith)
reads_list {l = l} {n = n} (listed {l = k} {n = m} {τ = τ} w h) e =
    let same : ◌≡◌ {A = Sizes} (record { l = l; n = n }) (record { l = k; n = m }) = cc in
    let wide = ap (λ (s : Sizes). s.l) same in
    let count = ap (λ (s : Sizes). s.n) same in
    record { entries = τ; width = rw wide w; held = rw (wide, count) h; is = rw wide }

-- no more of them than a table has
pub read_few : {list : List ℕ} {l n : ℕ} {a : Answered} → ReadAs list l n a → n ≤ limit
read_few m = omega (arith, m.held.count, m.held.good.few)

-- ---- What was grown is what was read

-- a count of what was made is within the limit
pub made_within : {l : ℕ} {list : List ℕ} {g : Grown} {o : Option Entries} → Makes l list g o → Within g
made_within (makes h) = omega (arith, h.count, h.good.few)
made_within stops = tt

module _ {l : ℕ} {list : List ℕ} {g : Grown} {o : Option Entries} (made : Makes l list g o) where
  -- a list
  pub grown_read : {n : ℕ} → good_width l ≡ true → g ≡ Count n
      → Reads list (Read l n) (made_or_full l zero_table o)
  unfolding made_or_full
  grown_read w e = let m = makes_count made e in rw m.1 (listed w m.2)

  -- full
  pub grown_full : g ≡ Full → Reads list (Refused R.Full) (made_or_full l zero_table o)
  unfolding made_or_full
  grown_full e = rw (makes_full made e) (unread R.Full)

-- ---- The same answer in other words

-- a refusal
pub refused_reads : {list : List ℕ} {r : Refusal} {a : Answered} → refuses r zero_table ≡ a → Reads list (Refused r) a
refused_reads {list = list} {r = r} e = subst (Reads list (Refused r)) e (unread r)

-- any
pub same_reads : {list : List ℕ} {r : Listed} {a a' : Answered} → a ≡ a' → Reads list r a → Reads list r a'
same_reads {list = list} {r = r} e h = subst (Reads list r) e h

module _ (f : Layout) (l n : ℕ) (b : List ℕ) {list : List ℕ} where
  -- an entry that is not well written
  pub entries_bad : all_well f l n b ≡ false → Reads list (Refused (bad_entry f)) (read_entries f l n b)
  unfolding read_entries
  entries_bad e = rw e (unread (bad_entry f))

  -- entries that are, as they were grown
  pub entries_good : {r : Listed} → all_well f l n b ≡ true
      → Reads list r (made_or_full l zero_table (grow_all [] (written_entries f l n b)))
      → Reads list r (read_entries f l n b)
  unfolding read_entries
  entries_good e h = rw e h
