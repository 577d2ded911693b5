-- Table values and the lists that they hold. Assumes nothing.
use mathlib.Core.Path.{◌≡◌, refl, sym, ap}
use mathlib.Core.Bool.{true}
use mathlib.Core.List.{List, [], ◌∷◌, map}
use Prim.Native.Nat.{ℕ}
use Rattle.model.specs.Strings.{stars}
use Rattle.model.specs.Growth.{Entries}
use Rattle.model.specs.Tables.{Good}
use Rattle.words.specs.declared.Entry.{Entry}
use Rattle.words.proofs.Codec.{stars_entry}
use Rattle.tables.specs.declared.Table.{Table}
use Rattle.tables.specs.Lists.{list_words, padded, Stores}
use Rattle.tables.specs.Values.{zeros_of, table_of, entries_of, good_width, GoodTable}
use Rattle.tables.proofs.Arrays.{stores_is}

pub empty_table : (l : ℕ) → table_of l [] ≡ zeros_of l 0
unfolding table_of list_words padded
empty_table l = refl

pub star_table : (l : ℕ) → table_of l (stars l ∷ []) ≡ zeros_of l 1
unfolding table_of list_words padded
star_table l =
    ap
    (λ (e : Entry). record {
      l = l;
      n = 1;
      care = map (λ (x : Entry). x.care) (padded (e ∷ []));
      value = map (λ (x : Entry). x.value) (padded (e ∷ []));
    })
    (stars_entry l)

-- arrays and a count that hold a list are the parts of its table value
pub table_is : {l : ℕ} {care value : List ℕ} {n : ℕ} {τ : Entries} → Stores l care value n τ
    → record { l = l; n = n; care = care; value = value } ≡ table_of l τ
unfolding table_of
table_is {l = l} h = λ i. record { l = l; n = h.count i; care = h.arrays.cares i; value = h.arrays.values i }

-- ---- The table value of a list and the list of a table value

pub stores_table : (l : ℕ) (τ : Entries) → Good l τ → Stores l (table_of l τ).care (table_of l τ).value (table_of l τ).n τ
unfolding table_of
stores_table l τ g = record { arrays = record { cares = refl; values = refl }; count = refl; good = g }

-- The list of the table of a good list is that list.
pub entries_of_table : (l : ℕ) (τ : Entries) → Good l τ → entries_of (table_of l τ) ≡ τ
unfolding table_of entries_of
entries_of_table l τ g = stores_is (stores_table l τ g)

-- The table of a good list of strings of 1 to 32 positions is a good table value.
pub table_of_good : (l : ℕ) (τ : Entries) → good_width l ≡ true → Good l τ → GoodTable (table_of l τ)
unfolding table_of
table_of_good l τ w g =
    let back = entries_of_table l τ g in
    record { width = w; list = rw back g; same = ap (table_of l) (sym back) }

-- Arrays and a count that hold the list that they are read as make a good table value.
pub stores_good : (t : Table) → good_width t.l ≡ true → Stores t.l t.care t.value t.n (entries_of t) → GoodTable t
stores_good t w h = record { width = w; list = h.good; same = table_is h }
