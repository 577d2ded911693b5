-- Two arrays that store a list of strings: what stands at an index, and what they are read as. Assumes nothing.
use mathlib.Core.Path.{◌≡◌, refl, sym, ap, ◌∙◌, subst}
use mathlib.Core.Bool.{Bool, ◌||◌}
use mathlib.Core.List.{List, [], ◌∷◌, map}
use Prim.Native.Nat.{ℕ, zero, suc, ◌<◌}
use native.Mathlib.Nat.{not-suc-le-zero, le_of_suc-le-suc}
use native.Mathlib.Omega.{arith}
use lib.ListN.{length, get_or, length-map, get_or-append, get_or-map}
use lib.Seq.{take_at}
use Rattle.model.specs.Strings.{Trits, subsumes}
use Rattle.model.specs.Growth.{Entries, subsumed}
use Rattle.model.specs.Tables.{Wide}
use Rattle.words.specs.declared.Entry.{Entry}
use Rattle.words.specs.Words.{entry, string}
use Rattle.words.proofs.Codec.{string_entry}
use Rattle.tables.specs.Values.{entry_at}
use Rattle.tables.specs.Lists.{zero_entry, padded, list_words, Arrays, Stores, pairs, strings, any}

module _ {care value : List ℕ} {ws : List Entry} (h : Arrays care value ws) where
  -- a load from both arrays
  pub arrays_at : (i : ℕ) → entry_at care value i ≡ get_or ws i zero_entry
  arrays_at i =
      rw (
        h.cares,
        h.values,
        get_or-map (λ (e : Entry). e.care) ws i zero_entry,
        get_or-map
            (λ (e : Entry). e.value) ws i zero_entry,
      )

-- ---- A list of strings

pub wide_at : (l : ℕ) (τ : Entries) (i : ℕ) → Wide l τ → i < length τ → length (get_or τ i []) ≡ l
unfolding Wide
wide_at l [] i w h = absurd (not-suc-le-zero h)
wide_at l (s ∷ τ) zero w h = w.0
wide_at l (s ∷ τ) (suc i) w h = wide_at l τ i w.1 (le_of_suc-le-suc h)

map_at : (τ : Entries) (i : ℕ) → i < length τ → get_or (map entry τ) i zero_entry ≡ entry (get_or τ i [])
map_at [] i h = absurd (not-suc-le-zero h)
map_at (s ∷ τ) zero h = refl
map_at (s ∷ τ) (suc i) h = map_at τ i (le_of_suc-le-suc h)

pub list_words_at : (τ : Entries) (i : ℕ) → i < length τ → get_or (list_words τ) i zero_entry ≡ entry (get_or τ i [])
unfolding list_words padded
list_words_at τ i h = get_or-append (map entry τ) _ zero_entry i (rw (length-map τ entry) h) ∙ map_at τ i h

module _ {l : ℕ} {care value : List ℕ} {n : ℕ} {τ : Entries} (h : Stores l care value n τ) where
  -- what stands at an index below the count is the entry there
  pub stores_at : (i : ℕ) → i < n → entry_at care value i ≡ entry (get_or τ i [])
  stores_at i lt = arrays_at h.arrays i ∙ list_words_at τ i (omega (arith, h.count))

  pub stores_length : (i : ℕ) → i < n → length (get_or τ i []) ≡ l
  stores_length i lt = wide_at l τ i h.good.wide (omega (arith, h.count))

pub subsumed_any : (τ : Entries) (y : Trits) → any (λ s. subsumes s y) τ ≡ subsumed τ y
unfolding any subsumed
subsumed_any [] y = refl
subsumed_any (s ∷ τ) y = ap (λ (b : Bool). subsumes s y || b) (subsumed_any τ y)

-- ---- What two arrays hold is what they are read as

pairs_map : (ws : List Entry) → pairs (map (λ (e : Entry). e.care) ws) (map (λ (e : Entry). e.value) ws) ≡ ws
unfolding pairs
pairs_map [] = refl
pairs_map (w ∷ ws) = ap (λ (r : List Entry). w ∷ r) (pairs_map ws)

strings_map : (l : ℕ) (τ : Entries) → Wide l τ → map (string l) (map entry τ) ≡ τ
unfolding Wide
strings_map l [] w = refl
strings_map l (s ∷ τ) w =
    rw (strings_map l τ w.1) (ap (λ (r : Trits). r ∷ τ) (subst (λ (k : ℕ). string k (entry s) ≡ s) w.0 (string_entry s)))

pub stores_is : {l : ℕ} {care value : List ℕ} {n : ℕ} {τ : Entries} → Stores l care value n τ → strings l care value n ≡ τ
unfolding strings list_words padded
stores_is {l = l} {n = n} {τ = τ} h =
    rw (h.arrays.cares, h.arrays.values, pairs_map, take_at (map entry τ) _ n (length-map τ entry ∙ sym h.count))
    (strings_map l τ h.good.wide)
