-- Rows of words: none above l, and the strings that they stand for. Assumes nothing.
use mathlib.Core.Path.{◌≡◌, sym, ap, ◌∙◌}
use mathlib.Core.Bool.{Bool, true, ◌&&◌, and_assoc, and-true}
use mathlib.Core.List.{List, [], ◌∷◌, map}
use Prim.Native.Nat.{ℕ, zero, suc, ◌+◌, ◌-◌, ◌^◌, ◌≤◌, ◌<◌}
use native.Mathlib.Nat.{not-suc-le-zero, le_of_suc-le-suc}
use native.Mathlib.Numerals.{add-one}
use borrow.Author.Tests.{ltb-true}
use lib.Dec.{ltb, leb}
use lib.ListN.{length, get_or, drop, drop_of_length-le, get_or-map}
use lib.Seq.{drop-cons}
use Rattle.model.specs.Strings.{Trits, exactly}
use Rattle.model.proofs.Strings.{exactly_length}
use Rattle.words.specs.Words.{set, entry}
use Rattle.words.proofs.Codec.{set_length, set_word_set, group_entry}
use Rattle.tables.proofs.Tests.{below_full, both_true}
use Rattle.conversion.specs.Conversion.{all_below}

-- ---- No bit above l

module _ (l : ℕ) (ws : List ℕ) where
  pub below_turn : (good : Bool) (i full : ℕ) → i < length ws → all_below l ws ≡ (good && all_below l (drop i ws))
      → full ≡ 2 ^ l - 1
      → all_below l ws ≡ ((good && leb (get_or ws i 0) full) && all_below l (drop (i + 1) ws))
  unfolding all_below
  below_turn good i full lt so_far e =
      so_far
      ∙ ap (λ (r : List ℕ). good && all_below l r) (drop-cons ws i 0 lt)
      ∙ sym (and_assoc good (ltb (get_or ws i 0) (2 ^ l)) (all_below l (drop (suc i) ws)))
      ∙ rw (below_full l (get_or ws i 0) full e, add-one)

  pub below_end : (good : Bool) (i : ℕ) → length ws ≤ i → all_below l ws ≡ (good && all_below l (drop i ws))
      → good ≡ all_below l ws
  unfolding all_below
  below_end good i h so_far = sym (so_far ∙ ap (λ (r : List ℕ). good && all_below l r) (drop_of_length-le ws h) ∙ and-true good)

pub below_at : (l : ℕ) (ws : List ℕ) (i : ℕ) → all_below l ws ≡ true → i < length ws → get_or ws i 0 < 2 ^ l
unfolding all_below
below_at l [] i h lt = absurd (not-suc-le-zero lt)
below_at l (w ∷ ws) zero h lt = ltb-true w (2 ^ l) (both_true (ltb w (2 ^ l)) (all_below l ws) h).0
below_at l (w ∷ ws) (suc i) h lt = below_at l ws i (both_true (ltb w (2 ^ l)) (all_below l ws) h).1 (le_of_suc-le-suc lt)

-- ---- The strings of the words

-- the strings of l positions that the words stand for
abbrev pub strings : ℕ → List ℕ → List Trits
strings l ws = map exactly (map (set l) ws)

-- past the row
abbrev pub none : ℕ → Trits
none l = exactly (set l 0)

pub row_at : (l : ℕ) (ws : List ℕ) (i : ℕ) → get_or (strings l ws) i (none l) ≡ exactly (set l (get_or ws i 0))
row_at l ws i = get_or-map exactly (map (set l) ws) i (set l 0) ∙ ap exactly (get_or-map (set l) ws i 0)

pub row_length : (l : ℕ) (ws : List ℕ) (i : ℕ) → length (get_or (strings l ws) i (none l)) ≡ l
row_length l ws i = ap length (row_at l ws i) ∙ exactly_length (set l (get_or ws i 0)) ∙ set_length l (get_or ws i 0)

-- care and value of one, by its word
pub row_entry : (l full : ℕ) (ws : List ℕ) (i : ℕ) → all_below l ws ≡ true → i < length ws → full ≡ 2 ^ l - 1
    → record { care = full; value = get_or ws i 0 } ≡ entry (get_or (strings l ws) i (none l))
row_entry l full ws i h lt f =
    group_entry (set l (get_or ws i 0)) full (get_or ws i 0) l (set_length l (get_or ws i 0)) f
    (sym (set_word_set l (get_or ws i 0) (below_at l ws i h lt)))
    ∙ ap entry (sym (row_at l ws i))
