-- The change of side by widest strings (Tables has its definition; these words are for laws about it). Assumes nothing.
use Rattle.std.specs.Prelude.{◌≡◌, Bool, true, not, ◌&&◌, ◌||◌, cond, List, [], ◌∷◌, ◌⊎◌, ℕ, suc, T, ltb, length}
use Rattle.std.proofs.Math.Option.{Option}
use Rattle.model.specs.Strings.{Trits, matches, match_digit, subsumes, all_zero}
use Rattle.model.specs.Growth.{Entries, fold, subsumed, append, Apart, Irredundant}
use Rattle.model.specs.Tables.{Wide}

-- s matches no entry of the list.
unfoldable pub avoids : Entries → Trits → Bool
avoids [] s = true
avoids (v ∷ τ) s = not (matches s v) && avoids τ s

-- s is an entry of the list.
unfoldable pub EntryOf : Entries → Trits → Type 0
EntryOf [] s = ⊥
EntryOf (r ∷ τ) s = (r ≡ s) ⊎ EntryOf τ s

-- A widest string of l positions that matches no entry of τ: it is not all zero, and of the strings that match no entry only
-- it subsumes it. (In the field: a prime cube of the complement.)
pub record Widest (l : ℕ) (τ : Entries) (s : Trits) : Type 0 where
  pub long : length s ≡ l
  pub free : T (avoids τ s)
  pub nonzero : ¬ (T (all_zero s))
  pub widest : (r : Trits) → T (avoids τ r) → T (subsumes r s) → r ≡ s

-- ρ holds exactly the widest strings that match no entry of τ, each once.
pub record AllWidest (l : ℕ) (τ ρ : Entries) : Type 0 where
  pub each : (s : Trits) → EntryOf ρ s → Widest l τ s
  pub all : (s : Trits) → Widest l τ s → EntryOf ρ s
  pub once : Irredundant ρ

-- At how many positions one string is 0 and the other 1.
unfoldable pub opposed_count : Trits → Trits → ℕ
opposed_count [] v = 0
opposed_count (t ∷ e) [] = 0
opposed_count (t ∷ e) (u ∷ v) = cond (match_digit t u) (opposed_count e v) (suc (opposed_count e v))

-- The entries opposed to v at one position at most.
unfoldable pub edges : Trits → Entries → Entries
edges v [] = []
edges v (e ∷ τ) = cond (ltb (opposed_count e v) 2) (e ∷ edges v τ) (edges v τ)

-- The strings that no entry of κ subsumes, the all-zero one left out.
unfoldable pub fresh : Entries → List Trits → List Trits
fresh κ [] = []
fresh κ (z ∷ zs) = cond (all_zero z || subsumed κ z) (fresh κ zs) (z ∷ fresh κ zs)

-- The list with each string appended in turn, or nothing where that needs entry 257.
unfoldable pub append_all : Entries → List Trits → Option Entries
append_all τ ys = fold append τ ys

-- No entry subsumes another.
unfoldable pub Antichain : Entries → Type 0
Antichain [] = Unit {0}
Antichain (s ∷ τ) = Apart s τ × Antichain τ

-- What the list ρ of a change of side satisfies after the entries of τ were taken away: its entries match none of them, no
-- entry subsumes another, and every string that matches none of them is all zero or subsumed by an entry.
pub record Complement (l : ℕ) (τ ρ : Entries) : Type 0 where
  pub wide : Wide l ρ
  pub free : (s : Trits) → EntryOf ρ s → T (avoids τ s)
  pub apart : Antichain ρ
  pub whole : (s : Trits) → length s ≡ l → ¬ (T (all_zero s)) → T (avoids τ s) → T (subsumed ρ s)
