-- What the rows hold at the end of their loops. Assumes nothing.
use mathlib.Core.Path.{◌≡◌, refl}
use mathlib.Core.Bool.{Bool, true, false, cond}
use mathlib.Core.List.{List, [], ◌∷◌, ◌++◌, map}
use Prim.Native.Nat.{ℕ, ◌≤◌}
use native.Mathlib.Omega.{arith}
use lib.ListN.{length, get_or, set}
use Rattle.model.specs.Groups.{Bits, cut}
use Rattle.model.specs.Strings.{Trits, matches, meet, one_at, ones}
use Rattle.model.specs.Growth.{Entries, limit}
use Rattle.model.specs.Tables.{meet_if, meets_with, kept}
use Rattle.words.specs.Words.{word}
use Rattle.lists.specs.WorkingLists.{Holds}
use Rattle.lists.proofs.Holding.{holds_empty, holds_append}
use Rattle.lists.proofs.RowLoops.{RowSoFar, row_end, Along, along_end}

-- ---- Along a list

module _ {l : ℕ} {list : List ℕ} {n : ℕ} {τ : Entries} (h : Holds l list n τ) {row : List ℕ} where
  -- f of each string
  pub map_end : {m i : ℕ} (f : Trits → Trits) → Along m (λ y. true) f τ n row i i → i ≤ n → n ≤ i → Holds m row n (map f τ)
  map_end {i = i} f w most all =
      let e : n ≡ i = omega arith in
      rw e (along_end (λ y. true) f (map f) refl (λ y τ. refl) h w all)

  -- the meets with the strings that s matches
  pub meets_end : {k i : ℕ} (s : Trits) → Along l (matches s) (meet s) τ n row k i → n ≤ i → Holds l row k (meets_with s τ)
  unfolding meets_with meet_if
  meets_end s w all = along_end (matches s) (meet s) (meets_with s) refl (λ r ρ. in_front (matches s r) (meet s r) _) h w all
    where
      in_front : (b : Bool) (y : Trits) (ys : List Trits) → cond b (y ∷ []) [] ++ ys ≡ cond b (y ∷ ys) ys
      in_front true y ys = refl
      in_front false y ys = refl

-- no more positions are kept than there are
pub kept_le : (k : Bits) → kept k ≤ length k
unfolding kept cut
kept_le [] = omega arith
kept_le (true ∷ k) = omega (arith, kept_le k)
kept_le (false ∷ k) = omega (arith, kept_le k)

-- ---- Along the positions

module _ {l : ℕ} {row : List ℕ} {k i : ℕ} where
  -- a string for each variable of the set
  pub ones_end : (g : Bits) → length g ≡ l → RowSoFar l (λ j. get_or g j false) (one_at l) l row k i → l ≤ i
      → Holds l row k (ones g)
  unfolding ones
  ones_end g e w all = rw e (row_end w all)

-- ---- A row of one string

-- any array of 256 words holds the string stored at 0
pub holds_one : {l : ℕ} (list : List ℕ) → length list ≡ limit → l ≤ 32 → (s : Trits) {y : ℕ} → length s ≡ l → y ≡ word s
    → Holds l (set list 0 y) 1 (s ∷ [])
holds_one list room short s e is = holds_append (holds_empty _ list room short) s e is (omega arith)
