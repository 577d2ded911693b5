-- The entries that match a string taken out of a list, the edges of what is left, and an entry taken away by them, in the
-- shape of the code's loops; a list that is the complement of the entries taken away so far. Assumes nothing.
use mathlib.Core.Path.{◌≡◌, refl, sym, ◌∙◌}
use mathlib.Core.Bool.{Bool, true, false, not, cond}
use mathlib.Core.List.{List, [], ◌∷◌, ◌++◌}
use mathlib.Core.Option.{some}
use Prim.Native.Nat.{ℕ, ◌+◌, ◌-◌, ◌≤◌, ◌<◌}
use native.Mathlib.Nat.{suc-ne-zero}
use native.Mathlib.Omega.{arith}
use lib.Dec.{ltb}
use lib.ListN.{length, get_or, set}
use Rattle.model.specs.Strings.{Trits, matches, stars, pieces}
use Rattle.model.specs.Growth.{fold, Entries, limit}
use Rattle.model.specs.Tables.{unmatched, pieces_of, take_away}
use Rattle.model.specs.Widest.{opposed_count, edges, fresh, append_all, Complement}
use Rattle.lists.specs.WorkingLists.{Holds}
use Rattle.lists.proofs.BindLaws.{then_same}
use Rattle.sides.specs.Parts.{matched, append_pieces}
use Rattle.model.proofs.Widest.{take_away_widest, complement_start, complement_next}
use Rattle.lists.proofs.RowLoops.{Along, along_end, row_start, row_add, row_skip, row_past, cond_not}
use Rattle.lists.proofs.RowLoops.{PackedSoFar, packed_start, packed_keep, packed_drop}
use Rattle.sides.proofs.PieceLoop.{append_fresh_on}

-- ---- The loop

-- Of the first i of the n entries of τ the k that match v are in `taken`, and the others are packed in the list.
pub record MatchedSoFar (l : ℕ) (τ : Entries) (n : ℕ) (v : Trits) (list taken : List ℕ) (k i : ℕ) : Type 0 where
  pub out : Along l (λ y. matches y v) (λ y. y) τ n taken k i
  pub left : PackedSoFar l (λ y. not (matches y v)) τ n list (i - k) i

-- no entry is moved yet
pub matched_start : {l : ℕ} {τ : Entries} {list : List ℕ} {n : ℕ} (v : Trits) {taken : List ℕ} → Holds l list n τ
    → length taken ≡ limit → MatchedSoFar l τ n v list taken 0 0
matched_start v h room =
    record { out = row_start room h.short; left = packed_start h 0 (omega arith) (λ m lt. absurd (omega arith)) }

module _ {l : ℕ} {τ : Entries} {n : ℕ} {v : Trits} {list taken : List ℕ} {k i : ℕ} (p : MatchedSoFar l τ n v list taken k i)
    (below : k ≤ i) where
  module _ (lt : i < n) (few : n ≤ limit) (long : length (get_or τ i []) ≡ l) where
    -- the entry at i matches
    pub matched_more : matches (get_or τ i []) v ≡ true
        → MatchedSoFar l τ n v (set list (i - k) (get_or list i 0)) (set taken k (get_or list i 0)) (k + 1) (i + 1)
    matched_more t =
        let same : i + 1 - (k + 1) ≡ i - k = omega arith in
        record {
          out = row_add p.out lt t (p.left.ahead i (omega arith) lt) long (omega arith);
          left = rw same (packed_drop p.left (omega arith) lt _ (rw t));
        }

    -- it does not
    pub matched_not : matches (get_or τ i []) v ≡ false
        → MatchedSoFar l τ n v (set list (i - k) (get_or list i 0)) (set taken k (get_or list i 0)) k (i + 1)
    matched_not t =
        let next : i + 1 - k ≡ i - k + 1 = omega (arith, below) in
        record {
          out = row_skip (row_past _ p.out) lt t;
          left = rw next (packed_keep p.left (omega arith) lt few long (rw t));
        }

  module _ {list₀ : List ℕ} (h : Holds l list₀ n τ) (end : n ≤ i) where
    -- at the end: what was taken
    pub matched_taken : Holds l taken k (matched v τ)
    unfolding matched
    matched_taken = along_end (λ y. matches y v) (λ y. y) (matched v) refl (λ y ρ. refl) h p.out end

    -- and what is left
    pub matched_left : Holds l list (i - k) (unmatched v τ)
    unfolding unmatched
    matched_left =
        along_end (λ y. not (matches y v)) (λ y. y) (unmatched v) refl
        (λ y ρ. cond_not (matches y v) (unmatched v ρ) (y ∷ unmatched v ρ)) h p.left.front end

-- ---- The edges

-- at the end of their loop: the entries opposed to v at one position at most
pub edges_end : {l : ℕ} {list row : List ℕ} {n k i : ℕ} {τ : Entries} → Holds l list n τ → (v : Trits)
    → Along l (λ e. ltb (opposed_count e v) 2) (λ e. e) τ n row k i → n ≤ i → Holds l row k (edges v τ)
unfolding edges
edges_end h v w all = along_end (λ e. ltb (opposed_count e v) 2) (λ e. e) (edges v) refl (λ e ρ. refl) h w all

-- ---- An entry taken away

-- appending the pieces of each matching entry in turn is appending all their pieces
pieces_matched : (v : Trits) (κ ρ τ : Entries)
    → fold (append_pieces κ v) ρ (matched v τ) ≡ append_all ρ (fresh κ (pieces_of v τ))
unfolding matched pieces_of fold append_pieces append_all fresh
pieces_matched v κ ρ [] = refl
pieces_matched v κ ρ (y ∷ τ) = go (matches y v) (λ R. pieces_matched v κ R τ)
  where
    go : (b : Bool) → ((R : Entries) → fold (append_pieces κ v) R (matched v τ) ≡ append_all R (fresh κ (pieces_of v τ)))
        → fold (append_pieces κ v) ρ (cond b (y ∷ matched v τ) (matched v τ))
        ≡ append_all ρ (fresh κ (cond b (pieces y v ++ pieces_of v τ) (pieces_of v τ)))
    go true rest =
        then_same (append_all ρ (fresh κ (pieces y v))) rest ∙ sym (append_fresh_on κ ρ (pieces y v) (pieces_of v τ))
    go false rest = rest ρ

module _ {l : ℕ} {σ τ : Entries} (c : Complement l σ τ) (v : Trits) where
  -- the matching entries taken out, and their pieces appended in turn
  pub take_away_matched : take_away τ v ≡ fold (append_pieces (edges v (unmatched v τ)) v) (unmatched v τ) (matched v τ)
  take_away_matched = take_away_widest l σ τ v c ∙ sym (pieces_matched v (edges v (unmatched v τ)) (unmatched v τ) τ)

  -- nothing matches
  pub take_away_none : length (matched v τ) ≡ 0 → take_away τ v ≡ some (unmatched v τ)
  unfolding fold
  take_away_none e = take_away_matched ∙ go (matched v τ) e
    where
      go : (ρ : Entries) → length ρ ≡ 0
          → fold (append_pieces (edges v (unmatched v τ)) v) (unmatched v τ) ρ ≡ some (unmatched v τ)
      go [] e = refl
      go (y ∷ ρ) e = absurd (suc-ne-zero _ e)

-- ---- All entries taken away

-- The list is the complement of some entries, those taken away so far.
abbrev pub SomeComplement : ℕ → Entries → Type 0
SomeComplement l τ = (σ : Entries) × Complement l σ τ

-- that holds before the first is taken away
pub some_start : {l : ℕ} → SomeComplement l (stars l ∷ [])
some_start {l} = ([], complement_start l)

-- and after one more
pub some_next : {l : ℕ} {τ : Entries} → SomeComplement l τ → (v : Trits) (κ : Entries) → take_away τ v ≡ some κ
    → SomeComplement l κ
some_next {l} {τ} w v κ e = (w.0 ++ (v ∷ []), complement_next l w.0 τ v w.1 κ e)
