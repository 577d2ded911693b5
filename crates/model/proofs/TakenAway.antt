-- One entry v taken away in the change of side. A string that matches none so far, nor v, and subsumes a piece is the piece
-- itself or within an entry that stays: so no piece is widened, and it is within such an entry or appended. Assumes nothing.
use mathlib.Core.Path.{◌≡◌, refl, sym, ap, ap₂, ◌∙◌, subst}
use mathlib.Core.Bool.{Bool, true, false, not, ◌&&◌, ◌||◌, cond, and-true, and_assoc}
use mathlib.Core.List.{[], ◌∷◌, ◌++◌}
use mathlib.Core.Logic.{◌⊎◌, inl, inr, ⊎_elim}
use mathlib.Core.Option.{Option, some, none}
use Prim.Native.Nat.{ℕ}
use lib.Dec.{T, ltb, T_not, not_T}
use lib.ListN.{length}
use Rattle.model.specs.Strings.{Trits, matches, subsumes, all_zero}
use Rattle.model.specs.Growth.{◌>>=◌, Entries, limit, fold, subsumed, append, widen, absorbed, grow, grow_all}
use Rattle.model.specs.Growth.{Apart}
use Rattle.model.specs.Tables.{unmatched, pieces_of, take_away}
use Rattle.model.specs.Widest.{avoids, EntryOf, opposed_count, edges, fresh, append_all, Antichain, Complement}
use Rattle.model.proofs.Tests.{or_cases, or_left, or_right, and_first, and_second, and_both, true_of, false_of}
use Rattle.model.proofs.Tests.{decide}
use Rattle.model.proofs.Growth.{grow_absorbed}
use Rattle.model.proofs.Shape.{apart_append, grow_apart}
use Rattle.model.proofs.Pieces.{PieceOf, piece_unmatched, piece_within, piece_up, piece_only, piece_edge}
use Rattle.model.proofs.Pieces.{pieces_of_are, pieces_of_antichain, pieces_of_found}
use Rattle.model.proofs.Subsuming.{subsumes_trans, zero_subsumes, avoids_within, widen_up, widen_avoids}
use Rattle.model.proofs.Entries.{subsumes_length, each_entry, wide_entry, entries_wide, append_entry, Above}
use Rattle.model.proofs.Entries.{above, entry_subsumes, subsumed_within, subsumed_append, entries_apart}
use Rattle.model.proofs.Entries.{apart_entry, antichain_same, antichain_append, unmatched_entry, entry_unmatched}
use Rattle.model.proofs.Entries.{antichain_unmatched, fresh_entry, entry_fresh, antichain_fresh}

avoids_snoc : (τ : Entries) (v s : Trits) → avoids (τ ++ (v ∷ [])) s ≡ (avoids τ s && not (matches s v))
unfolding avoids
avoids_snoc [] v s = and-true (not (matches s v))
avoids_snoc (r ∷ τ) v s =
    ap (λ (b : Bool). not (matches s r) && b) (avoids_snoc τ v s)
    ∙ sym (and_assoc (not (matches s r)) (avoids τ s) (not (matches s v)))

-- the same after appending, where there is room
append_then : (L : Entries) (z : Trits) (k m : Entries → Option Entries) → k (L ++ (z ∷ [])) ≡ m (L ++ (z ∷ []))
    → (append L z >>= k) ≡ (append L z >>= m)
unfolding append ◌>>=◌
append_then L z k m e = go (ltb (length L) limit)
  where
    go : (b : Bool) → (cond b (some (L ++ (z ∷ []))) none >>= k) ≡ (cond b (some (L ++ (z ∷ []))) none >>= m)
    go true = e
    go false = refl

module _ (l : ℕ) (τ ρ : Entries) (v : Trits) (c : Complement l τ ρ) where
  -- The entries that stay.
  abbrev pub kept : Entries
  kept = unmatched v ρ

  -- s matches no entry so far, and does not match v
  abbrev Free : Trits → Type 0
  Free s = T (avoids (τ ++ (v ∷ [])) s)

  free_both : (s : Trits) → T (avoids τ s) → ¬ (T (matches s v)) → Free s
  free_both s a n = rw (avoids_snoc τ v s) (and_both (avoids τ s) (not (matches s v)) a (not_T (matches s v) n))

  free_before : (s : Trits) → Free s → T (avoids τ s)
  free_before s f = and_first (avoids τ s) (not (matches s v)) (rw (avoids_snoc τ v s) at f)

  free_unmatched : (s : Trits) → Free s → ¬ (T (matches s v))
  free_unmatched s f = T_not (matches s v) (and_second (avoids τ s) (not (matches s v)) (rw (avoids_snoc τ v s) at f))

  kept_free : (s : Trits) → EntryOf kept s → Free s
  kept_free s e = let u = unmatched_entry v ρ s e in free_both s (c.free s u.0) u.1

  piece_free : (z : Trits) → PieceOf v ρ z → Free z
  piece_free z p =
      free_both z (avoids_within τ p.y z (piece_within p.y v z p.piece) (c.free p.y p.entry))
      (piece_unmatched p.y v z p.piece)

  piece_long : (z : Trits) → PieceOf v ρ z → length z ≡ l
  piece_long z p =
      sym (subsumes_length p.y z (piece_within p.y v z p.piece)) ∙ wide_entry l ρ c.wide p.y p.entry

  -- a free string that subsumes a piece is the piece, or a kept entry subsumes it
  wider : (z r : Trits) → PieceOf v ρ z → T (subsumes r z) → Free r → (r ≡ z) ⊎ T (subsumed kept r)
  wider z r p h f = go (decide (all_zero r))
    where
      by : (a : Above ρ r) → Dec (T (matches a.y v)) → (r ≡ z) ⊎ T (subsumed kept r)
      by a (no n) = inr (entry_subsumes kept a.y r (entry_unmatched v ρ a.y a.entry n) a.subsuming)
      by a (yes m) =
          let up = piece_up p.y v z a.y p.matched p.piece m (subsumes_trans a.y r z a.subsuming h) in
          let same : a.y ≡ p.y = antichain_same ρ c.apart a.y p.y a.entry p.entry up in
          let within = subst (λ (x : Trits). T (subsumes x r)) same a.subsuming in
          inl (piece_only p.y v z r p.matched p.piece within h (free_unmatched r f))

      go : Dec (T (all_zero r)) → (r ≡ z) ⊎ T (subsumed kept r)
      go (yes o) = inl (zero_subsumes r z o h)
      go (no n) =
          let a = above ρ r (c.whole r (subsumes_length r z h ∙ piece_long z p) n (free_before r f)) in
          by a (decide (matches a.y v))

  -- a piece that no kept entry subsumes is apart from them
  piece_apart : (z : Trits) → PieceOf v ρ z → ¬ (T (subsumed kept z)) → Apart z kept
  piece_apart z p n =
      entries_apart z kept
      (λ e i. (
        λ h.
            let u = unmatched_entry v ρ e i in
            let up = subsumes_trans p.y z e (piece_within p.y v z p.piece) h in
            let same : p.y ≡ e = antichain_same ρ c.apart p.y e p.entry u.0 up in
            u.1 (subst (λ (x : Trits). T (matches x v)) same p.matched),
        λ h. n (entry_subsumes kept e z i h),
      ))

  -- z is all zero or a kept entry subsumes it: it changes nothing
  abbrev stale : Trits → Bool
  stale z = all_zero z || subsumed kept z

  -- what is used of the list while pieces are appended
  record Along (L : Entries) : Type 0 where
    free : (s : Trits) → EntryOf L s → Free s
    more : (s : Trits) → T (subsumed kept s) → T (subsumed L s)

  -- growing by a piece changes nothing or appends the piece as it is
  step : (L : Entries) → Along L → (z : Trits) → PieceOf v ρ z → (¬ (T (stale z)) → Apart z L)
      → grow L z ≡ cond (stale z) (some L) (append L z)
  unfolding absorbed
  step L a z p q =
      go (decide (stale z)) (wider z (widen L z) p (widen_up L z)
      (widen_avoids (τ ++ (v ∷ [])) L z a.free (piece_free z p)))
    where
      changes_nothing : T (stale z) → (widen L z ≡ z) ⊎ T (subsumed kept (widen L z)) → T (absorbed L z)
      changes_nothing h w =
          ⊎_elim (or_left (all_zero z) (subsumed L (widen L z)))
          (λ k. or_right (all_zero z) (subsumed L (widen L z)) (a.more (widen L z)
          (⊎_elim (λ e. subst (λ (s : Trits). T (subsumed kept s)) (sym e) k) (λ q. q) w)))
          (or_cases (all_zero z) (subsumed kept z) h)

      go : Dec (T (stale z)) → (widen L z ≡ z) ⊎ T (subsumed kept (widen L z))
          → grow L z ≡ cond (stale z) (some L) (append L z)
      go (yes h) w = rw (true_of (stale z) h) (grow_absorbed L z (changes_nothing h w))
      go (no n) (inl e) =
          rw (false_of (stale z) n)
          (grow_apart L z (λ o. n (or_left (all_zero z) (subsumed kept z) o)) (q n) e)
      go (no n) (inr k) =
          absurd (n (or_right (all_zero z) (subsumed kept z)
          (subsumed_within kept (widen L z) z k (widen_up L z))))

  along_append : (L : Entries) → Along L → (z : Trits) → PieceOf v ρ z → Along (L ++ (z ∷ []))
  unfolding EntryOf
  along_append L a z p = record {
    free = λ s e.
        ⊎_elim (a.free s) (⊎_elim (λ k. subst Free k (piece_free z p)) (λ k. absurd k)) (append_entry L (z ∷ []) s e);
    more = λ s h. rw (subsumed_append L (z ∷ []) s) (or_left (subsumed L s) (subsumed (z ∷ []) s) (a.more s h));
  }

  steps : (L zs : Entries) → Along L → ((z : Trits) → EntryOf zs z → PieceOf v ρ z)
      → ((z : Trits) → EntryOf zs z → ¬ (T (stale z)) → Apart z L) → Antichain zs
      → fold grow L zs ≡ append_all L (fresh kept zs)
  unfolding ◌>>=◌ fold append_all fresh EntryOf Antichain Apart
  steps L [] a p q d = refl
  steps L (z ∷ zs) a p q d =
      rw (step L a z (p z (inl refl)) (q z (inl refl)))
      (go (stale z) (steps L zs a (λ x i. p x (inr i)) (λ x i. q x (inr i)) d.1)
      (steps (L ++ (z ∷ [])) zs (along_append L a z (p z (inl refl))) (λ x i. p x (inr i))
      (λ x i n. let k = apart_entry z zs d.0 x i in apart_append x L (z ∷ []) (q x (inr i) n) ((k.1, k.0), tt)) d.1))
    where
      go : (b : Bool) → fold grow L zs ≡ append_all L (fresh kept zs)
          → fold grow (L ++ (z ∷ [])) zs ≡ append_all (L ++ (z ∷ [])) (fresh kept zs)
          → (cond b (some L) (append L z) >>= λ t. fold grow t zs)
          ≡ append_all L (cond b (fresh kept zs) (z ∷ fresh kept zs))
      go true e f = e
      go false e f =
          append_then L z (λ t. fold grow t zs) (λ t. append_all t (fresh kept zs)) f

  -- The pieces that are appended.
  abbrev pub left : Entries
  left = fresh kept (pieces_of v ρ)

  -- What is known of each piece.
  pub of_pieces : (z : Trits) → EntryOf (pieces_of v ρ) z → PieceOf v ρ z
  of_pieces = each_entry (PieceOf v ρ) (pieces_of v ρ) (pieces_of_are v ρ)

  left_apart : (z : Trits) → EntryOf (pieces_of v ρ) z → ¬ (T (stale z)) → Apart z kept
  left_apart z i n = piece_apart z (of_pieces z i) (λ k. n (or_right (all_zero z) (subsumed kept z) k))

  -- Taking v away only appends.
  pub taken : take_away ρ v ≡ append_all kept left
  unfolding take_away grow_all
  taken =
      steps kept (pieces_of v ρ) (record { free = kept_free; more = λ s h. h }) of_pieces left_apart
      (pieces_of_antichain v ρ c.apart)

  -- a string that is free is within what stays or within a piece that is appended
  left_whole : (s : Trits) → length s ≡ l → ¬ (T (all_zero s)) → Free s
      → T (subsumed kept s || subsumed left s)
  left_whole s e n f =
      let a = above ρ s (c.whole s e n (free_before s f)) in by a (decide (matches a.y v))
    where
      piece : (b : Above (pieces_of v ρ) s) → Dec (T (stale b.y)) → T (subsumed kept s || subsumed left s)
      piece b (no k) =
          or_right (subsumed kept s) (subsumed left s)
          (entry_subsumes left b.y s (entry_fresh kept (pieces_of v ρ) b.y b.entry k) b.subsuming)
      piece b (yes h) =
          or_left (subsumed kept s) (subsumed left s)
          (⊎_elim
          (λ o. absurd (n (subst (λ (x : Trits). T (all_zero x)) (zero_subsumes b.y s o b.subsuming) o)))
          (λ k. subsumed_within kept b.y s k b.subsuming)
          (or_cases (all_zero b.y) (subsumed kept b.y) h))

      by : (a : Above ρ s) → Dec (T (matches a.y v)) → T (subsumed kept s || subsumed left s)
      by a (no k) =
          or_left (subsumed kept s) (subsumed left s)
          (entry_subsumes kept a.y s (entry_unmatched v ρ a.y a.entry k) a.subsuming)
      by a (yes m) =
          let b = above (pieces_of v ρ) s (pieces_of_found v ρ a.y s a.entry m a.subsuming (free_unmatched s f)) in
          piece b (decide (stale b.y))

  -- The list after v is to the entries with v what the list before was to those without.
  pub complement_left : Complement l (τ ++ (v ∷ [])) (kept ++ left)
  complement_left = record {
    wide = entries_wide l (kept ++ left)
        (λ s e. ⊎_elim (λ k. wide_entry l ρ c.wide s (unmatched_entry v ρ s k).0) (λ k. piece_long s (left_piece s k))
        (append_entry kept left s e));
    free = λ s e. ⊎_elim (kept_free s) (λ k. piece_free s (left_piece s k)) (append_entry kept left s e);
    apart = antichain_append kept left (antichain_unmatched v ρ c.apart)
        (antichain_fresh kept (pieces_of v ρ) (pieces_of_antichain v ρ c.apart))
        (λ s e. let k = fresh_entry kept (pieces_of v ρ) s e in left_apart s k.0 k.1);
    whole = λ s e n f. rw (subsumed_append kept left s) (left_whole s e n f);
  }
    where
      left_piece : (s : Trits) → EntryOf left s → PieceOf v ρ s
      left_piece s e = of_pieces s (fresh_entry kept (pieces_of v ρ) s e).0

-- only an entry opposed to v at one position subsumes a piece
edges_subsumed : (v : Trits) (ρ : Entries) (z : Trits) → PieceOf v ρ z → (κ : Entries)
    → subsumed κ z ≡ subsumed (edges v κ) z
unfolding edges subsumed
edges_subsumed v ρ z p [] = refl
edges_subsumed v ρ z p (e ∷ κ) =
    go (ltb (opposed_count e v) 2) (piece_edge p.y v z e p.matched p.piece) (edges_subsumed v ρ z p κ)
  where
    go : (b : Bool) → (T (subsumes e z) → T b) → subsumed κ z ≡ subsumed (edges v κ) z
        → (subsumes e z || subsumed κ z) ≡ subsumed (cond b (e ∷ edges v κ) (edges v κ)) z
    go true f h = ap (λ (b : Bool). subsumes e z || b) h
    go false f h = rw (false_of (subsumes e z) f) h

-- So the other entries need not be asked.
pub fresh_edges : (v : Trits) (ρ κ zs : Entries) → ((z : Trits) → EntryOf zs z → PieceOf v ρ z)
    → fresh κ zs ≡ fresh (edges v κ) zs
unfolding fresh EntryOf
fresh_edges v ρ κ [] p = refl
fresh_edges v ρ κ (z ∷ zs) p =
    ap₂ (λ (b : Bool) (r : Entries). cond (all_zero z || b) r (z ∷ r)) (edges_subsumed v ρ z (p z (inl refl)) κ)
    (fresh_edges v ρ κ zs (λ x i. p x (inr i)))
