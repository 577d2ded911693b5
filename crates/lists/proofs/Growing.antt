-- The cases of the growth rule, and a string without `*`, which subsumes no entry that does not subsume it. Assumes nothing.
use mathlib.Core.Path.{◌≡◌, refl, sym, ap, ◌∙◌, subst}
use mathlib.Core.Bool.{Bool, true, false, cond}
use mathlib.Core.List.{[], ◌∷◌, ◌++◌}
use mathlib.Core.Option.{some, none}
use Prim.Native.Nat.{ℕ, ◌≤◌, ◌<◌}
use borrow.Author.Tests.{lt-ltb, le-ltb, eq-eqb}
use lib.Dec.{T, eqb}
use lib.ListN.{length}
use Rattle.model.specs.Strings.{t0, t1, t*, Trits, subsumes, all_zero}
use Rattle.model.specs.Growth.{Entries, limit, subsumed, remove, append, widen, absorbed, grow}
use Rattle.model.proofs.Shape.{widen_nonzero}
use Rattle.model.proofs.Stability.{widen_length}
use Rattle.model.proofs.Tests.{or_left, or_right, false_of, true_of}
use Rattle.words.specs.Words.{word, zero_word, starless}
use Rattle.words.proofs.Words.{word_zero}
use Rattle.lists.specs.Widening.{fresh_word, Guarded, Untouched}
use Rattle.lists.proofs.Guards.{guarded_absorbed, untouched_stays}

-- ---- The cases

module _ (τ : Entries) (y : Trits) where
  -- there is room for one entry more
  pub append_room : length τ < limit → append τ y ≡ some (τ ++ (y ∷ []))
  unfolding append
  append_room h = rw (lt-ltb (length τ) limit h)

  -- there is none
  pub append_full : limit ≤ length τ → append τ y ≡ none
  unfolding append
  append_full h = rw (le-ltb (length τ) limit h)

  -- a string that is not absorbed is widened and appended to what it does not remove
  pub grow_new : absorbed τ y ≡ false → grow τ y ≡ append (remove (widen τ y) τ) (widen τ y)
  unfolding grow
  grow_new t = rw t

  -- it is not all zero, and once it is widened no entry subsumes it
  pub new_nonzero : absorbed τ y ≡ false → all_zero (widen τ y) ≡ false
  unfolding absorbed
  new_nonzero t =
      false_of (all_zero (widen τ y))
      (widen_nonzero τ y (λ z. subst T t (or_left (all_zero y) (subsumed τ (widen τ y)) z)))

  pub new_unsubsumed : absorbed τ y ≡ false → subsumed τ (widen τ y) ≡ false
  unfolding absorbed
  new_unsubsumed t =
      false_of (subsumed τ (widen τ y)) (λ h. subst T t (or_right (all_zero y) (subsumed τ (widen τ y)) h))

  -- what makes it so
  pub zero_absorbed : all_zero y ≡ true → absorbed τ y ≡ true
  unfolding absorbed
  zero_absorbed z = rw z

  pub by_subsumed : {b : Bool} → all_zero y ≡ false → subsumed τ (widen τ y) ≡ b → absorbed τ y ≡ b
  unfolding absorbed
  by_subsumed z h = rw z h

-- ---- What a string is widened to, or the all-zero string

module _ (l : ℕ) (τ : Entries) (s : Trits) where
  pub fresh_absorbed : absorbed τ s ≡ true → fresh_word l τ s ≡ zero_word l
  unfolding fresh_word
  fresh_absorbed t = rw t

  pub fresh_new : absorbed τ s ≡ false → fresh_word l τ s ≡ word (widen τ s)
  unfolding fresh_word
  fresh_new t = rw t

  -- where an entry subsumes what it is widened to, and where none does
  pub fresh_zeroed : all_zero s ≡ false → subsumed τ (widen τ s) ≡ true → fresh_word l τ s ≡ zero_word l
  fresh_zeroed z t = fresh_absorbed (by_subsumed τ s z t)

  pub fresh_widened : all_zero s ≡ false → subsumed τ (widen τ s) ≡ false → fresh_word l τ s ≡ word (widen τ s)
  fresh_widened z t = fresh_new (by_subsumed τ s z t)

  -- which of the two it is
  pub fresh_zero : length s ≡ l → l ≤ 32 → eqb (fresh_word l τ s) (zero_word l) ≡ absorbed τ s
  fresh_zero long short = go (absorbed τ s) refl
    where
      go : (b : Bool) → absorbed τ s ≡ b → eqb (fresh_word l τ s) (zero_word l) ≡ b
      go true t = eq-eqb (fresh_word l τ s) (zero_word l) (fresh_absorbed t)
      go false t =
          ap (λ (w : ℕ). eqb w (zero_word l)) (fresh_new t)
          ∙ ap (λ (n : ℕ). eqb (word (widen τ s)) (zero_word n)) (sym (widen_length τ s ∙ long))
          ∙ word_zero (widen τ s) (rw (widen_length τ s ∙ long) short)
          ∙ new_nonzero τ s t

  -- the same, of a test of its word
  pub fresh_test : {z : ℕ} {b : Bool} → length s ≡ l → l ≤ 32 → z ≡ fresh_word l τ s → b ≡ eqb z (zero_word l)
      → b ≡ absorbed τ s
  fresh_test long short is e = e ∙ ap (λ (w : ℕ). eqb w (zero_word l)) is ∙ fresh_zero long short

-- ---- A string without `*`

-- what it subsumes subsumes it
starless_back : (s r : Trits) → T (starless s) → T (subsumes s r) → T (subsumes r s)
unfolding starless subsumes
starless_back [] [] f h = tt
starless_back [] (u ∷ r) f h = absurd h
starless_back (t ∷ s) [] f h = absurd h
starless_back (t0 ∷ s) (t0 ∷ r) f h = starless_back s r f h
starless_back (t0 ∷ s) (t1 ∷ r) f h = absurd h
starless_back (t0 ∷ s) (t* ∷ r) f h = absurd h
starless_back (t1 ∷ s) (t0 ∷ r) f h = absurd h
starless_back (t1 ∷ s) (t1 ∷ r) f h = starless_back s r f h
starless_back (t1 ∷ s) (t* ∷ r) f h = absurd h
starless_back (t* ∷ s) (u ∷ r) f h = absurd f

-- it removes no entry where none subsumes it
starless_keeps : (s : Trits) (τ : Entries) → T (starless s) → ¬ (T (subsumed τ s)) → remove s τ ≡ τ
unfolding subsumed remove
starless_keeps s [] f n = refl
starless_keeps s (r ∷ τ) f n =
    step (subsumes s r) refl (starless_keeps s τ f (λ h. n (or_right (subsumes r s) (subsumed τ s) h)))
  where
    step : (b : Bool) → subsumes s r ≡ b → remove s τ ≡ τ → cond b (remove s τ) (r ∷ remove s τ) ≡ r ∷ τ
    step true q e = absurd (n (or_left (subsumes r s) (subsumed τ s) (starless_back s r f (rw q tt))))
    step false q e = ap (λ (ρ : Entries). r ∷ ρ) e

-- the same, of tests
pub starless_removes : (s : Trits) (τ : Entries) → starless s ≡ true → subsumed τ s ≡ false → remove s τ ≡ τ
starless_removes s τ f e = starless_keeps s τ (rw f tt) (λ h. rw e at h)

-- ---- By a survey

module _ (τ : Entries) (s : Trits) (nonzero : all_zero s ≡ false) where
  -- a string that entries guard is absorbed
  pub guarded_idle : Guarded τ s → absorbed τ s ≡ true
  guarded_idle g = by_subsumed τ s nonzero (true_of (subsumed τ (widen τ s)) (guarded_absorbed τ s g))

  -- one that none touches is not
  pub untouched_new : Untouched τ s → absorbed τ s ≡ false
  untouched_new u = by_subsumed τ s nonzero (ap (subsumed τ) (untouched_stays τ s u) ∙ u.0)
