-- An equation that needs entry 257, shown without growing its lists: where each string of a list has fixed positions that
-- weigh less than those of the strings before it by one choice of weights, and more by another, growing by them widens none,
-- skips none and removes none. So 257 such strings of an equation's t are too many. Assumes nothing.
use mathlib.Core.Path.{◌≡◌, refl, ap}
use mathlib.Core.Bool.{Bool, true, false, not, ◌&&◌, cond}
use mathlib.Core.List.{List, [], ◌∷◌, ◌++◌}
use mathlib.Core.Option.{Option, some, none}
use Prim.Native.Nat.{ℕ, zero, suc, ◌+◌, ◌≤◌, ◌<◌}
use native.Mathlib.Omega.{arith}
use lib.Dec.{T, ltb, ltb→lt}
use lib.ListN.{length}
use Rattle.model.specs.Groups.{Bits, or}
use Rattle.model.specs.Strings.{Trits, t0, t1, t*, fixed_digit, subsumes, all_zero, fixed, fixed_count, flipped, ones}
use Rattle.model.specs.Growth.{◌>>=◌, fold, Entries, limit, subsumed, append, widen_at, widen_from, widen, grow, grow_all}
use Rattle.model.specs.Growth.{Apart}
use Rattle.model.specs.Tables.{meets_of, relevant, irrelevant, positive_equation}
use Rattle.model.proofs.Tests.{false_of}
use Rattle.model.proofs.Shape.{grow_apart, snoc_length}

-- ---- The weight of a string

-- The sum of the weights of its fixed positions.
unfoldable pub weight : List ℕ → Trits → ℕ
weight [] s = 0
weight (w ∷ ws) [] = 0
weight (w ∷ ws) (t ∷ s) = cond (fixed_digit t) w 0 + weight ws s

-- flipping a value keeps it
flipped_weight : (ws : List ℕ) (i : ℕ) (s : Trits) → weight ws (flipped i s) ≡ weight ws s
unfolding weight flipped
flipped_weight [] i s = refl
flipped_weight (w ∷ ws) i [] = refl
flipped_weight (w ∷ ws) zero (t0 ∷ s) = refl
flipped_weight (w ∷ ws) zero (t1 ∷ s) = refl
flipped_weight (w ∷ ws) zero (t* ∷ s) = refl
flipped_weight (w ∷ ws) (suc i) (t ∷ s) = ap (λ (n : ℕ). cond (fixed_digit t) w 0 + n) (flipped_weight ws i s)

-- what a string subsumes is fixed wherever that string is, so weighs no less
subsumes_weight : (ws : List ℕ) (r s : Trits) → T (subsumes r s) → weight ws r ≤ weight ws s
unfolding weight subsumes
subsumes_weight [] r s h = omega arith
subsumes_weight (w ∷ ws) [] s h = omega arith
subsumes_weight (w ∷ ws) (t ∷ r) [] h = absurd h
subsumes_weight (w ∷ ws) (t0 ∷ r) (t0 ∷ s) h = let k = subsumes_weight ws r s h in omega arith
subsumes_weight (w ∷ ws) (t0 ∷ r) (t1 ∷ s) h = absurd h
subsumes_weight (w ∷ ws) (t0 ∷ r) (t* ∷ s) h = absurd h
subsumes_weight (w ∷ ws) (t1 ∷ r) (t0 ∷ s) h = absurd h
subsumes_weight (w ∷ ws) (t1 ∷ r) (t1 ∷ s) h = let k = subsumes_weight ws r s h in omega arith
subsumes_weight (w ∷ ws) (t1 ∷ r) (t* ∷ s) h = absurd h
subsumes_weight (w ∷ ws) (t* ∷ r) (u ∷ s) h = let k = subsumes_weight ws r s h in omega arith

module _ {A B : Type 0} where
  -- nothing follows, whatever is given first
  then_none : (o : Option A) (k : A → Option B) → ((a : A) → k a ≡ none) → (o >>= k) ≡ none
  unfolding ◌>>=◌
  then_none none k h = refl
  then_none (some a) k h = h a

-- ---- Growing by a string that weighs less by v and more by w than every entry

module _ (v w : List ℕ) where
  -- every entry weighs at least a by v and at most b by w
  unfoldable Bounded : ℕ → ℕ → Entries → Type 0
  Bounded a b [] = Unit {0}
  Bounded a b (s ∷ τ) = ((a ≤ weight v s) × (weight w s ≤ b)) × Bounded a b τ

  module _ {a b : ℕ} (y : Trits) (less : weight v y < a) (more : b < weight w y) where
    -- with it appended they are bounded by its own weights
    bounded_append : (τ : Entries) → Bounded a b τ → Bounded (weight v y) (weight w y) (τ ++ (y ∷ []))
    unfolding Bounded
    bounded_append [] h = ((omega arith, omega arith), tt)
    bounded_append (s ∷ τ) h = let k = h.0 in ((omega arith, omega arith), bounded_append τ h.1)

    -- no entry subsumes it with a value flipped
    flip_not_subsumed : (i : ℕ) (τ : Entries) → Bounded a b τ → subsumed τ (flipped i y) ≡ false
    unfolding Bounded subsumed
    flip_not_subsumed i [] h = refl
    flip_not_subsumed i (s ∷ τ) h =
        let k = h.0 in
        let heavier : ¬ (T (subsumes s (flipped i y))) =
        λ t. omega (arith, subsumes_weight v s (flipped i y) t, flipped_weight v i y) in
        rw (false_of (subsumes s (flipped i y)) heavier) (flip_not_subsumed i τ h.1)

    -- so no position becomes `*`
    not_widened : (τ : Entries) → Bounded a b τ → (i n : ℕ) → widen_from τ i n y ≡ y
    unfolding widen_from widen_at
    not_widened τ h i zero = refl
    not_widened τ h i (suc n) =
        rw (flip_not_subsumed i τ h, and_false (ltb 1 (fixed_count y)) (fixed i y)) (not_widened τ h (suc i) n)
      where
        and_false : (p q : Bool) → (p && q && false) ≡ false
        and_false true true = refl
        and_false true false = refl
        and_false false q = refl

    -- neither it nor an entry subsumes the other
    apart : (τ : Entries) → Bounded a b τ → Apart y τ
    unfolding Bounded Apart
    apart [] h = tt
    apart (s ∷ τ) h =
        let k = h.0 in
        ((λ t. omega (arith, subsumes_weight w y s t), λ t. omega (arith, subsumes_weight v s y t)), apart τ h.1)

    -- so it is appended as it is
    appended : (τ : Entries) → Bounded a b τ → ¬ (T (all_zero y)) → grow τ y ≡ append τ y
    unfolding widen
    appended τ h z = grow_apart τ y z (apart τ h) (not_widened τ h 0 (length y))

  -- The strings fall by v from a on and rise by w from b on; none is all zero.
  unfoldable pub spread : ℕ → ℕ → List Trits → Bool
  spread a b [] = true
  spread a b (y ∷ ys) =
      ltb (weight v y) a && ltb b (weight w y) && not (all_zero y) && spread (weight v y) (weight w y) ys

  -- growing by such strings appends each, up to entry 257
  spread_full : (a b : ℕ) (τ : Entries) (ys : List Trits) → Bounded a b τ → T (spread a b ys) → length τ ≤ limit
      → limit < length τ + length ys → fold grow τ ys ≡ none
  unfolding spread fold ◌>>=◌ append
  spread_full a b τ [] h t few many = absurd (omega arith)
  spread_full a b τ (y ∷ ys) h t few many =
      let k = each (ltb (weight v y) a) (ltb b (weight w y)) (not (all_zero y)) (spread (weight v y) (weight w y) ys) t in
      let less = ltb→lt (weight v y) a k.0 in
      let more = ltb→lt b (weight w y) k.1 in
      rw (appended y less more τ h (true_not (all_zero y) k.2))
      (go (ltb (length τ) limit) (λ c.
      let room = ltb→lt (length τ) limit c in
      let one_more = snoc_length τ y in
      spread_full (weight v y) (weight w y) (τ ++ (y ∷ [])) ys (bounded_append y less more τ h) k.3 (omega arith)
      (omega arith)))
    where
      each : (p q r s : Bool) → T (p && q && r && s) → T p × T q × T r × T s
      each true true true s t = (tt, tt, tt, t)
      each true true false s t = absurd t
      each true false r s t = absurd t
      each false q r s t = absurd t

      true_not : (c : Bool) → T (not c) → ¬ (T c)
      true_not true n k = n
      true_not false n k = k

      go : (c : Bool) → (T c → fold grow (τ ++ (y ∷ [])) ys ≡ none)
          → (cond c (some (τ ++ (y ∷ []))) none >>= λ ρ. fold grow ρ ys) ≡ none
      go true f = f tt
      go false f = refl

  -- Where the relevant strings of an equation's t are spread so, and more than 256, the equation needs entry 257, whatever
  -- its other lists are.
  pub equation_full : (a b : ℕ) (x t : Bits) (τ : Entries) → T (spread a b (meets_of τ (ones t)))
      → limit < length (meets_of τ (ones t)) → positive_equation x t τ ≡ none
  unfolding ◌>>=◌ positive_equation relevant grow_all Bounded
  equation_full a b x t τ h many =
      let none_made : relevant t τ ≡ none = spread_full a b [] (meets_of τ (ones t)) tt h (omega arith) (omega arith) in
      then_none (irrelevant (or x t) τ) _ (λ I. then_none (relevant x τ) _ (λ A. rw none_made))
