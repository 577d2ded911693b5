-- The sharing lemma: if a set of groups describes the bindings and σ is an admitted unifier of x and t as bound, the groups
-- that the binary definition leaves describe the bindings after σ. Assumes nothing.
use mathlib.Core.Path.{◌≡◌, refl, sym, ap, ap₂, ◌∙◌, subst, fun_ext}
use mathlib.Core.Bool.{Bool, true, false, ◌||◌, ◌&&◌, or-true, or-false}
use mathlib.Core.List.{List, [], ◌∷◌, ◌++◌, map}
use mathlib.Core.Logic.{◌⊎◌, inl, inr, ⊎_elim}
use Prim.Native.Nat.{ℕ, zero, suc}
use native.Mathlib.Decide.{ℕ_discrete}
use native.Mathlib.Omega.{arith}
use lib.Dec.{T, eqb, eqb→eq, eqb_refl}
use Rattle.model.specs.Groups.{Bits, Groups, nonzero, has, or, Ors, one, more, AOrB, Those, Equated}
use Rattle.model.specs.Terms.{Term, var, head, occurs, occurs_row, apply}
use Rattle.model.specs.Equations.{WithVariable, WithSome}
use Rattle.model.specs.Bindings.{Bindings, Substitution, bound, as_bound, Touches, Admitted, apply_all, string_of}
use Rattle.model.specs.Bindings.{Describes}
use Rattle.model.proofs.Tests.{or_cases, or_left, or_right, false_of, same_test, decide, and_first, and_second, and_both}
use Rattle.model.proofs.Occurrence.{occurs_after, after_occurs, listed, any, any_append, any_listed, any_some, some_any}

-- ---- Strings of bindings

-- "or" of two strings that are each a test of the terms
or_map : (p q : Term → Bool) (θ : Bindings) → or (map p θ) (map q θ) ≡ map (λ u. p u || q u) θ
unfolding or
or_map p q [] = refl
or_map p q (u ∷ θ) = ap (λ (g : Bits). (p u || q u) ∷ g) (or_map p q θ)

map_map : (p : Term → Bool) (f : Term → Term) (θ : Bindings) → map p (map f θ) ≡ map (λ u. p (f u)) θ
map_map p f [] = refl
map_map p f (u ∷ θ) = ap (λ (g : Bits). p (f u) ∷ g) (map_map p f θ)

-- The string of v has x exactly when v occurs in the term of x.
pub has_bound : (v : ℕ) (θ : Bindings) (x : ℕ) → has (string_of θ v) x ≡ occurs v (bound θ x)
unfolding has string_of bound occurs occurs_row
has_bound v θ zero = refl
has_bound v [] (suc i) = refl
has_bound v (u ∷ θ) (suc zero) = refl
has_bound v (u ∷ θ) (suc (suc i)) = has_bound v θ (suc i)

has_nonzero : (g : Bits) (x : ℕ) → T (has g x) → T (nonzero g)
unfolding has nonzero
has_nonzero g zero h = absurd h
has_nonzero [] (suc i) h = absurd h
has_nonzero (b ∷ g) (suc zero) h = or_left b (nonzero g) h
has_nonzero (b ∷ g) (suc (suc i)) h = or_right b (nonzero g) (has_nonzero g (suc i) h)

none_zero : (p : Term → Bool) (θ : Bindings) → ((u : Term) → p u ≡ false) → nonzero (map p θ) ≡ false
unfolding nonzero
none_zero p [] n = refl
none_zero p (u ∷ θ) n = rw (n u, none_zero p θ n)

-- what is not touched is given itself
untouched : (σ : Substitution) (v : ℕ) → ¬ (Touches σ v) → σ v ≡ var v
untouched σ v n = go (σ v) n
  where
    same : (u : ℕ) → ¬ (¬ (var u ≡ var v)) → Dec (u ≡ v) → var u ≡ var v
    same u m (yes e) = ap var e
    same u m (no d) = absurd (m (λ (e : var u ≡ var v). d (cc)))

    go : (s : Term) → ¬ (¬ (s ≡ var v)) → s ≡ var v
    go (var u) m = same u m (ℕ_discrete u v)
    go (head f ts) m = absurd (m (λ (e : head f ts ≡ var v). let z : ◌≡◌ {A = ℕ} 0 1 = cc in omega arith))

-- one more variable of the left side, or of the right, beside v₁ of the left and v₂ of the right
absorb_left : (b₁ b₂ c d : Bool) → ((c || b₂) || ((b₁ || b₂) || d)) ≡ ((b₁ || b₂) || (c || d))
absorb_left b₁ b₂ true d = sym (or-true (b₁ || b₂))
absorb_left true true false d = refl
absorb_left false true false d = refl
absorb_left b₁ false false d = refl

absorb_right : (b₁ b₂ c d : Bool) → ((b₁ || c) || ((b₁ || b₂) || d)) ≡ ((b₁ || b₂) || (c || d))
absorb_right true b₂ c d = refl
absorb_right false b₂ true d = sym (or-true b₂)
absorb_right false b₂ false d = refl

-- The string of a run-time variable that occurs in the term of y is one of the groups that describe the bindings.
pub described_group : (S : Groups) (θ : Bindings) → Describes S θ → (v y : ℕ) → T (has (string_of θ v) y) → S (string_of θ v)
described_group S θ d v y h = ⊎_elim (λ z. absurd (rw z at (has_nonzero (string_of θ v) y h))) (λ s. s) (d v)

module _ (S : Groups) (θ : Bindings) (x : ℕ) (t : Term) (σ : Substitution) (describes : Describes S θ)
    (unifier : Admitted σ (bound θ x) (as_bound θ t)) where
  abbrev left : Term
  left = bound θ x

  abbrev right : Term
  right = as_bound θ t

  -- ---- Variables of the two sides before σ

  on_left : (v : ℕ) → T (occurs v left) → WithVariable x (string_of θ v)
  on_left v h = rw has_bound h

  on_right : (v : ℕ) → T (occurs v right) → WithSome t (string_of θ v)
  unfolding as_bound
  on_right v h = let r = occurs_after (bound θ) v t h in (r.0, r.1, rw has_bound r.2)

  abbrev Pairs : Groups
  Pairs = AOrB (Those S (WithVariable x)) (Those S (WithSome t))

  abbrev Linked : Groups
  Linked = Ors Pairs

  -- v₁ of the left with v₂ of the right
  pair : (v₁ v₂ : ℕ) → T (occurs v₁ left) → T (occurs v₂ right) → Pairs (map (λ u. occurs v₁ u || occurs v₂ u) θ)
  unfolding string_of
  pair v₁ v₂ h₁ h₂ =
      let m = on_right v₂ h₂ in
      record {
        a = string_of θ v₁;
        b = string_of θ v₂;
        in_a = (described_group S θ describes v₁ x (on_left v₁ h₁), on_left v₁ h₁);
        in_b = (described_group S θ describes v₂ m.0 m.2, m);
        is = sym (or_map (occurs v₁) (occurs v₂) θ);
      }

  -- a string written as a test of the terms, replaced by an equal test
  like : {p q : Term → Bool} → ((u : Term) → p u ≡ q u) → Linked (map p θ) → Linked (map q θ)
  like e k = subst (λ (p : Term → Bool). Linked (map p θ)) (fun_ext e) k

  linked_more : (p q : Term → Bool) → Pairs (map p θ) → Linked (map q θ) → Linked (map (λ u. p u || q u) θ)
  linked_more p q h k = subst Linked (or_map p q θ) (more h k)

  -- ---- A variable w after σ: the "or" over the variables of both sides whose terms bring w

  module _ (w v₁ v₂ : ℕ) (h₁ : T (occurs v₁ left)) (h₂ : T (occurs v₂ right)) where
    abbrev both : Term → Bool
    both u = occurs v₁ u || occurs v₂ u

    abbrev carried : List ℕ → Term → Bool
    carried vs u = any (λ v. occurs w (σ v) && occurs v u) vs

    add : (v : ℕ) (vs : List ℕ) (b : Bool) → T (occurs v left) ⊎ T (occurs v right) → Linked (map (λ u. both u || carried vs u) θ)
        → Linked (map (λ u. both u || (b && occurs v u || carried vs u)) θ)
    add v vs false s k = k
    add v vs true (inl l) k =
        like (λ u. absorb_left (occurs v₁ u) (occurs v₂ u) (occurs v u) (carried vs u))
        (linked_more (λ u. occurs v u || occurs v₂ u) (λ u. both u || carried vs u) (pair v v₂ l h₂) k)
    add v vs true (inr r) k =
        like (λ u. absorb_right (occurs v₁ u) (occurs v₂ u) (occurs v u) (carried vs u))
        (linked_more (λ u. occurs v₁ u || occurs v u) (λ u. both u || carried vs u) (pair v₁ v h₁ r) k)

    gather : (vs : List ℕ) → ((v : ℕ) → T (any (eqb v) vs) → T (occurs v left || occurs v right))
        → Linked (map (λ u. both u || carried vs u) θ)
    unfolding any
    gather [] on = like (λ u. sym (or-false (both u))) (one (pair v₁ v₂ h₁ h₂))
    gather (v ∷ vs) on =
        add v vs (occurs w (σ v))
        (or_cases (occurs v left) (occurs v right) (on v (or_left (eqb v v) (any (eqb v) vs) (eqb_refl v))))
        (gather vs (λ u h. on u (or_right (eqb u v) (any (eqb u) vs) h)))

  -- w occurs in one of the sides
  abbrev On : ℕ → Type 0
  On v = T (occurs v left || occurs v right)

  -- what carries a variable of a side is on a side
  carrier : (w v : ℕ) → On w → T (occurs w (σ v)) → On v
  unfolding occurs
  carrier w v on h = go (decide (occurs v left || occurs v right))
    where
      go : Dec (On v) → On v
      go (yes o) = o
      go (no n) =
          let e : σ v ≡ var v = untouched σ v (λ k. n (unifier.touched v k)) in
          let same : w ≡ v = eqb→eq w v (subst (λ (s : Term). T (occurs w s)) e h) in
          subst On same on

  -- neither side has w: nothing changes at w
  off : (w : ℕ) → ¬ (On w) → (u : Term) → occurs w (apply σ u) ≡ occurs w u
  unfolding occurs
  off w n u = same_test (occurs w (apply σ u)) (occurs w u) there back
    where
      there : T (occurs w (apply σ u)) → T (occurs w u)
      there h =
          let r = occurs_after σ w u h in
          let e : σ r.0 ≡ var r.0 = untouched σ r.0 (λ k. n (unifier.brought w (r.0, k, r.2))) in
          let same : w ≡ r.0 = eqb→eq w r.0 (subst (λ (s : Term). T (occurs w s)) e r.2) in
          subst (λ (v : ℕ). T (occurs v u)) (sym same) r.1

      back : T (occurs w u) → T (occurs w (apply σ u))
      back h =
          let e : σ w ≡ var w = untouched σ w (λ k. n (unifier.touched w k)) in
          after_occurs σ w w u h (subst (λ (s : Term). T (occurs w s)) (sym e) (eqb_refl w))

  -- w is gone from both sides
  gone : (w : ℕ) → On w → ¬ (T (occurs w (apply σ left))) → (u : Term) → occurs w (apply σ u) ≡ false
  gone w on n u =
      false_of (occurs w (apply σ u))
      (λ h. let r = occurs_after σ w u h in go r.0 r.2
      (or_cases (occurs r.0 left) (occurs r.0 right) (carrier w r.0 on r.2)))
    where
      go : (v : ℕ) → T (occurs w (σ v)) → T (occurs v left) ⊎ T (occurs v right) → ⊥
      go v k (inl l) = n (after_occurs σ w v left l k)
      go v k (inr r) = n (subst (λ (s : Term). T (occurs w s)) (sym unifier.unifies) (after_occurs σ w v right r k))

  -- w is in both sides after σ
  linked : (w : ℕ) → On w → T (occurs w (apply σ left)) → Linked (map (λ u. occurs w (apply σ u)) θ)
  linked w on h =
      let r₁ = occurs_after σ w left h in
      let r₂ = occurs_after σ w right (subst (λ (s : Term). T (occurs w s)) unifier.unifies h) in
      like (all r₁.0 r₂.0 r₁.2 r₂.2) (gather w r₁.0 r₂.0 r₁.1 r₂.1 sides (λ v k. rw listed_sides at k))
    where
      sides : List ℕ
      sides = listed left ++ listed right

      listed_sides : (v : ℕ) → any (eqb v) sides ≡ (occurs v left || occurs v right)
      listed_sides v = any_append (eqb v) (listed left) (listed right) ∙ ap₂ ◌||◌ (any_listed v left) (any_listed v right)

      brings : Term → ℕ → Bool
      brings u v = occurs w (σ v) && occurs v u

      all : (v₁ v₂ : ℕ) → T (occurs w (σ v₁)) → T (occurs w (σ v₂)) → (u : Term)
          → ((occurs v₁ u || occurs v₂ u) || any (brings u) sides) ≡ occurs w (apply σ u)
      all v₁ v₂ k₁ k₂ u = same_test ((occurs v₁ u || occurs v₂ u) || any (brings u) sides) (occurs w (apply σ u)) there back
        where
          there : T ((occurs v₁ u || occurs v₂ u) || any (brings u) sides) → T (occurs w (apply σ u))
          there k =
              ⊎_elim
              (λ b. ⊎_elim (λ o. after_occurs σ w v₁ u o k₁) (λ o. after_occurs σ w v₂ u o k₂)
              (or_cases (occurs v₁ u) (occurs v₂ u) b))
              (λ a.
              let r = some_any (brings u) sides a in
              after_occurs σ w r.0 u (and_second (occurs w (σ r.0)) (occurs r.0 u) r.1)
              (and_first (occurs w (σ r.0)) (occurs r.0 u) r.1))
              (or_cases (occurs v₁ u || occurs v₂ u) (any (brings u) sides) k)

          back : T (occurs w (apply σ u)) → T ((occurs v₁ u || occurs v₂ u) || any (brings u) sides)
          back k =
              let r = occurs_after σ w u k in
              let m : T (any (eqb r.0) sides) = rw listed_sides (carrier w r.0 on r.2) in
              or_right (occurs v₁ u || occurs v₂ u) (any (brings u) sides)
              (any_some (brings u) r.0 sides m (and_both (occurs w (σ r.0)) (occurs r.0 u) r.2 r.1))

  -- ---- The three cases of w

  abbrev Afterwards : Groups
  Afterwards = Equated (WithVariable x) (WithSome t) S

  -- the string of w before σ, where neither side has w
  apart : (w : ℕ) → ¬ (On w) → (nonzero (string_of θ w) ≡ false) ⊎ S (string_of θ w)
      → (nonzero (string_of θ w) ≡ false) ⊎ Afterwards (string_of θ w)
  unfolding as_bound
  apart w n (inl z) = inl z
  apart w n (inr s) =
      inr
      (inl (
        s,
        λ h. n (or_left (occurs w left) (occurs w right) (rw has_bound at h)),
        λ m. n (or_right (occurs w left) (occurs w right) (after_occurs (bound θ) w m.0 t m.1 (rw has_bound at m.2))),
      ))

  after : (w : ℕ) → Dec (On w) → Dec (T (occurs w (apply σ left)))
      → (nonzero (map (λ u. occurs w (apply σ u)) θ) ≡ false) ⊎ Afterwards (map (λ u. occurs w (apply σ u)) θ)
  unfolding string_of
  after w (no n) d =
      subst (λ (p : Term → Bool). (nonzero (map p θ) ≡ false) ⊎ Afterwards (map p θ)) (sym (fun_ext (off w n)))
      (apart w n (describes w))
  after w (yes on) (no n) = inl (none_zero (λ u. occurs w (apply σ u)) θ (gone w on n))
  after w (yes on) (yes h) = inr (inr (linked w on h))

  pub sharing : Describes Afterwards (apply_all σ θ)
  unfolding apply_all string_of
  sharing w = rw map_map (after w (decide (occurs w left || occurs w right)) (decide (occurs w (apply σ left))))
