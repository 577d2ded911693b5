-- The negative equation has exactly the groups of the binary definition. Assumes nothing.
use mathlib.Core.Path.{◌≡◌, refl, sym, ap, ap₂, ◌∙◌, subst}
use mathlib.Core.Bool.{Bool, true, false, not, ◌&&◌, ◌||◌}
use mathlib.Core.List.{[], ◌∷◌}
use mathlib.Core.Logic.Iff
use mathlib.Core.Logic.{◌↔◌, inl, inr, ⊎_elim}
use Prim.Native.Nat.{ℕ}
use native.Mathlib.Nat.{suc_inj, suc-ne-zero}
use lib.Dec.{T, T_not, not_T}
use lib.ListN.{length}
use Rattle.model.specs.Groups.{Bits, Groups, Group, nonzero, meets, or, Ors, one, more, AOrB, Those, Equated}
use Rattle.model.specs.Strings.{covers, all_zero, zeros, ones}
use Rattle.model.specs.Growth.{Entries, covered}
use Rattle.model.specs.Tables.{Wide, groups, negative, meets_of, negative_equation}
use Rattle.model.proofs.Tests.{decide, not_not, nor, nand, or_left, or_right, and_first, and_second}
use Rattle.model.proofs.Bits.{or_length, zero_or, or_self, bits_or_comm, meets_nonzero, meets_or, ors_map}
use Rattle.model.proofs.Strings.{zeros_cover}
use Rattle.model.proofs.Given.{Given, given_map, given_then}
use Rattle.model.proofs.Growth.{Grows, grow_grows, GrownBy}
use Rattle.model.proofs.Shape.{Shape, grow_all_made}
use Rattle.model.proofs.Candidates.{ones_wide, meets_of_wide, meets_of_covered, ones_covered, Both}
use Rattle.model.proofs.ChangeSide.{Changed, change_side_made}
use Rattle.model.proofs.Closing.{In, Stands, from_empty, stands_same, cross_exact, pair_crossed, close_exact}

-- where every variable is in the set, every group meets it
all_meet : (m g : Bits) → length g ≡ length m → T (all_zero (zeros m)) → T (nonzero g) → T (meets m g)
unfolding all_zero zeros nonzero meets
all_meet [] [] e z s = s
all_meet [] (b ∷ g) e z s = absurd (suc-ne-zero _ e)
all_meet (a ∷ m) [] e z s = absurd s
all_meet (true ∷ m) (true ∷ g) e z s = tt
all_meet (true ∷ m) (false ∷ g) e z s = all_meet m g (suc_inj e) z s
all_meet (false ∷ m) (b ∷ g) e z s = absurd z

-- A covers among groups exactly the groups of the negative table τ with a variable of m. It may cover the all-zero string
-- too, but only where every group has a variable of m: "0 at all of m" is then the all-zero string, which growing drops.
record Chosen (l : ℕ) (m : Bits) (τ A : Entries) : Type 0 where
  wide : Wide l A
  long : (g : Bits) → T (covered A g) → length g ≡ l
  there : (g : Bits) → T (nonzero g) → T (covered A g) → groups negative l τ g × T (meets m g)
  back : (g : Bits) → groups negative l τ g → T (meets m g) → T (covered A g)
  zero : (a g : Bits) → T (covered A a) → ¬ (T (nonzero a)) → Group l g → T (meets m g)

module _ (l : ℕ) (τ : Entries) (m : Bits) (fits : length m ≡ l) (P A : Entries) (p : Grows τ (zeros m) P)
    (c : Changed l P A) where
  -- a group that P covers is covered by τ or has no variable of m
  split_p : (g : Bits) → Group l g → covered P g ≡ (covered τ g || not (meets m g))
  split_p g gr =
      p.adds g (λ z k. T_not (meets m g) (rw (zeros_cover m g (gr.0 ∙ sym fits)) at k)
      (all_meet m g (gr.0 ∙ sym fits) z gr.1))
      ∙ ap (λ (b : Bool). covered τ g || b) (zeros_cover m g (gr.0 ∙ sym fits))

  chosen : Chosen l m τ A
  unfolding groups
  chosen = record { wide = c.shape.wide; long = λ g h. (c.within g h).0; there = there; back = back; zero = zero }
    where
      there : (g : Bits) → T (nonzero g) → T (covered A g) → groups negative l τ g × T (meets m g)
      there g s h =
          let w = c.within g h in
          let n : ¬ (T (covered τ g || not (meets m g))) = λ k. T_not (covered P g) w.1 (rw (split_p g (w.0, s)) k) in (
            ((w.0, s), λ k. n (or_left (covered τ g) (not (meets m g)) k)),
            not_not (meets m g)
                (λ k. n (or_right (covered τ g) (not (meets m g)) k)),
          )

      back : (g : Bits) → groups negative l τ g → T (meets m g) → T (covered A g)
      back g o h =
          rw (c.exact g o.0.0 o.0.1, split_p g o.0)
          (not_T (covered τ g || not (meets m g)) (nor (covered τ g) (not (meets m g)) o.1 (λ k. T_not (meets m g) k h)))

      zero : (a g : Bits) → T (covered A a) → ¬ (T (nonzero a)) → Group l g → T (meets m g)
      zero a g h z gr = all_meet m g (gr.0 ∙ sym fits) (full (decide (all_zero (zeros m)))) gr.1
        where
          full : Dec (T (all_zero (zeros m))) → T (all_zero (zeros m))
          full (yes f) = f
          full (no n) =
              let w = c.within a h in
              let k : T (covers (zeros m) a) = rw (zeros_cover m a (w.0 ∙ sym fits))
              (not_T (meets m a) (λ j. z (meets_nonzero m a j))) in
              absurd (T_not (covered P a) w.1 (rw (p.adds a (λ f d. n f)) (or_right (covered τ a) (covers (zeros m) a) k)))

module _ (l : ℕ) (τ : Entries) (mx mt : Bits) (fits_x : length mx ≡ l) (fits_t : length mt ≡ l) where
  abbrev Out : Groups
  Out = groups negative l τ

  abbrev HasX : Groups
  HasX g = T (meets mx g)

  abbrev HasT : Groups
  HasT g = T (meets mt g)

  abbrev Pairs : Groups
  Pairs = AOrB (Those Out HasX) (Those Out HasT)

  -- one group on both sides
  single : (g : Bits) → Out g → HasX g → HasT g → Pairs g
  single g o x t = record { a = g; b = g; in_a = (o, x); in_b = (o, t); is = sym (or_self g) }

  module _ (A B : Entries) (x : Chosen l mx τ A) (t : Chosen l mt τ B) where
    -- a part that is all zero leaves the other part, which then stands on both sides
    of_parts : (a b : Bits) → T (covered A a) → T (covered B b) → T (nonzero (or a b)) → Dec (T (nonzero a)) → Dec (T (nonzero b))
        → Pairs (or a b)
    unfolding groups
    of_parts a b m n s (yes i) (yes j) = record { a = a; b = b; in_a = x.there a i m; in_b = t.there b j n; is = refl }
    of_parts a b m n s (no i) d =
        let e : or a b ≡ b = zero_or a b (x.long a m ∙ sym (t.long b n)) i in
        let o = t.there b (rw e at s) n in
        rw e (single b o.0 (x.zero a b m i o.0.0) o.1)
    of_parts a b m n s (yes i) (no j) =
        let e : or a b ≡ a = bits_or_comm a b ∙ zero_or b a (t.long b n ∙ sym (x.long a m)) j in
        let o = x.there a i m in
        rw e (single a o.0 o.1 (t.zero b a n j o.0.0))

    pairs_exact : (g : Bits) → (T (nonzero g) × Both A B g) ↔ Pairs g
    unfolding groups
    pairs_exact g = (
      λ h.
          let p = h.1 in
          subst Pairs (sym p.is)
          (of_parts p.first p.second p.in_first p.in_second (rw p.is at h.0) (decide (nonzero p.first))
          (decide (nonzero p.second))),
      pair_crossed A B (λ a h. (h.0.0.1, x.back a h.0 h.1)) (λ b h. (h.0.0.1, t.back b h.0 h.1)) g,
    )

  pair_length : {g : Bits} → Pairs g → length g ≡ l
  unfolding groups
  pair_length p = rw p.is (or_length p.a p.b l p.in_a.0.0.0 p.in_b.0.0.0)

  pairs_length : {g : Bits} → Ors Pairs g → length g ≡ l
  pairs_length (one p) = pair_length p
  pairs_length (more {g} {h} p k) = or_length g h l (pair_length p) (pairs_length k)

  -- what neither the irrelevant groups nor the closed cross leave out
  module _ (C R K ρ : Entries) (c : GrownBy τ (ones (or mx mt)) C) (r : Stands l (Ors Pairs) R) (k : Changed l R K)
      (made : GrownBy [] (meets_of C K) ρ) where
    result_covered : (g : Bits) → Group l g → covered ρ g ≡ ((covered τ g || (meets mx g || meets mt g)) && not (covered R g))
    unfolding covered
    result_covered g gr =
        made.exact g gr.1
        ∙ meets_of_covered C K g
        ∙ ap₂ ◌&&◌
        (c.exact g gr.1 ∙ ap (λ (b : Bool). covered τ g || b)
        (ones_covered (or mx mt) g (gr.0 ∙ sym (or_length mx mt l fits_x fits_t)) ∙ meets_or mx mt g))
        (k.exact g gr.0 gr.1)

    result_exact : (g : Bits) → groups negative l ρ g ↔ Equated HasX HasT Out g
    unfolding groups
    result_exact g = (there, back)
      where
        left : Bool
        left = covered τ g || (meets mx g || meets mt g)

        there : groups negative l ρ g → Equated HasX HasT Out g
        there o =
            ⊎_elim
            (λ n. inl (
              (o.0, λ h. n (or_left (covered τ g) (meets mx g || meets mt g) h)),
              λ h. n (or_right (covered τ g) (meets mx g || meets mt g) (or_left (meets mx g) (meets mt g) h)),
              λ h. n (or_right (covered τ g) (meets mx g || meets mt g) (or_right (meets mx g) (meets mt g) h)),
            ))
            (λ n. inr ((r.exact g).0 (o.0.1, not_not (covered R g) n)))
            (nand left (not (covered R g)) (rw (result_covered g o.0) at o.1))

        back : Equated HasX HasT Out g → groups negative l ρ g
        back (inl h) = (
          h.0.0,
          rw (result_covered g h.0.0)
              (λ j. nor (covered τ g) (meets mx g || meets mt g) h.0.1 (nor (meets mx g) (meets mt g) h.1 h.2)
              (and_first left (not (covered R g)) j)),
        )
        back (inr o) =
            let i = (r.exact g).1 o in
            let gr : Group l g = (pairs_length o, i.0) in
            (gr, rw (result_covered g gr) (λ j. T_not (covered R g) (and_second left (not (covered R g)) j) i.1))

  pub negative_exact : Shape ⊥ l τ
      → Given (λ (ρ : Entries). Shape Unit l ρ × ((g : Bits) → groups negative l ρ g ↔ Equated HasX HasT Out g))
      (negative_equation l mx mt τ)
  unfolding negative_equation
  negative_exact sh =
      given_then _ (grow_grows τ (zeros mx)) (λ P p.
      given_then _ (grow_grows τ (zeros mt)) (λ Q q.
      given_then _ (grow_all_made l τ (ones (or mx mt)) sh
      (subst (λ (k : ℕ). Wide k (ones (or mx mt))) (or_length mx mt l fits_x fits_t) (ones_wide (or mx mt)))) (λ C c.
      given_then _ (change_side_made l P) (λ A a.
      given_then _ (change_side_made l Q) (λ B b.
      given_then _ (cross_exact l A B a.shape.wide b.shape.wide) (λ J j.
      given_then _ (close_exact l J j.shape.wide) (λ R r.
      given_then _ (change_side_made l R) (λ K k.
      given_map
      (λ ρ made. (made.0, result_exact C R K ρ c.1 (closed P Q A B J R p q a b j r) k made.1))
      (from_empty l (meets_of C K) (meets_of_wide l C K c.0.wide k.shape.wide))))))))))
    where
      closed : (P Q A B J R : Entries) → Grows τ (zeros mx) P → Grows τ (zeros mt) Q → Changed l P A → Changed l Q B
          → Stands l (λ g. T (nonzero g) × Both A B g) J → Stands l (Ors (In J)) R → Stands l (Ors Pairs) R
      closed P Q A B J R p q a b j r =
          let e : (h : Bits) → In J h ↔ Pairs h = λ h. Iff.trans (j.exact h)
          (pairs_exact A B (chosen l τ mx fits_x P A p a) (chosen l τ mt fits_t Q B q b) h) in
          stands_same (λ g. (ors_map (λ h. (e h).0), ors_map (λ h. (e h).1))) r
