-- The positive equation has exactly the groups of the binary definition. Assumes nothing.
use mathlib.Core.Path.{◌≡◌, sym, ap, ◌∙◌, subst}
use mathlib.Core.Bool.{Bool, not, ◌&&◌, or-false}
use mathlib.Core.List.{[], ◌∷◌}
use mathlib.Core.Logic.{◌↔◌, inl, inr, ⊎_elim}
use Prim.Native.Nat.{ℕ}
use lib.Dec.{T, T_not, not_T}
use lib.ListN.{length}
use Rattle.model.specs.Groups.{Bits, Groups, nonzero, meets, or, Ors, AOrB, Those, Equated}
use Rattle.model.specs.Strings.{covers, zeros, ones}
use Rattle.model.specs.Growth.{Entries, covered}
use Rattle.model.specs.Tables.{Wide, meets_of, relevant, irrelevant, positive_equation}
use Rattle.model.proofs.Tests.{or_cases, or_left, or_right, and_first, and_second, and_both}
use Rattle.model.proofs.Bits.{or_length, meets_nonzero, meets_or, ors_map}
use Rattle.model.proofs.Strings.{zeros_cover}
use Rattle.model.proofs.Given.{Given, given_map, given_then}
use Rattle.model.proofs.Growth.{GrownBy}
use Rattle.model.proofs.Shape.{Shape, grow_all_made}
use Rattle.model.proofs.Candidates.{wide_long, zeros_length, ones_wide, meets_of_wide, meets_of_covered}
use Rattle.model.proofs.Candidates.{ones_covered, Both}
use Rattle.model.proofs.Closing.{In, Stands, stands_same, from_empty, cross_exact, pair_crossed, close_exact}

-- ---- Relevant and irrelevant

-- the groups of τ with a variable of m, and nothing else
pub record Relevant (l : ℕ) (m : Bits) (τ ρ : Entries) : Type 0 where
  pub shape : Shape Unit l ρ
  pub there : (g : Bits) → T (covered ρ g) → In τ g × T (meets m g)
  pub back : (g : Bits) → In τ g → T (meets m g) → T (covered ρ g)

module _ (l : ℕ) (τ : Entries) (w : Wide l τ) (m : Bits) (fits : length m ≡ l) where
  long : (g : Bits) → T (covered τ g) → length g ≡ length m
  long g h = wide_long l τ g w h ∙ sym fits

  relevant_exact : Given (Relevant l m τ) (relevant m τ)
  unfolding relevant covered
  relevant_exact =
      given_map (λ ρ made. record { shape = made.0; there = there ρ made.1; back = back ρ made.1 })
      (from_empty l (meets_of τ (ones m)) wide)
    where
      wide : Wide l (meets_of τ (ones m))
      wide = meets_of_wide l τ (ones m) w (subst (λ (k : ℕ). Wide k (ones m)) fits (ones_wide m))

      there : (ρ : Entries) → GrownBy [] (meets_of τ (ones m)) ρ → (g : Bits) → T (covered ρ g) → In τ g × T (meets m g)
      there ρ grown g h =
          let k : T (covered τ g && covered (ones m) g) = rw meets_of_covered at (grown.within g h) in
          let t : T (covered τ g) = and_first (covered τ g) (covered (ones m) g) k in
          let x : T (meets m g) = rw (ones_covered m g (long g t)) at (and_second (covered τ g) (covered (ones m) g) k) in
          ((meets_nonzero m g x, t), x)

      back : (ρ : Entries) → GrownBy [] (meets_of τ (ones m)) ρ → (g : Bits) → In τ g → T (meets m g) → T (covered ρ g)
      back ρ grown g i h =
          rw (grown.exact g i.0, meets_of_covered τ (ones m) g, ones_covered m g (long g i.1))
          (and_both (covered τ g) (meets m g) i.1 h)

  irrelevant_exact : Given (Stands l (λ g. In τ g × ¬ (T (meets m g)))) (irrelevant m τ)
  unfolding irrelevant covered Wide
  irrelevant_exact =
      given_map (λ ρ made. record { shape = made.0; exact = λ g. (there ρ made.1 g, back ρ made.1 g) })
      (from_empty l (meets_of τ (zeros m ∷ [])) wide)
    where
      wide : Wide l (meets_of τ (zeros m ∷ []))
      wide = meets_of_wide l τ (zeros m ∷ []) w (zeros_length m ∙ fits, tt)

      is : (ρ : Entries) → GrownBy [] (meets_of τ (zeros m ∷ [])) ρ → (g : Bits) → T (nonzero g)
          → covered ρ g ≡ (covered τ g && covers (zeros m) g)
      is ρ grown g n =
          grown.exact g n ∙ meets_of_covered τ (zeros m ∷ []) g ∙ ap (λ (b : Bool). covered τ g && b)
          (or-false (covers (zeros m) g))

      there : (ρ : Entries) → GrownBy [] (meets_of τ (zeros m ∷ [])) ρ → (g : Bits) → In ρ g → In τ g × ¬ (T (meets m g))
      there ρ grown g h =
          let k : T (covered τ g && covers (zeros m) g) = rw (is ρ grown g h.0) at h.1 in
          let t = and_first (covered τ g) (covers (zeros m) g) k in
          ((h.0, t), T_not (meets m g) (rw (zeros_cover m g (long g t)) at (and_second (covered τ g) (covers (zeros m) g) k)))

      back : (ρ : Entries) → GrownBy [] (meets_of τ (zeros m ∷ [])) ρ → (g : Bits) → In τ g × ¬ (T (meets m g)) → In ρ g
      back ρ grown g h = (
        h.0.0,
        rw (is ρ grown g h.0.0, zeros_cover m g (long g h.0.1))
            (and_both (covered τ g) (not (meets m g)) h.0.1 (not_T (meets m g) h.1)),
      )

-- ---- The equation

module _ (l : ℕ) (τ : Entries) (w : Wide l τ) (mx mt : Bits) (fits_x : length mx ≡ l) (fits_t : length mt ≡ l) where
  abbrev HasX : Groups
  HasX g = T (meets mx g)

  abbrev HasT : Groups
  HasT g = T (meets mt g)

  abbrev Pairs : Groups
  Pairs = AOrB (Those (In τ) HasX) (Those (In τ) HasT)

  -- the cross of the relevant entries covers the a-or-b
  pairs_exact : (A B : Entries) → Relevant l mx τ A → Relevant l mt τ B → (g : Bits) → (T (nonzero g) × Both A B g) ↔ Pairs g
  pairs_exact A B x t g = (
    λ h.
        let p = h.1 in
        record {
          a = p.first;
          b = p.second;
          in_a = x.there p.first p.in_first;
          in_b = t.there p.second p.in_second;
          is = p.is;
        },
    pair_crossed A B (λ a h. (h.0.0, x.back a h.0 h.1)) (λ b h. (h.0.0, t.back b h.0 h.1)) g,
  )

  -- the irrelevant groups and the closed cross together
  together : (I K : Entries) → Stands l (λ g. In τ g × ¬ (T (meets (or mx mt) g))) I → Stands l (Ors Pairs) K → (ρ : Entries)
      → GrownBy I K ρ
      → (g : Bits) → In ρ g ↔ Equated HasX HasT (In τ) g
  together I K i k ρ grown g = (
    λ h.
        ⊎_elim
        (λ c.
        let r = (i.exact g).0 (h.0, c) in
        inl (
          r.0,
          λ x. r.1 (rw meets_or (or_left (meets mx g) (meets mt g) x)),
          λ t. r.1
              (rw meets_or (or_right (meets mx g) (meets mt g) t)),
        ))
        (λ c. inr ((k.exact g).0 (h.0, c)))
        (or_cases (covered I g) (covered K g) (grown.within g h.1)),
    ⊎_elim
        (λ r.
        let c = (i.exact g).1 (r.0, λ m. ⊎_elim r.1 r.2 (or_cases (meets mx g) (meets mt g) (rw meets_or at m))) in
        (c.0, rw (grown.exact g c.0) (or_left (covered I g) (covered K g) c.1)))
        (λ o. let c = (k.exact g).1 o in (c.0, rw (grown.exact g c.0) (or_right (covered I g) (covered K g) c.1))),
  )

  pub positive_exact : Given (Stands l (Equated HasX HasT (In τ))) (positive_equation mx mt τ)
  unfolding positive_equation
  positive_exact =
      given_then _ (irrelevant_exact l τ w (or mx mt) (or_length mx mt l fits_x fits_t)) (λ I i.
      given_then _ (relevant_exact l τ w mx fits_x) (λ A a.
      given_then _ (relevant_exact l τ w mt fits_t) (λ B b.
      given_then _ (cross_exact l A B a.shape.wide b.shape.wide) (λ C c.
      given_then _ (close_exact l C c.shape.wide) (λ K k.
      given_map
      (λ ρ made. record {
        shape = made.0;
        exact =
            together I K i (stands_same (λ g. (
              ors_map (λ h p. (pairs_exact A B a b h).0 ((c.exact h).0 p)),
              ors_map
                  (λ h p. (c.exact h).1 ((pairs_exact A B a b h).1 p)),
            )) k) ρ made.1;
      })
      (grow_all_made l I K i.shape k.shape.wide))))))
