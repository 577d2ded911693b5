-- What cut entries cover. Assumes nothing.
use mathlib.Core.Path.{◌≡◌, refl, sym, ap, ◌∙◌}
use mathlib.Core.Bool.{true, false}
use mathlib.Core.List.{List, [], ◌∷◌, map}
use mathlib.Core.Logic.{⊎_elim}
use Prim.Native.Nat.{ℕ, suc}
use native.Mathlib.Nat.{suc_inj, suc-ne-zero}
use lib.Dec.{T}
use lib.ListN.{length}
use Rattle.model.specs.Groups.{Bits, nonzero, cut, Projected}
use Rattle.model.specs.Strings.{Trits, covers_digit, covers}
use Rattle.model.specs.Growth.{Entries, covered}
use Rattle.model.specs.Tables.{Wide, kept, positive_projection}
use Rattle.model.proofs.Tests.{tests, or_cases, or_left, or_right, and_first, and_second, and_both}
use Rattle.model.proofs.Strings.{some_digit, some_covered}
use Rattle.model.proofs.Given.{Given, given_map}
use Rattle.model.proofs.Candidates.{wide_map}
use Rattle.model.proofs.Closing.{In, Stands, from_empty}

-- ---- One string

cut_covers : (k : Bits) (s : Trits) (g : Bits) → T (covers s g) → T (covers (cut k s) (cut k g))
unfolding covers cut
cut_covers [] s g c = tt
cut_covers (a ∷ k) [] [] c = tt
cut_covers (a ∷ k) [] (b ∷ g) c = absurd c
cut_covers (a ∷ k) (t ∷ s) [] c = absurd c
cut_covers (true ∷ k) (t ∷ s) (b ∷ g) c = search (tests, cut_covers k s g)
cut_covers (false ∷ k) (t ∷ s) (b ∷ g) c = cut_covers k s g (and_second (covers_digit t b) (covers s g) c)

-- what the cut string covers is cut from a string that s covers
covers_cut : (k : Bits) (s : Trits) (h : Bits) → T (covers (cut k s) h) → (g : Bits) × T (covers s g) × h ≡ cut k g
unfolding covers cut
covers_cut [] s [] c = let g = some_covered s in (g.0, g.1, refl)
covers_cut [] s (b ∷ h) c = absurd c
covers_cut (a ∷ k) [] [] c = ([], tt, refl)
covers_cut (a ∷ k) [] (b ∷ h) c = absurd c
covers_cut (true ∷ k) (t ∷ s) [] c = absurd c
covers_cut (true ∷ k) (t ∷ s) (b ∷ h) c =
    let r = covers_cut k s h (and_second (covers_digit t b) (covers (cut k s) h) c) in (
      b ∷ r.0,
      and_both (covers_digit t b) (covers s r.0) (and_first (covers_digit t b) (covers (cut k s) h) c) r.1,
      ap
          (λ (x : Bits). b ∷ x) r.2,
    )
covers_cut (false ∷ k) (t ∷ s) h c =
    let b = some_digit t in
    let r = covers_cut k s h c in
    (b.0 ∷ r.0, and_both (covers_digit t b.0) (covers s r.0) b.1 r.1, r.2)

-- A string with a 1 at a chosen position has a 1.
pub cut_nonzero : (k g : Bits) → T (nonzero (cut k g)) → T (nonzero g)
unfolding nonzero cut
cut_nonzero [] g h = absurd h
cut_nonzero (a ∷ k) [] h = h
cut_nonzero (true ∷ k) (true ∷ g) h = tt
cut_nonzero (true ∷ k) (false ∷ g) h = cut_nonzero k g h
cut_nonzero (false ∷ k) (b ∷ g) h = or_right b (nonzero g) (cut_nonzero k g h)

pub cut_length : {A : Type 0} (k : Bits) (s : List A) → length s ≡ length k → length (cut k s) ≡ kept k
unfolding cut kept
cut_length [] s e = refl
cut_length (a ∷ k) [] e = absurd (suc-ne-zero _ (sym e))
cut_length (true ∷ k) (b ∷ s) e = ap suc (cut_length k s (suc_inj e))
cut_length (false ∷ k) (b ∷ s) e = cut_length k s (suc_inj e)

-- ---- A list

cut_covered : (k : Bits) (τ : Entries) (g : Bits) → T (covered τ g) → T (covered (map (cut k) τ) (cut k g))
unfolding covered
cut_covered k [] g h = h
cut_covered k (s ∷ τ) g h =
    ⊎_elim
    (λ c. or_left (covers (cut k s) (cut k g)) (covered (map (cut k) τ) (cut k g)) (cut_covers k s g c))
    (λ m. or_right (covers (cut k s) (cut k g)) (covered (map (cut k) τ) (cut k g)) (cut_covered k τ g m))
    (or_cases (covers s g) (covered τ g) h)

covered_cut : (k : Bits) (τ : Entries) (h : Bits) → T (covered (map (cut k) τ) h) → (g : Bits) × T (covered τ g) × h ≡ cut k g
unfolding covered
covered_cut k [] h m = absurd m
covered_cut k (s ∷ τ) h m =
    ⊎_elim
    (λ c. let r = covers_cut k s h c in (r.0, or_left (covers s r.0) (covered τ r.0) r.1, r.2))
    (λ j. let r = covered_cut k τ h j in (r.0, or_right (covers s r.0) (covered τ r.0) r.1, r.2))
    (or_cases (covers (cut k s) h) (covered (map (cut k) τ) h) m)

-- The positive projection has exactly the groups of the binary definition.
pub projected_exact : (l : ℕ) (k : Bits) (τ : Entries) → length k ≡ l → Wide l τ
    → Given (Stands (kept k) (Projected k (In τ))) (positive_projection k τ)
unfolding positive_projection covered
projected_exact l k τ e w =
    given_map
    (λ ρ made. record {
      shape = made.0;
      exact = λ h. (
        λ i.
            let r = covered_cut k τ h (made.1.within h i.1) in
            (i.0, (r.0, (cut_nonzero k r.0 (rw r.2 at i.0), r.1), r.2)),
        λ p. (p.0, rw (made.1.exact h p.0, p.1.2) (cut_covered k τ p.1.0 p.1.1.1)),
      );
    })
    (from_empty (kept k) (map (cut k) τ) (wide_map (kept k) l (cut k) (λ s d. cut_length k s (d ∙ sym e)) τ w))
