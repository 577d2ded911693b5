-- Demand 2: wherever a procedure gives a table, its groups are exactly those of the binary definition. Assumes nothing.
use mathlib.Core.Path.{◌≡◌, ◌∙◌}
use mathlib.Core.List.{List, [], ◌∷◌, map}
use mathlib.Core.Logic.Iff
use mathlib.Core.Logic.{◌↔◌, inl, inr, ⊎_elim}
use Prim.Native.Nat.{ℕ, ◌<◌}
use native.Mathlib.Omega.{arith}
use lib.Dec.{T, T_not, not_T}
use lib.ListN.{length}
use Rattle.model.specs.Groups.{Bits, Groups, AOrB, Those, Equated, Projected, Joined, Among, Listed}
use Rattle.model.specs.Strings.{covers, exactly, stars}
use Rattle.model.specs.Growth.{Entries, covered, convert, Reduced}
use Rattle.model.specs.Tables.{Side, positive, negative, opposite, Wide, Good, groups, meets_of, change_side}
use Rattle.model.specs.Tables.{positive_projection, kept, no_groups, equation_of_sets, join, projection}
use Rattle.model.specs.Questions.{Equal}
use Rattle.model.specs.Terms.{var, variables}
use Rattle.model.specs.Equations.{Equation, Kind, itself, deeper, plain, kind, WithVariable, WithSome, AfterKind, After}
use Rattle.model.specs.Equations.{equation_of_kind, equation}
use Rattle.model.proofs.Tests.{not_not, nand, or_cases, or_left, or_right, and_first, and_second}
use Rattle.model.proofs.Bits.{ors_map}
use Rattle.model.proofs.Strings.{exactly_length, exactly_covers, exactly_one, stars_cover}
use Rattle.model.proofs.Positions.{stars_length}
use Rattle.model.proofs.Given.{Given, given, given_map, given_then, Each}
use Rattle.model.proofs.Shape.{Shape, empty_shape, grow_all_made, reduced_empty, reduced_one}
use Rattle.model.proofs.Candidates.{wide_long, meets_of_wide, meets_of_covered}
use Rattle.model.proofs.ChangeSide.{change_side_made, stars_nonzero}
use Rattle.model.proofs.Closing.{In, Stands, from_empty}
use Rattle.model.proofs.PositiveEquation.{positive_exact}
use Rattle.model.proofs.NegativeEquation.{negative_exact}
use Rattle.model.proofs.Projection.{projected_exact}
use Rattle.model.proofs.Variables.{variables_length, meets_variables, meets_variable}

-- A table of l variables, reduced under R, that stands for exactly the groups Q.
pub record StandsFor (R : Type 0) (side : Side) (l : ℕ) (Q : Groups) (ρ : Entries) : Type 0 where
  pub shape : Shape R l ρ
  pub equal : Equal (groups side l ρ) Q

pub good_shape : {l : ℕ} {τ : Entries} → Good l τ → Shape ⊥ l τ
good_shape good = record { wide = good.wide; few = good.few; reduced = λ x. absurd x }

pub reduced_shape : {l : ℕ} {τ : Entries} → Good l τ → Reduced τ → Shape Unit l τ
reduced_shape good r = record { wide = good.wide; few = good.few; reduced = λ x. r }

pub shape_good : {R : Type 0} {l : ℕ} {τ : Entries} → Shape R l τ → Good l τ
shape_good s = record { wide = s.wide; few = s.few }

-- the groups that a list of strings of l positions covers
in_groups : (l : ℕ) (τ : Entries) → Wide l τ → (g : Bits) → In τ g ↔ groups positive l τ g
unfolding groups
in_groups l τ w g = (λ h. ((wide_long l τ g w h.1, h.0), h.1), λ h. (h.0.1, h.1))

of_stands : {l : ℕ} {Q : Groups} {ρ : Entries} → Stands l Q ρ → StandsFor Unit positive l Q ρ
of_stands {l} {Q} {ρ} s =
    record { shape = s.shape; equal = λ g. Iff.trans (Iff.symm (in_groups l ρ s.shape.wide g)) (s.exact g) }

stands_for_same : {R : Type 0} {side : Side} {l : ℕ} {Q Q' : Groups} {ρ : Entries} → Equal Q Q' → StandsFor R side l Q ρ
    → StandsFor R side l Q' ρ
stands_for_same f s = record { shape = s.shape; equal = λ g. Iff.trans (s.equal g) (f g) }

-- ---- Equation

-- the binary definition, with the groups and the two tests replaced by equal ones
equated_there : {S S' X X' Y Y' : Groups} → Equal S S' → ((g : Bits) → S g → X g ↔ X' g) → ((g : Bits) → S g → Y g ↔ Y' g)
    → (g : Bits) → Equated X Y S g → Equated X' Y' S' g
equated_there s x y g (inl h) = inl ((s g).0 h.0, λ k. h.1 ((x g h.0).1 k), λ k. h.2 ((y g h.0).1 k))
equated_there {S} {S'} {X} {X'} {Y} {Y'} s x y g (inr o) = inr (ors_map both o)
  where
    both : (g : Bits) → AOrB (Those S X) (Those S Y) g → AOrB (Those S' X') (Those S' Y') g
    both g p = record {
      a = p.a;
      b = p.b;
      in_a = ((s p.a).0 p.in_a.0, (x p.a p.in_a.0).0 p.in_a.1);
      in_b = ((s p.b).0 p.in_b.0, (y p.b p.in_b.0).0 p.in_b.1);
      is = p.is;
    }

equated_same : {S S' X X' Y Y' : Groups} → Equal S S' → ((g : Bits) → S g → X g ↔ X' g) → ((g : Bits) → S g → Y g ↔ Y' g)
    → Equal (Equated X Y S) (Equated X' Y' S')
equated_same s x y g = (
  equated_there s x y g,
  equated_there (λ h. Iff.symm (s h)) (λ h i. Iff.symm (x h ((s h).1 i))) (λ h i. Iff.symm (y h ((s h).1 i))) g,
)

-- where the term does not hold the variable
plain_made : (side : Side) (l : ℕ) (e : Equation) (τ : Entries) → Good l τ
    → Given (StandsFor Unit side l (Equated (WithVariable e.left) (WithSome e.right) (groups side l τ)))
    (equation_of_sets side l (variables l (var e.left)) (variables l e.right) τ)
unfolding equation_of_sets groups
plain_made positive l e τ good =
    given_map
    (λ ρ s.
    stands_for_same
    (equated_same (in_groups l τ good.wide)
    (λ g i. meets_variable l e.left g (wide_long l τ g good.wide i.1))
    (λ g i. meets_variables l e.right g (wide_long l τ g good.wide i.1)))
    (of_stands s))
    (positive_exact l τ good.wide (variables l (var e.left)) (variables l e.right) (variables_length l (var e.left))
    (variables_length l e.right))
plain_made negative l e τ good =
    given_map
    (λ ρ s.
    stands_for_same
    (equated_same (λ g. (λ h. h, λ h. h)) (λ g i. meets_variable l e.left g i.0.0)
    (λ g i. meets_variables l e.right g i.0.0))
    (record { shape = s.0; equal = s.1 }))
    (negative_exact l τ (variables l (var e.left)) (variables l e.right) (variables_length l (var e.left))
    (variables_length l e.right) (good_shape good))

-- A table that stands for no groups.
pub no_groups_made : (side : Side) (l : ℕ) → StandsFor (0 < l) side l (λ g. ⊥) (no_groups side l)
unfolding no_groups groups covered Wide
no_groups_made positive l = record {
  shape = record { wide = tt; few = omega arith; reduced = λ h. reduced_empty };
  equal = λ g. (λ k. k.1, λ k. absurd k);
}
no_groups_made negative l = record {
  shape = record { wide = (stars_length l, tt); few = omega arith; reduced = λ h. reduced_one (stars l) (stars_nonzero l h) };
  equal = λ g. (λ k. k.1 (rw (stars_cover l g k.0.0) tt), λ k. absurd k);
}

-- reduced under more
reduced_under : {R R' : Type 0} {side : Side} {l : ℕ} {Q : Groups} {ρ : Entries} → (R' → R) → StandsFor R side l Q ρ
    → StandsFor R' side l Q ρ
reduced_under f s = record {
  shape = record { wide = s.shape.wide; few = s.shape.few; reduced = λ r. s.shape.reduced (f r) };
  equal = s.equal;
}

-- An equation of each kind; reduced where the table given was, since x = x leaves it.
kind_made : (k : Kind) (side : Side) (l : ℕ) (e : Equation) (τ : Entries) → Good l τ
    → Given (StandsFor ((0 < l) × Reduced τ) side l (AfterKind k e (groups side l τ))) (equation_of_kind k side l e τ)
unfolding equation_of_kind AfterKind
kind_made itself side l e τ good = given (record {
  shape = record { wide = good.wide; few = good.few; reduced = λ r. r.1 };
  equal = λ g. (λ h. h, λ h. h);
})
kind_made deeper side l e τ good = given (reduced_under (λ r. r.0) (no_groups_made side l))
kind_made plain side l e τ good = given_map (λ ρ. reduced_under (λ r. tt)) (plain_made side l e τ good)

pub equation_made : (side : Side) (l : ℕ) (e : Equation) (τ : Entries) → Good l τ
    → Given (StandsFor ((0 < l) × Reduced τ) side l (After e (groups side l τ))) (equation side l e τ)
unfolding equation
equation_made side l e τ good = kind_made (kind e) side l e τ good

-- ---- Join

pub join_made : {R : Type 0} (side : Side) (l : ℕ) (τ υ : Entries) → Shape R l τ → Wide l υ
    → Given (StandsFor R side l (Joined (groups side l τ) (groups side l υ))) (join side τ υ)
unfolding join covered groups
join_made positive l τ υ sh w =
    given_map
    (λ ρ made. record {
      shape = made.0;
      equal = λ g. (
        λ h. ⊎_elim (λ k. inl (h.0, k)) (λ k. inr (h.0, k)) (or_cases (covered τ g) (covered υ g) (made.1.within g h.1)),
        ⊎_elim
            (λ k. (k.0, rw (made.1.exact g k.0.1) (or_left (covered τ g) (covered υ g) k.1)))
            (λ k. (k.0, rw (made.1.exact g k.0.1) (or_right (covered τ g) (covered υ g) k.1))),
      );
    })
    (grow_all_made l τ υ sh w)
join_made negative l τ υ sh w =
    given_map
    (λ ρ made. record {
      shape = record { wide = made.0.wide; few = made.0.few; reduced = λ x. made.0.reduced tt };
      equal = λ g. (
        λ h.
            ⊎_elim (λ n. inl (h.0, n)) (λ n. inr (h.0, n))
            (nand (covered τ g) (covered υ g) (rw (made.1.exact g h.0.1, meets_of_covered τ υ g) at h.1)),
        ⊎_elim
            (λ k. (k.0, λ m. k.1 (and_first (covered τ g) (covered υ g) (rw meets_of_covered at (made.1.within g m)))))
            (λ k. (k.0, λ m. k.1 (and_second (covered τ g) (covered υ g) (rw meets_of_covered at (made.1.within g m))))),
      );
    })
    (from_empty l (meets_of τ υ) (meets_of_wide l τ υ sh.wide w))

-- ---- Change of side

pub change_made : (side : Side) (l : ℕ) (τ : Entries)
    → Given (StandsFor (0 < l) (opposite side) l (groups side l τ)) (change_side l τ)
unfolding opposite groups
change_made positive l τ =
    given_map
    (λ ρ c. record {
      shape = c.shape;
      equal = λ g. (
        λ h. (h.0, not_not (covered τ g) (rw (c.exact g h.0.0 h.0.1) at h.1)),
        λ h. (h.0, rw (c.exact g h.0.0 h.0.1) (λ n. T_not (covered τ g) n h.1)),
      );
    })
    (change_side_made l τ)
change_made negative l τ =
    given_map
    (λ ρ c. record {
      shape = c.shape;
      equal = λ g. (
        λ h. (h.0, T_not (covered τ g) (c.within g h.1).1),
        λ h. (h.0, rw (c.exact g h.0.0 h.0.1) (not_T (covered τ g) h.1)),
      );
    })
    (change_side_made l τ)

-- ---- Projection

projected_same : (k : Bits) {S S' : Groups} → Equal S S' → Equal (Projected k S) (Projected k S')
projected_same k s h =
    (λ p. (p.0, (p.1.0, (s p.1.0).0 p.1.1, p.1.2)), λ p. (p.0, (p.1.0, (s p.1.0).1 p.1.1, p.1.2)))

weaker : {R : Type 0} {side : Side} {l : ℕ} {Q : Groups} {ρ : Entries} → StandsFor Unit side l Q ρ → StandsFor R side l Q ρ
weaker s =
    record { shape = record { wide = s.shape.wide; few = s.shape.few; reduced = λ x. s.shape.reduced tt }; equal = s.equal }

positive_projection_made : (l : ℕ) (k : Bits) (τ : Entries) → length k ≡ l → Wide l τ
    → Given (StandsFor Unit positive (kept k) (Projected k (groups positive l τ))) (positive_projection k τ)
positive_projection_made l k τ e w =
    given_map (λ ρ s. stands_for_same (projected_same k (in_groups l τ w)) (of_stands s)) (projected_exact l k τ e w)

pub projection_made : (side : Side) (l : ℕ) (k : Bits) (τ : Entries) → length k ≡ l → Wide l τ
    → Given (StandsFor (0 < kept k) side (kept k) (Projected k (groups side l τ))) (projection side l k τ)
unfolding projection opposite
projection_made positive l k τ e w = given_map (λ ρ. weaker) (positive_projection_made l k τ e w)
projection_made negative l k τ e w =
    given_then _ (change_made negative l τ) (λ P p.
    given_then _ (positive_projection_made l k P e p.shape.wide) (λ C c.
    given_map (λ ρ. stands_for_same (λ g. Iff.trans (c.equal g) (projected_same k p.equal g)))
    (change_made positive (kept k) C)))

-- ---- Convert

-- the strings of 0 and 1 cover just themselves
listed_covered : (gs : List Bits) (g : Bits) → T (covered (map exactly gs) g) ↔ Among gs g
unfolding covered Among
listed_covered [] g = (λ h. h, λ h. h)
listed_covered (h ∷ gs) g = (
  λ c.
      ⊎_elim (λ k. inl (exactly_one h g k)) (λ k. inr ((listed_covered gs g).0 k))
      (or_cases (covers (exactly h) g) (covered (map exactly gs) g) c),
  ⊎_elim
      (λ k. or_left (covers (exactly h) g) (covered (map exactly gs) g) (rw k (exactly_covers h)))
      (λ k. or_right (covers (exactly h) g) (covered (map exactly gs) g) ((listed_covered gs g).1 k)),
)

listed_wide : (l : ℕ) (gs : List Bits) → Each (λ (g : Bits). length g ≡ l) gs → Wide l (map exactly gs)
unfolding Each Wide
listed_wide l [] e = tt
listed_wide l (g ∷ gs) e = (exactly_length g ∙ e.0, listed_wide l gs e.1)

pub convert_made : (l : ℕ) (gs : List Bits) → Each (λ (g : Bits). length g ≡ l) gs
    → Given (StandsFor Unit positive l (Listed l gs)) (convert gs)
unfolding convert covered groups
convert_made l gs e =
    given_map
    (λ ρ made. record {
      shape = made.0;
      equal = λ g. (
        λ h. (h.0, (listed_covered gs g).0 (made.1.within g h.1)),
        λ h. (h.0, rw (made.1.exact g h.0.1) ((listed_covered gs g).1 h.1)),
      );
    })
    (grow_all_made l [] (map exactly gs) (empty_shape l) (listed_wide l gs e))
