-- The tests of the three questions hold exactly when the statements over groups do. Assumes nothing.
use mathlib.Core.Path.{◌≡◌, refl, sym, ap, subst}
use mathlib.Core.Bool.{Bool, true, false, not, ◌&&◌, ◌||◌, beq}
use mathlib.Core.List.{[], ◌∷◌}
use mathlib.Core.Logic.Iff
use mathlib.Core.Logic.{◌↔◌, ⊎_elim}
use Prim.Native.Nat.{ℕ, zero, suc}
use native.Mathlib.Nat.{suc_inj, suc-ne-zero}
use lib.Dec.{T, T_not, not_T}
use lib.ListN.{length}
use Rattle.model.specs.Groups.{Bits, Group, nonzero, has, meets}
use Rattle.model.specs.Growth.{Entries, covered}
use Rattle.model.specs.Tables.{Side, positive, negative, groups}
use Rattle.model.specs.Questions.{Equal, Ground, Independent, every, every_group, stands_for, equal, ground, independent}
use Rattle.model.proofs.Tests.{or_cases, or_left, or_right, and_first, and_second, and_both, decide}

-- ---- All strings, all groups

pub every_there : (l : ℕ) (p : Bits → Bool) → T (every l p) → (g : Bits) → length g ≡ l → T (p g)
unfolding every
every_there zero p h [] e = h
every_there zero p h (b ∷ g) e = absurd (suc-ne-zero _ e)
every_there (suc l) p h [] e = absurd (suc-ne-zero _ (sym e))
every_there (suc l) p h (false ∷ g) e =
    every_there l (λ r. p (false ∷ r)) (and_first (every l (λ r. p (false ∷ r))) (every l (λ r. p (true ∷ r))) h) g (suc_inj e)
every_there (suc l) p h (true ∷ g) e =
    every_there l (λ r. p (true ∷ r)) (and_second (every l (λ r. p (false ∷ r))) (every l (λ r. p (true ∷ r))) h) g (suc_inj e)

pub every_back : (l : ℕ) (p : Bits → Bool) → ((g : Bits) → length g ≡ l → T (p g)) → T (every l p)
unfolding every
every_back zero p f = f [] refl
every_back (suc l) p f =
    and_both (every l (λ r. p (false ∷ r))) (every l (λ r. p (true ∷ r)))
    (every_back l (λ r. p (false ∷ r)) (λ g e. f (false ∷ g) (ap suc e)))
    (every_back l (λ r. p (true ∷ r)) (λ g e. f (true ∷ g) (ap suc e)))

pub every_group_exact : (l : ℕ) (p : Bits → Bool) → T (every_group l p) ↔ ((g : Bits) → Group l g → T (p g))
unfolding every_group
every_group_exact l p = (
  λ h g gr.
      ⊎_elim (λ z. absurd (T_not (nonzero g) z gr.1)) (λ k. k)
      (or_cases (not (nonzero g)) (p g) (every_there l (λ r. not (nonzero r) || p r) h g gr.0)),
  λ f. every_back l (λ r. not (nonzero r) || p r) (λ g e. go g e (decide (nonzero g)) f),
)
  where
    go : (g : Bits) → length g ≡ l → Dec (T (nonzero g)) → ((g : Bits) → Group l g → T (p g)) → T (not (nonzero g) || p g)
    go g e (yes n) f = or_right (not (nonzero g)) (p g) (f g (e, n))
    go g e (no n) f = or_left (not (nonzero g)) (p g) (not_T (nonzero g) n)

-- ---- The questions

pub groups_test : (side : Side) (l : ℕ) (τ : Entries) (g : Bits) → groups side l τ g ↔ (Group l g × T (stands_for side τ g))
unfolding stands_for groups
groups_test positive l τ g = (λ h. h, λ h. h)
groups_test negative l τ g = (λ h. (h.0, not_T (covered τ g) h.1), λ h. (h.0, T_not (covered τ g) h.1))

-- The all-zero string is never a group, covered or not.
pub zero_no_group : (side : Side) (l : ℕ) (τ : Entries) (g : Bits) → nonzero g ≡ false → ¬ (groups side l τ g)
zero_no_group side l τ g z h = subst (λ (b : Bool). T b) z ((groups_test side l τ g).0 h).0.1

same_there : (a b : Bool) → T (beq a b) → T a ↔ T b
same_there true true h = (λ t. t, λ t. t)
same_there true false h = absurd h
same_there false true h = absurd h
same_there false false h = (λ t. t, λ t. t)

same_back : (a b : Bool) → (T a → T b) → (T b → T a) → T (beq a b)
same_back true true f k = tt
same_back true false f k = f tt
same_back false true f k = k tt
same_back false false f k = tt

module _ (side : Side) (l : ℕ) (τ : Entries) where
  pub equal_exact : (ρ : Entries) → T (equal side l τ ρ) ↔ Equal (groups side l τ) (groups side l ρ)
  unfolding equal
  equal_exact ρ = Iff.trans (every_group_exact l (λ g. beq (stands_for side τ g) (stands_for side ρ g))) (there, back)
    where
      there : ((g : Bits) → Group l g → T (beq (stands_for side τ g) (stands_for side ρ g)))
          → Equal (groups side l τ) (groups side l ρ)
      there f g = (
        λ h. let k =
            (groups_test side l τ g).0 h in (groups_test side l ρ g).1
            (k.0, (same_there (stands_for side τ g) (stands_for side ρ g) (f g k.0)).0 k.1),
        λ h. let k =
            (groups_test side l ρ g).0 h in (groups_test side l τ g).1
            (k.0, (same_there (stands_for side τ g) (stands_for side ρ g) (f g k.0)).1 k.1),
      )

      back : Equal (groups side l τ) (groups side l ρ) → (g : Bits) → Group l g
          → T (beq (stands_for side τ g) (stands_for side ρ g))
      back f g gr =
          same_back (stands_for side τ g) (stands_for side ρ g)
          (λ h. ((groups_test side l ρ g).0 ((f g).0 ((groups_test side l τ g).1 (gr, h)))).1)
          (λ h. ((groups_test side l τ g).0 ((f g).1 ((groups_test side l ρ g).1 (gr, h)))).1)

  -- no group of the table passes the test
  none_exact : (p : Bits → Bool)
      → T (every_group l (λ g. not (stands_for side τ g && p g))) ↔ ((g : Bits) → groups side l τ g → ¬ (T (p g)))
  none_exact p =
      Iff.trans (every_group_exact l (λ g. not (stands_for side τ g && p g))) (
        λ f g h k.
            let s = (groups_test side l τ g).0 h in
            T_not (stands_for side τ g && p g) (f g s.0) (and_both (stands_for side τ g) (p g) s.1 k),
        λ f g gr.
            not_T (stands_for side τ g && p g)
            (λ k. f g ((groups_test side l τ g).1 (gr, and_first (stands_for side τ g) (p g) k))
            (and_second (stands_for side τ g) (p g) k)),
      )

  pub ground_exact : (x : ℕ) → T (ground side l τ x) ↔ Ground (groups side l τ) x
  unfolding ground
  ground_exact x = none_exact (λ g. has g x)

  pub independent_exact : (a b : Bits) → T (independent side l τ a b) ↔ Independent (groups side l τ) a b
  unfolding independent
  independent_exact a b =
      Iff.trans (none_exact (λ g. meets a g && meets b g)) (
        λ f g h k. f g h (and_both (meets a g) (meets b g) k.0 k.1),
        λ f g h k. f g h (and_first (meets a g) (meets b g) k, and_second (meets a g) (meets b g) k),
      )
