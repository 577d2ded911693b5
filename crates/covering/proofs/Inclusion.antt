-- One list within another, entry by entry, and equality as inclusion both ways. Assumes nothing.
use mathlib.Core.Bool.{Bool, true, false, not, ◌&&◌, ◌||◌, beq}
use mathlib.Core.List.{[], ◌∷◌}
use mathlib.Core.Path.{◌≡◌, refl, sym, ◌∙◌}
use Prim.Native.Nat.{ℕ, suc, ◌+◌, ◌<◌}
use native.Mathlib.Numerals.{add-one}
use lib.ListN.{length, get_or, drop}
use lib.Seq.{drop-cons, drop-length}
use Rattle.model.specs.Strings.{Trits, covers}
use Rattle.model.specs.Growth.{Entries, covered}
use Rattle.model.specs.Questions.{stands_for, equal}
use Rattle.model.specs.Tables.{Side, positive, negative}
use Rattle.covering.specs.Covering.{all_covered, within}
use Rattle.covering.proofs.EveryGroup.{group_true, group_ext, group_and}
use Rattle.covering.proofs.Pieces.{imply_or}

-- the empty list is within any
within_nil : (l : ℕ) (ρ : Entries) → within l [] ρ ≡ true
unfolding within covered
within_nil l ρ = group_true l _ (λ g e o. refl)

-- a list is within another where its first entry and the others are
within_cons : (l : ℕ) (ρ : Entries) (s : Trits) (τ : Entries) → within l (s ∷ τ) ρ ≡ (all_covered l ρ s && within l τ ρ)
unfolding within all_covered covered
within_cons l ρ s τ = group_ext l _ _ (λ g _. imply_or (covers s g) (covered τ g) (covered ρ g)) ∙ group_and l _ _

-- the entry at i decides, or what comes after it
pub within_next : (l : ℕ) (ρ τ : Entries) (i : ℕ) → i < length τ → (b : Bool) → b ≡ all_covered l ρ (get_or τ i [])
    → within l (drop i τ) ρ ≡ (b && within l (drop (i + 1) τ) ρ)
within_next l ρ τ i n b e = rw (e, add-one i, drop-cons τ i [] n) (within_cons l ρ (get_or τ i []) (drop (suc i) τ))

-- after the last entry nothing is left
pub within_end : (l : ℕ) (ρ τ : Entries) (i : ℕ) → i ≡ length τ → within l (drop i τ) ρ ≡ true
within_end l ρ τ i e = rw (e, drop-length τ) (within_nil l ρ)

-- each follows from the other where they are equal
same_imply : (p q : Bool) → ((not p || q) && (not q || p)) ≡ beq p q
same_imply true true = refl
same_imply true false = refl
same_imply false true = refl
same_imply false false = refl

-- tests are equal where their opposites are
same_not : (p q : Bool) → beq p q ≡ beq (not p) (not q)
same_not true true = refl
same_not true false = refl
same_not false true = refl
same_not false false = refl

-- On either side, two lists stand for the same groups exactly when each is within the other.
pub equal_within : (side : Side) (l : ℕ) (τ ρ : Entries) → (within l τ ρ && within l ρ τ) ≡ equal side l τ ρ
unfolding within equal stands_for
equal_within positive l τ ρ = sym (group_and l _ _) ∙ group_ext l _ _ (λ g _. same_imply (covered τ g) (covered ρ g))
equal_within negative l τ ρ =
    sym (group_and l _ _)
    ∙ group_ext l _ _ (λ g _. same_imply (covered τ g) (covered ρ g) ∙ same_not (covered τ g) (covered ρ g))
