-- The three questions (01, "Questions"), as statements over groups and as tests over all groups of l positions.
use Rattle.std.specs.Prelude.{Bool, true, false, not, ◌&&◌, ◌||◌, [], ◌∷◌, ◌↔◌, ℕ, zero, suc, T}
use Rattle.std.specs.Bool.{beq}
use Rattle.model.specs.Groups.{Bits, Groups, nonzero, has, meets}
use Rattle.model.specs.Growth.{Entries, covered}
use Rattle.model.specs.Tables.{Side, positive, negative}

-- Two tables are equal in groups.
abbrev pub Equal : Groups → Groups → Type 0
Equal S R = (g : Bits) → S g ↔ R g

-- A variable is ground: no group has it.
abbrev pub Ground : Groups → ℕ → Type 0
Ground S x = (g : Bits) → S g → ¬ (T (has g x))

-- Two sets of variables are independent: no group meets both.
abbrev pub Independent : Groups → Bits → Bits → Type 0
Independent S a b = (g : Bits) → S g → ¬ (T (meets a g) × T (meets b g))

-- The test holds of every string of 0 and 1 of l positions.
unfoldable pub every : ℕ → (Bits → Bool) → Bool
every zero p = p []
every (suc l) p = every l (λ g. p (false ∷ g)) && every l (λ g. p (true ∷ g))

-- The test holds of every group of l positions.
unfoldable pub every_group : ℕ → (Bits → Bool) → Bool
every_group l p = every l (λ g. not (nonzero g) || p g)

-- The table stands for the group g.
unfoldable pub stands_for : Side → Entries → Bits → Bool
stands_for positive τ g = covered τ g
stands_for negative τ g = not (covered τ g)

-- The test of equality in groups.
unfoldable pub equal : Side → ℕ → Entries → Entries → Bool
equal side l τ ρ = every_group l (λ g. beq (stands_for side τ g) (stands_for side ρ g))

-- The test that the variable x is ground.
unfoldable pub ground : Side → ℕ → Entries → ℕ → Bool
ground side l τ x = every_group l (λ g. not (stands_for side τ g && has g x))

-- The test that the sets a and b are independent.
unfoldable pub independent : Side → ℕ → Entries → Bits → Bits → Bool
independent side l τ a b = every_group l (λ g. not (stands_for side τ g && (meets a g && meets b g)))
