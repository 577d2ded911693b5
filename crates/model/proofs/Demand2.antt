-- Demand 2. Wherever a procedure gives a table, its groups are exactly those of the binary definition, none lost and none
-- added; and that table is good again, and a grown list: after an equation and a join where the table given was one, since
-- x = x and a join keep its entries. Assumes nothing.
use mathlib.Core.Path.{◌≡◌}
use mathlib.Core.List.{List}
use mathlib.Core.Option.{some}
use Prim.Native.Nat.{ℕ, ◌<◌}
use lib.ListN.{length}
use Rattle.model.specs.Groups.{Bits, Projected, Joined, Listed}
use Rattle.model.specs.Growth.{Entries, convert, Reduced}
use Rattle.model.specs.Tables.{Side, positive, opposite, Good, groups, change_side, kept, join, projection}
use Rattle.model.specs.Questions.{Equal}
use Rattle.model.specs.Equations.{Equation, After, equation}
use Rattle.model.proofs.Given.{Each, given_at}
use Rattle.model.proofs.Exact.{good_shape, reduced_shape, shape_good, equation_made, join_made, change_made}
use Rattle.model.proofs.Exact.{projection_made, convert_made}

-- ---- Equation, of either side

module _ (side : Side) (l : ℕ) (e : Equation) (τ ρ : Entries) (good : Good l τ) (gives : equation side l e τ ≡ some ρ) where
  pub equation_exact : Equal (groups side l ρ) (After e (groups side l τ))
  equation_exact = (given_at (equation_made side l e τ good) ρ gives).equal

  pub equation_good : Good l ρ
  equation_good = shape_good (given_at (equation_made side l e τ good) ρ gives).shape

  pub equation_reduced : 0 < l → Reduced τ → Reduced ρ
  equation_reduced h r = (given_at (equation_made side l e τ good) ρ gives).shape.reduced (h, r)

-- ---- Join, of either side

module _ (side : Side) (l : ℕ) (τ υ ρ : Entries) (good_τ : Good l τ) (good_υ : Good l υ) (gives : join side τ υ ≡ some ρ) where
  pub join_exact : Equal (groups side l ρ) (Joined (groups side l τ) (groups side l υ))
  join_exact = (given_at (join_made side l τ υ (good_shape good_τ) good_υ.wide) ρ gives).equal

  pub join_good : Good l ρ
  join_good = shape_good (given_at (join_made side l τ υ (good_shape good_τ) good_υ.wide) ρ gives).shape

  pub join_reduced : Reduced τ → Reduced ρ
  join_reduced r = (given_at (join_made side l τ υ (reduced_shape good_τ r) good_υ.wide) ρ gives).shape.reduced tt

-- ---- Projection, of either side

module _ (side : Side) (l : ℕ) (k : Bits) (τ ρ : Entries) (len : length k ≡ l) (good : Good l τ)
    (gives : projection side l k τ ≡ some ρ) where
  pub projection_exact : Equal (groups side (kept k) ρ) (Projected k (groups side l τ))
  projection_exact = (given_at (projection_made side l k τ len good.wide) ρ gives).equal

  pub projection_good : Good (kept k) ρ
  projection_good = shape_good (given_at (projection_made side l k τ len good.wide) ρ gives).shape

  pub projection_reduced : 0 < kept k → Reduced ρ
  projection_reduced = (given_at (projection_made side l k τ len good.wide) ρ gives).shape.reduced

-- ---- Change of side: exactly the same groups on the other side

module _ (side : Side) (l : ℕ) (τ ρ : Entries) (gives : change_side l τ ≡ some ρ) where
  pub change_exact : Equal (groups (opposite side) l ρ) (groups side l τ)
  change_exact = (given_at (change_made side l τ) ρ gives).equal

  pub change_good : Good l ρ
  change_good = shape_good (given_at (change_made side l τ) ρ gives).shape

  pub change_reduced : 0 < l → Reduced ρ
  change_reduced = (given_at (change_made side l τ) ρ gives).shape.reduced

-- ---- Convert

module _ (l : ℕ) (gs : List Bits) (ρ : Entries) (lens : Each (λ (g : Bits). length g ≡ l) gs) (gives : convert gs ≡ some ρ) where
  pub convert_exact : Equal (groups positive l ρ) (Listed l gs)
  convert_exact = (given_at (convert_made l gs lens) ρ gives).equal

  pub convert_good : Good l ρ × Reduced ρ
  convert_good = let s = (given_at (convert_made l gs lens) ρ gives).shape in (shape_good s, s.reduced tt)
