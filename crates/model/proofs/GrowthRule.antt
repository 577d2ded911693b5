-- The growth rule as a reader meets it: what a grown list covers. Nothing of the groups moves by widening. Widening alone is
-- `widen_exact` of Growth; what a grown list is, and that it is kept, `regrown_exact` and `grow_reduced` of Shape; "full"
-- `full_exact` and `never_full` of Overflow. Assumes nothing.
use mathlib.Core.Path.{◌≡◌}
use mathlib.Core.Bool.{◌||◌}
use mathlib.Core.List.{List}
use mathlib.Core.Option.{some}
use lib.Dec.{T}
use Rattle.model.specs.Groups.{Bits, nonzero}
use Rattle.model.specs.Strings.{Trits, covers}
use Rattle.model.specs.Growth.{Entries, covered, grow, grow_all}
use Rattle.model.proofs.Given.{given_at}
use Rattle.model.proofs.Growth.{grow_by_one, grow_all_by}

-- Wherever grow gives a list, a group is covered by it exactly when it was covered before or y covers it.
pub grow_exact : (τ : Entries) (y : Trits) (ρ : Entries) → grow τ y ≡ some ρ → (g : Bits) → T (nonzero g)
    → covered ρ g ≡ (covered τ g || covers y g)
grow_exact τ y ρ e = (given_at (grow_by_one τ y) ρ e).exact

-- The same for several strings in turn.
pub grow_all_exact : (τ : Entries) (ys : List Trits) (ρ : Entries) → grow_all τ ys ≡ some ρ → (g : Bits) → T (nonzero g)
    → covered ρ g ≡ (covered τ g || covered ys g)
grow_all_exact τ ys ρ e = (given_at (grow_all_by τ ys) ρ e).exact
