-- Loop: the walk from the cursors on clashes where the whole walk does (`clash_found`); each equation found leads
-- further on.
use mathlib.Core.Path.{◌≡◌}
use Prim.Native.Nat.{ℕ, ◌+◌, ◌-◌}
use lib.ListN.{length}
use Rattle.model.specs.Walk.{Walked}
use Rattle.walks.specs.Cursors.{Rest, clash}
use Rattle.walks.proofs.Keeping.{Kept}
use Rattle.walks.proofs.clashes.Given as goal

abbrev pub invariant-loop-i : goal.invariant-loop-i
invariant-loop-i l = Kept {X = ℕ × Walked} (λ x. Rest x.0 l.left l.right 0 0 x.1)
    (λ x. (p : Walked) × Rest x.0 l.left l.right l.at_left l.at_right p × clash x.1 ≡ clash p)

abbrev pub decreases-loop-i : goal.decreases-loop-i
decreases-loop-i l = length l.left + length l.right - (l.at_left + l.at_right)
