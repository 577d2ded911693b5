-- Loop: the walk from a and from as far behind j on gives what it gives from i and j on (`rest_down`). It leaves the loop at
-- the first variable, of the left row before the right one, at two heads that differ, or at the end of both rows.
use Rattle.std.proofs.Common.{ℕ, ◌+◌, ◌-◌}
use Rattle.model.specs.Walk.{Walked}
use Rattle.walks.specs.Cursors.{Rest}
use Rattle.walks.proofs.Keeping.{Kept}
use Rattle.walks.proofs.next.Given as goal

abbrev pub invariant-loop-a : goal.invariant-loop-a
invariant-loop-a l = Kept {X = ℕ × Walked} (λ x. Rest x.0 l.left l.right l.i l.j x.1)
    (λ x. Rest x.0 l.left l.right l.a (l.j + (l.a - l.i)) x.1)
