-- Loop: `need` terms are left from i on, and `set` with their variables is the whole set (`Left`); where none is left,
-- i is the end.
use Prim.Native.Nat.{ℕ, ◌-◌}
use lib.ListN.{length}
use Rattle.walks.specs.Cursors.{Across}
use Rattle.walks.proofs.Keeping.{Kept}
use Rattle.walks.proofs.Passing.{Left}
use Rattle.walks.proofs.pass.Given as goal

abbrev pub invariant-loop-need : goal.invariant-loop-need
invariant-loop-need l =
    Kept {X = ℕ × ℕ × ℕ} (λ x. Across x.0 l.ts l.at 1 x.1 x.2) (λ x. Left x.0 l.ts l.i l.need l.set x.1 x.2)

abbrev pub decreases-loop-need : goal.decreases-loop-need
decreases-loop-need l = length l.ts - l.i
