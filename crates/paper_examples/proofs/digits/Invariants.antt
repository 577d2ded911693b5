-- The digits stay 16.
use mathlib.Core.Path.{◌≡◌}
use lib.ListN.{length}
use Rattle.paper_examples.proofs.digits.Given as goal

abbrev pub invariant-loop-i : goal.invariant-loop-i
invariant-loop-i l = length l.out ≡ 16
