-- From each place on, the checks of the equations that are left give those of all (`SoFar`); a turn goes one equation on.
use Prim.Native.Nat.{◌-◌}
use Rattle.equation_forms.proofs.EachEquation.{SoFar}
use Rattle.equation_forms.proofs.check_each.Given as goal

abbrev pub invariant-loop-f : goal.invariant-loop-f
invariant-loop-f l = SoFar l.f l.l l.b l.c

abbrev pub decreases-loop-f : goal.decreases-loop-f
decreases-loop-f l = l.c.e - l.c.k
