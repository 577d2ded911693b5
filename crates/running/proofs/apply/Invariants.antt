-- From each place on, the run of the equations that are left gives the whole run (`SoFar`); a turn goes one equation on.
use Prim.Native.Nat.{◌-◌}
use Rattle.running.proofs.Applying.{SoFar}
use Rattle.running.proofs.apply.Given as goal

abbrev pub invariant-loop-f : goal.invariant-loop-f
invariant-loop-f l = SoFar l.f l.side l.q l.initial.u l.u l.c

abbrev pub decreases-loop-f : goal.decreases-loop-f
decreases-loop-f l = l.c.e - l.c.k
