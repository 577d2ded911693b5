-- From each place on, the run that is left gives the whole run, and the text of it completes the whole text (`SoFar`).
use Prim.Native.Nat.{◌-◌}
use Rattle.text.proofs.RunByEquations.{SoFar}
use Rattle.text.proofs.runs.write_run.Given as goal

abbrev pub invariant-loop-pass : goal.invariant-loop-pass
invariant-loop-pass l = SoFar l.pass l.q l.initial.u l.initial.out l.initial.end l.out l.end l.u l.c

abbrev pub decreases-loop-pass : goal.decreases-loop-pass
decreases-loop-pass l = l.c.e - l.c.k
