-- Loop (`RowsSoFar`): the rows of the entries before the index are grown; row by row is all of them in order.
use Prim.Native.Nat.{◌≤◌}
use Rattle.lists.proofs.SoFar.{Any}
use Rattle.candidates.specs.declared.Pairing.TheVariants.{Meet}
use Rattle.candidates.proofs.RowsGrown.{OnesOf, RowsSoFar}
use Rattle.candidates.proofs.pairs.relevant_by_entry.Given as goal

abbrev pub invariant-loop-e : goal.invariant-loop-e
invariant-loop-e l = (l.n ≤ 256) × RowsSoFar Meet l.l l.t l.tn (OnesOf l.l l.m) Any l.list l.n l.e-index
