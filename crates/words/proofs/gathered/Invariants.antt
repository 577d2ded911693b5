-- Loop (`GatheredSoFar`): `out` has the chosen bits below i, and with those from i on they are the whole.
use Rattle.words.proofs.GatheredBits.{GatheredSoFar}
use Rattle.words.proofs.gathered.Given as goal

abbrev pub invariant-loop-i : goal.invariant-loop-i
invariant-loop-i l = GatheredSoFar l.keep l.w l.out l.at l.i
