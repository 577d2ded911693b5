-- The table follows its rule at every word of five bits, a test that the checker computes (`at`).
use Rattle.packing.specs.Packing.{powers}
use Rattle.packing.proofs.Tables.{at}
use Rattle.packing.proofs.digits.powers.Goals as goal

pub returns : goal.returns
unfolding powers
returns c = rw (at (powers 5), tt {0}, c.requires)
