-- The table follows its rule at every byte, a test that the checker computes (`at`); the list is found in the goal.
use Rattle.words.specs.Words.{care_of, value_of}
use Rattle.packing.specs.Packing.{positions, table_number}
use Rattle.packing.proofs.Tables.{at}
use Rattle.packing.proofs.digits.table.Goals as goal

pub returns : goal.returns
unfolding positions care_of value_of
returns c b h = rw (at table_number, tt {0}, h)
