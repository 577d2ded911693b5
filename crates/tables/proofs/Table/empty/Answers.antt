-- The table of no entry has only zero words (`empty_table`).
use Rattle.tables.specs.Values.{of_width}
use Rattle.tables.proofs.Values.{empty_table}
use Rattle.tables.proofs.Table.empty.Goals as goal

pub returns : goal.returns
unfolding of_width
returns c = rw (c.of_zeros.ensures, empty_table)
