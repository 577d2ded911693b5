-- The table of the one all-star entry has only zero words (`star_table`).
use Rattle.tables.specs.Values.{of_width}
use Rattle.tables.proofs.Values.{star_table}
use Rattle.tables.proofs.Table.all_star.Goals as goal

pub returns : goal.returns
unfolding of_width
returns c = rw (c.of_zeros.ensures, star_table)
