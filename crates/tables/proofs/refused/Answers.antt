-- By definition, with the table that `zero` makes.
use Rattle.tables.proofs.refused.Goals as goal

pub returns : goal.returns
returns c = rw c.zero.ensures
