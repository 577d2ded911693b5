-- By definition.
use mathlib.Core.Path.{refl}
use Rattle.tables.specs.Values.{zero_table}
use Rattle.tables.proofs.Table.zero.Goals as goal

pub returns : goal.returns
unfolding zero_table
returns c = refl
