-- By definition.
use mathlib.Core.Path.{refl}
use Rattle.tables.specs.Values.{good_width}
use Rattle.tables.proofs.good_width.Goals as goal

pub returns : goal.returns
unfolding good_width
returns c = refl
