-- (l + 4) / 5, as the definition says; l is small enough that nothing wraps.
use borrow.Author.Rules.{rules}
use Rattle.packing.specs.Packing.{row_length}
use Rattle.packing.proofs.row_length.Goals as goal

pub returns : goal.returns
unfolding row_length
returns c = search rules
