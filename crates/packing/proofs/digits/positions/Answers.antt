-- The rule of the table, at this byte.
use borrow.Author.Rules.{rules}
use Rattle.packing.proofs.digits.positions.Goals as goal

pub returns : goal.returns
returns c = c.requires c.args.b (search rules)
