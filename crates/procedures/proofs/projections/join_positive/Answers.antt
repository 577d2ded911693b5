-- By definition: the first list grown by the second.
use Rattle.model.specs.Tables.{join}
use Rattle.procedures.proofs.projections.join_positive.Goals as goal

pub returns : goal.returns
unfolding join
returns c = record { within = c.grow_each.ensures.within; made = c.grow_each.ensures.made }
