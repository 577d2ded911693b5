-- By definition: all meets.
use Rattle.model.specs.Tables.{join}
use Rattle.candidates.specs.Pairs.{pairs_of}
use Rattle.procedures.proofs.projections.join_negative.Goals as goal

pub returns : goal.returns
unfolding join pairs_of
returns c = record { within = c.pairs.ensures.within; made = c.pairs.ensures.made }
