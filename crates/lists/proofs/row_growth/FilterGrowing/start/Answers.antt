use Rattle.lists.proofs.Absorption.{filter_start}
use Rattle.lists.proofs.row_growth.FilterGrowing.start.Goals as goal

pub returns : goal.returns
returns c = λ τ. filter_start τ c.requires c.zero.ensures.words
