-- What came of the call on the lent table, as an answer.
use Rattle.operations.proofs.equation_checked.Goals as goal

pub equation_parts-c-requires : goal.equation_parts-c-requires
equation_parts-c-requires c = c.requires

pub answered-requires : goal.answered-requires
answered-requires c = c.equation_parts-c.ensures.bounded

pub returns : goal.returns
returns c = c.answered.ensures _ c.equation_parts-c.ensures.comes
