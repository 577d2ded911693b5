-- What came of the call on the lent table, as an answer.
use Rattle.byte_calls.proofs.equation_term.Goals as goal

pub answered-requires : goal.answered-requires
answered-requires c = c.equation_parts-came.ensures.bounded

pub returns : goal.returns
returns c = c.answered.ensures _ c.equation_parts-came.ensures.comes
