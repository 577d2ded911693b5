-- What came of the call on the lent table, as an answer.
use Rattle.operations.proofs.unify_checked.Goals as goal

pub unify_parts-c-requires : goal.unify_parts-c-requires
unify_parts-c-requires c = c.requires

pub answered-requires : goal.answered-requires
answered-requires c = c.unify_parts-c.ensures.bounded

pub returns : goal.returns
returns c = c.answered.ensures _ c.unify_parts-c.ensures.comes
