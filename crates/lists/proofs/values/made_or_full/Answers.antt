-- What came of the list, as an answer.
use Rattle.lists.proofs.values.made_or_full.Goals as goal

pub returns : goal.returns
returns c = λ o made. c.answered.ensures _ (c.came_of.ensures.comes _ _ _ o made)
