-- Of the groups that e covers the greatest meets each set that any meets; it has 0 just where e has (`joins_word`).
use Rattle.covering.proofs.FirstVariables.{joins_word}
use Rattle.covering.proofs.independence.joins.Goals as goal

pub returns : goal.returns
returns c =
    λ s x y short n m e a b.
    joins_word s x y _ _ _ short n m e a b
