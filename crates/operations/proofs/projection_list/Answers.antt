-- Each side is one procedure, which promises what the definition says of that side.
use Rattle.model.specs.Tables.{projection}
use Rattle.operations.proofs.projection_list.Goals as goal

pub returns-in-Positive : goal.returns-in-Positive
unfolding projection
returns-in-Positive c =
    let p = c.positive.ensures in
    record {
      within = p.within;
      made = λ k τ h e is. rw c.in-Positive.is (p.made k τ (rw e h) is);
    }

pub returns-in-Negative : goal.returns-in-Negative
returns-in-Negative c =
    let p = c.negative.ensures in
    record {
      within = p.within;
      made = λ k τ h e is. rw c.in-Negative.is (p.made k τ h e is);
    }
