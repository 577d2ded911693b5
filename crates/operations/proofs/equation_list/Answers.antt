-- Each side is one procedure, which promises what the definition says of that side.
use Rattle.model.specs.Tables.{equation_of_sets}
use Rattle.operations.proofs.equation_list.Goals as goal

pub returns-in-Positive : goal.returns-in-Positive
unfolding equation_of_sets
returns-in-Positive c =
    record {
      within = c.positive_in_place.ensures.within;
      made = λ τ x t h ex et ix it. rw c.in-Positive.is (c.positive_in_place.ensures.made τ x t h ex et ix it);
    }

pub returns-in-Negative : goal.returns-in-Negative
unfolding equation_of_sets
returns-in-Negative c =
    record {
      within = c.negative_in_place.ensures.within;
      made = λ τ x t h ex et ix it. rw c.in-Negative.is (c.negative_in_place.ensures.made τ x t h ex et ix it);
    }
