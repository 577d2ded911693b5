-- Each side is one procedure, which promises what the definition says of that side.
use Rattle.operations.proofs.join_list.Goals as goal

pub returns-in-Positive : goal.returns-in-Positive
returns-in-Positive c =
    let p = c.join_positive.ensures in
    record {
      within = p.within;
      made = λ α β h b. rw c.in-Positive.is (p.made α β h b);
    }

pub returns-in-Negative : goal.returns-in-Negative
returns-in-Negative c =
    let p = c.join_negative.ensures in
    record {
      within = p.within;
      made = λ α β h b. rw c.in-Negative.is (p.made α β h b);
    }
