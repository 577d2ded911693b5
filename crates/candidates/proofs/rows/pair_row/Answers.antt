-- By the operation: what `or_row` or `meet_row` makes.
use Rattle.candidates.specs.Pairs.{row_of}
use Rattle.candidates.proofs.rows.pair_row.Goals as goal

pub returns-in-Or : goal.returns-in-Or
unfolding row_of
returns-in-Or c =
    record {
      few = c.requires;
      made = λ l τ s. rw c.in-Or.is (c.or_row.ensures l τ s);
    }

pub returns-in-Meet : goal.returns-in-Meet
unfolding row_of
returns-in-Meet c =
    record {
      few = c.meet_row.ensures.few;
      made = λ l τ s. rw c.in-Meet.is (c.meet_row.ensures.made l τ s);
    }
