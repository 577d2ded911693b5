-- The loaded lists are the tables', of one width; what `join_list` makes of them is made a table, or is full.
use Rattle.operations.proofs.Checked.{good_few, good_wide, good_list, held_as}
use Rattle.operations.proofs.join_checked.Goals as goal

pub load-requires : goal.load-requires
load-requires c = good_few c.requires.0

pub load-requires-2 : goal.load-requires-2
load-requires-2 c = good_few c.requires.1

pub join_list-g-requires : goal.join_list-g-requires
join_list-g-requires c =
    let g = c.requires in
    (good_few g.0, good_few g.1, good_wide g.0)

pub made_or_full-requires : goal.made_or_full-requires
made_or_full-requires c = c.join_list-g.ensures.within

pub returns : goal.returns
returns c =
    let g = c.requires in
    c.made_or_full.ensures _
    (c.join_list-g.ensures.made _ _ (good_list g.0 c.load.ensures)
    (held_as g.2 (good_list g.1 c.load-2.ensures)))
