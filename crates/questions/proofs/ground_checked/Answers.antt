-- The loaded list is the table's; the test of each side on it is the model's.
use mathlib.Core.Path.{sym}
use native.Mathlib.Omega.{arith}
use Rattle.lists.proofs.Slices.{words_held, cut_length}
use Rattle.operations.proofs.Checked.{good_few, good_wide, good_list}
use Rattle.questions.proofs.ground_checked.Goals as goal

pub load-requires : goal.load-requires
load-requires c = good_few c.requires.0

pub ground_positive-requires : goal.ground_positive-requires
ground_positive-requires c =
    let g = c.requires in
    (g.1, omega (arith, good_wide g.0, g.2))

pub ground_negative-requires : goal.ground_negative-requires
ground_negative-requires c =
    let g = c.requires in
    (g.1, g.2, good_wide g.0)

pub slice_bounds-ground_positive-end : goal.slice_bounds-ground_positive-end
slice_bounds-ground_positive-end c = sym (cut_length (good_list c.requires.0 c.load.ensures))

pub slice_bounds-ground_negative-end : goal.slice_bounds-ground_negative-end
slice_bounds-ground_negative-end c = sym (cut_length (good_list c.requires.0 c.load.ensures))

pub returns-in-Positive : goal.returns-in-Positive
returns-in-Positive c =
    let g = c.requires in
    rw c.in-Positive.is
    (c.ground_positive.ensures _ _ (words_held (good_list g.0 c.load.ensures)) g.2)

pub returns-in-Negative : goal.returns-in-Negative
returns-in-Negative c =
    let g = c.requires in
    rw c.in-Negative.is (c.ground_negative.ensures _ (words_held (good_list g.0 c.load.ensures)))
