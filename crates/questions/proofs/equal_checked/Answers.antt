-- The loaded lists are the tables', of one width; the test of working lists is the model's.
use mathlib.Core.Path.{sym}
use Rattle.model.specs.Tables.{positive}
use Rattle.lists.proofs.Slices.{words_held, cut_length}
use Rattle.operations.proofs.Checked.{good_few, good_wide, good_list, held_as}
use Rattle.questions.proofs.equal_checked.Goals as goal

pub load-requires : goal.load-requires
load-requires c = good_few c.requires.0

pub load-requires-2 : goal.load-requires-2
load-requires-2 c = good_few c.requires.1

pub slice_bounds-equal-end : goal.slice_bounds-equal-end
slice_bounds-equal-end c = sym (cut_length (good_list c.requires.0 c.load.ensures))

pub slice_bounds-equal-end-2 : goal.slice_bounds-equal-end-2
slice_bounds-equal-end-2 c = sym (cut_length (good_list c.requires.1 c.load-2.ensures))

pub equal-requires : goal.equal-requires
equal-requires c = good_wide c.requires.0

pub returns : goal.returns
returns c =
    let g = c.requires in
    c.equal.ensures positive _ _ (words_held (good_list g.0 c.load.ensures))
    (words_held (held_as g.2 (good_list g.1 c.load-2.ensures)))
