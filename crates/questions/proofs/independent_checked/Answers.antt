-- The loaded list is the table's; the test of each side on it is the model's, of the sets that the two words are.
use mathlib.Core.Path.{sym}
use Rattle.words.proofs.Codec.{set_length, set_word_set}
use Rattle.lists.proofs.Slices.{words_held, cut_length}
use Rattle.operations.proofs.Checked.{good_few, good_wide, good_list}
use Rattle.questions.proofs.independent_checked.Goals as goal

pub load-requires : goal.load-requires
load-requires c = good_few c.requires.0

pub independent_negative-requires : goal.independent_negative-requires
independent_negative-requires c = good_wide c.requires.0

pub slice_bounds-independent_positive-end : goal.slice_bounds-independent_positive-end
slice_bounds-independent_positive-end c = sym (cut_length (good_list c.requires.0 c.load.ensures))

pub slice_bounds-independent_negative-end : goal.slice_bounds-independent_negative-end
slice_bounds-independent_negative-end c = sym (cut_length (good_list c.requires.0 c.load.ensures))

pub returns-in-Positive : goal.returns-in-Positive
returns-in-Positive c =
    let g = c.requires in
    rw c.in-Positive.is
    (c.independent_positive.ensures _ _ _ _ (words_held (good_list g.0 c.load.ensures)) (set_length _ _) (set_length _ _)
    (sym (set_word_set _ _ g.1)) (sym (set_word_set _ _ g.2)))

pub returns-in-Negative : goal.returns-in-Negative
returns-in-Negative c =
    let g = c.requires in
    rw c.in-Negative.is
    (c.independent_negative.ensures _ _ _ (words_held (good_list g.0 c.load.ensures)) (set_length _ _) (set_length _ _)
    (sym (set_word_set _ _ g.1)) (sym (set_word_set _ _ g.2)))
