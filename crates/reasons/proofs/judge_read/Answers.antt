-- The group's checks come first; then the loaded list is the table's, and s is the word of a set of l variables.
use mathlib.Core.Path.{sym}
use native.Mathlib.Omega.{arith}
use Rattle.std.proofs.lemmas.Result.{err_from_is_err_and}
use Rattle.tables.specs.Refusals.{if_accepted}
use Rattle.words.proofs.Codec.{set_length, set_word_set}
use Rattle.lists.proofs.Slices.{words_held, cut_length}
use Rattle.operations.proofs.Checked.{good_few, good_wide, good_list}
use Rattle.reasons.specs.Verdicts.{group_call}
use Rattle.reasons.proofs.Verdicts.{group_below}
use Rattle.reasons.proofs.judge_read.Goals as goal

pub check_group-requires : goal.check_group-requires
check_group-requires c = good_wide c.requires

pub load-requires : goal.load-requires
load-requires c = good_few c.requires

pub slice_bounds-told-end : goal.slice_bounds-told-end
slice_bounds-told-end c = sym (cut_length (good_list c.requires c.load.ensures))

pub told-requires : goal.told-requires
told-requires c =
    let g = c.requires in
    let held = good_list g c.load.ensures in
    (omega (arith, cut_length held, good_few g), good_wide g)

pub returns-in_err-check_group : goal.returns-in_err-check_group
unfolding group_call if_accepted
returns-in_err-check_group c =
    λ q t.
    let p = err_from_is_err_and c.from_residual.result c.from_residual.ensures.1 in
    rw (p.1, p.2, sym c.in_err-check_group.ensures)

pub returns : goal.returns
unfolding group_call if_accepted
returns c =
    λ q t.
    let ok = sym c.in_ok-check_group.ensures in
    rw ok
    (c.told.ensures _ q _ (words_held (good_list c.requires c.load.ensures)) t (set_length _ _)
    (sym (set_word_set _ _ (group_below c.args.t.l c.args.s ok).0)))
