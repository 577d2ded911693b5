-- The check and the test of the set come in the order of the definition; the bits of the set are the new width.
use mathlib.Core.Path.{◌≡◌, sym, ap, ◌∙◌}
use mathlib.Core.Bool.{false}
use lib.Count.{ones}
use Rattle.words.proofs.Codec.{set_length, set_word_set}
use Rattle.tables.specs.Values.{GoodTable}
use Rattle.candidates.proofs.Sets.{kept_ones}
use Rattle.tables.specs.Refusals.{if_accepted}
use Rattle.operations.specs.Operations.{good_keep, projected, projection_call}
use Rattle.operations.proofs.Checked.{good_few, good_wide, good_list, keep_test, keep_below}
use Rattle.operations.proofs.project.Goals as goal
use Rattle.operations.proofs.project.Goals.{In-Ok}

-- the table is good
checked : (c : In-Ok) → GoodTable c.args.t
checked c = c.check.ensures.good.0 c.in-Ok.is

pub full-requires : goal.full-requires
full-requires c = good_wide (checked (goal.at.full-requires c).In-Ok)

pub returns-then-not-keep-full : goal.returns-then-not-keep-full
unfolding projection_call if_accepted projected
returns-then-not-keep-full c =
    let a = c.args in
    let k : good_keep a.t.l a.keep ≡ false =
    sym (keep_test _ _ _ c.full.ensures) ∙ c.if-not-keep-full.true in
    rw (
      c.refused-then-not-keep-full.ensures,
      sym c.check.ensures.answer ∙ c.in-Ok.is,
      k,
    )

pub load-requires : goal.load-requires
load-requires c = good_few (checked (goal.at.load-requires c).In-Ok)

pub projection_list-g-requires : goal.projection_list-g-requires
projection_list-g-requires c =
    let g = checked (goal.at.projection_list-g-requires c).In-Ok in
    (good_few g, good_wide g)

pub made_or_full-requires : goal.made_or_full-requires
made_or_full-requires c = c.projection_list-g.ensures.within

pub returns-in-Err : goal.returns-in-Err
unfolding projection_call if_accepted projected
returns-in-Err c =
    rw (c.refused.ensures, sym c.check.ensures.answer ∙ c.in-Err.is)

pub returns-else-not-keep-full : goal.returns-else-not-keep-full
unfolding projection_call if_accepted projected
returns-else-not-keep-full c =
    let k = sym (keep_test _ _ _ c.full.ensures) ∙ c.if-not-keep-full.false in
    let below = set_word_set _ _ (keep_below _ _ k) in
    let given = good_list (checked (goal.at.returns-else-not-keep-full c).In-Ok) c.load.ensures in
    let makes = c.projection_list-g.ensures.made _ _ given (set_length _ _) (sym below) in
    rw (sym c.check.ensures.answer ∙ c.in-Ok.is, k)
    (rw (ap ones (sym below) ∙ kept_ones _) at c.made_or_full.ensures _ makes)
