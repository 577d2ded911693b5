-- A refusal of the check is returned as it is; else the loaded list is the table's, and one procedure serves both sides.
use mathlib.Core.Path.{sym, ◌∙◌}
use Rattle.tables.specs.Values.{GoodTable}
use Rattle.tables.specs.Refusals.{if_accepted}
use Rattle.operations.specs.Operations.{change_side_call}
use Rattle.operations.proofs.Checked.{good_few, good_wide, good_list}
use Rattle.operations.proofs.change_side.Goals as goal
use Rattle.operations.proofs.change_side.Goals.{In-Ok}

-- the table is good
checked : (c : In-Ok) → GoodTable c.args.t
checked c = c.check.ensures.good.0 c.in-Ok.is

pub load-requires : goal.load-requires
load-requires c = good_few (checked (goal.at.load-requires c).In-Ok)

pub change_side_lent-g-requires : goal.change_side_lent-g-requires
change_side_lent-g-requires c = let g = checked (goal.at.change_side_lent-g-requires c).In-Ok in (good_few g, good_wide g)

pub made_or_full-requires : goal.made_or_full-requires
made_or_full-requires c = c.change_side_lent-g.ensures.within

pub returns-in-Err : goal.returns-in-Err
unfolding change_side_call if_accepted
returns-in-Err c =
    rw (c.refused.ensures, sym c.check.ensures.answer ∙ c.in-Err.is)

pub returns-in-Ok : goal.returns-in-Ok
unfolding change_side_call if_accepted
returns-in-Ok c =
    rw (sym c.check.ensures.answer ∙ c.in-Ok.is)
    (c.made_or_full.ensures _ (c.change_side_lent-g.ensures.made _ (good_list (checked (goal.at.returns-in-Ok c).In-Ok) c.load.ensures)))
