-- One return for each kind: the table as given, the list of no groups, or what `equation_list` makes of the table's list.
use Rattle.model.specs.Terms.{var}
use Rattle.model.specs.Equations.{equation_of_kind}
use Rattle.model.proofs.Variables.{variables_length}
use Rattle.tables.specs.Values.{made_or_full}
use Rattle.lists.specs.Comings.{counted}
use Rattle.operations.proofs.Checked.{good_few, good_wide, good_list}
use Rattle.operations.proofs.OfKinds.{by_kind}
use Rattle.lists.proofs.TableValues.{good_stayed}
use Rattle.operations.proofs.equation_read.Goals as goal

pub load-requires : goal.load-requires
load-requires c = good_few c.requires

pub equation_list-requires : goal.equation_list-requires
equation_list-requires c = let g = c.requires in (good_few g, good_wide g)

pub came_of-requires : goal.came_of-requires
came_of-requires c = c.equation_list.ensures.within

pub returns-in-Itself : goal.returns-in-Itself
unfolding equation_of_kind made_or_full
returns-in-Itself c =
    record {
      bounded = tt;
      comes = λ q t. rw (by_kind _ _ t c.in-Itself.is) (good_stayed c.requires _);
    }

pub returns-in-Deeper : goal.returns-in-Deeper
unfolding equation_of_kind made_or_full
returns-in-Deeper c =
    let none = c.no_groups_list.ensures in record {
      bounded = none.few;
      comes = λ q t. rw (by_kind _ _ t c.in-Deeper.is) (counted (none.made _ (good_wide c.requires)));
    }

pub returns-in-Plain : goal.returns-in-Plain
unfolding equation_of_kind
returns-in-Plain c =
    let held = good_list c.requires c.load.ensures in record {
      bounded = c.came_of.ensures.bounded;
      comes = λ q t. rw (by_kind _ _ t c.in-Plain.is)
          (c.came_of.ensures.comes _ _ _ _
          (c.equation_list.ensures.made _ _ _ held (variables_length _ (var _)) (variables_length _ q.right)
          t.left_set t.right_set));
    }
