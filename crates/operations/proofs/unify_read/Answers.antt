-- A walk that clashes gives the list that stands for no groups; any other has a list of found equations, which are
-- applied to the table's list.
use mathlib.Core.Path.{sym, ◌∙◌}
use Rattle.model.specs.Unification.{walk_entries}
use Rattle.tables.specs.Values.{made_or_full}
use Rattle.lists.specs.Comings.{counted}
use Rattle.walks.proofs.Consuming.{clashed, unclashed}
use Rattle.operations.proofs.Checked.{good_few, good_wide, good_list}
use Rattle.operations.proofs.unify_read.Goals as goal

pub clashes-requires : goal.clashes-requires
clashes-requires c = let p = c.requires in (_, p.1.0, p.1.1)

pub returns-then-clashes : goal.returns-then-clashes
unfolding made_or_full walk_entries
returns-then-clashes c =
    let none = c.no_groups_list.ensures in record {
      bounded = none.few;
      comes = λ o r. rw (clashed o (sym (c.clashes.ensures _ o r) ∙ c.if-clashes.true))
          (counted (none.made _ (good_wide c.requires.0)));
    }

pub load-requires : goal.load-requires
load-requires c = good_few c.requires.0

pub apply_found-requires : goal.apply_found-requires
apply_found-requires c =
    let p = c.requires in
    let u = unclashed _ p.1.1 (sym (c.clashes.ensures _ _ p.1.1) ∙ c.if-clashes.false) in
    (good_few p.0, good_wide p.0, ((_, u.0), (good_list p.0 c.load.ensures, u.2)))

pub came_of-requires : goal.came_of-requires
came_of-requires c = c.apply_found.ensures.within

pub returns : goal.returns
returns c =
    let p = c.requires in record {
      bounded = c.came_of.ensures.bounded;
      comes = λ o r.
          let u = unclashed o r (sym (c.clashes.ensures _ o r) ∙ c.if-clashes.false) in
          rw u.1
          (c.came_of.ensures.comes _ _ _ _
          (c.apply_found.ensures.made (_, u.0) (good_list p.0 c.load.ensures, u.2)));
    }
