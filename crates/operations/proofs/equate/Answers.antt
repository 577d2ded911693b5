-- One return for each kind: the list as it is, that of no groups, or what `equation_list` makes of a copy.
use Rattle.model.specs.Terms.{var}
use Rattle.model.specs.Equations.{equation_of_kind}
use Rattle.model.proofs.Variables.{variables_length}
use Rattle.lists.specs.WorkingLists.{makes}
use Rattle.operations.proofs.OfKinds.{by_kind}
use Rattle.operations.proofs.equate.Goals as goal

pub returns-in-Itself : goal.returns-in-Itself
unfolding equation_of_kind
returns-in-Itself c =
    let k = c.in-Itself.is in
    record {
      within = c.requires.0;
      made = λ τ q h t. rw (by_kind _ τ t k) (makes h);
    }

pub returns-in-Deeper : goal.returns-in-Deeper
unfolding equation_of_kind
returns-in-Deeper c =
    let g = c.no_groups_list.ensures in
    record {
      within = g.few;
      made = λ τ q h t. rw (by_kind _ τ t c.in-Deeper.is) (makes (g.made _ h.short));
    }

pub returns-in-Plain : goal.returns-in-Plain
unfolding equation_of_kind
returns-in-Plain c =
    let g = c.equation_list.ensures in record {
      within = g.within;
      made = λ τ q h t. rw (by_kind _ τ t c.in-Plain.is)
          (g.made τ _ _ h (variables_length _ (var _)) (variables_length _ q.right) t.left_set t.right_set);
    }
