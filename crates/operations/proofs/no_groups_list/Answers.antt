-- No entry; or the one all-star entry, appended to none.
use mathlib.Core.Path.{sym}
use native.Mathlib.Omega.{arith}
use Rattle.model.specs.Strings.{stars}
use Rattle.model.specs.Tables.{no_groups}
use Rattle.model.proofs.Positions.{stars_length}
use Rattle.words.proofs.Words.{stars_word}
use Rattle.lists.proofs.Holding.{holds_append, holds_empty}
use borrow.Author.Rules.{rules}
use Rattle.operations.proofs.no_groups_list.Goals as goal

pub returns-in-Positive : goal.returns-in-Positive
unfolding no_groups
returns-in-Positive c =
    record {
      few = omega arith;
      made = λ l short. rw c.in-Positive.is (holds_empty l _ (search rules) short);
    }

pub returns-in-Negative : goal.returns-in-Negative
unfolding no_groups
returns-in-Negative c =
    record {
      few = omega arith;
      made = λ l short.
          let a = c.args in
          let none = holds_empty l a.list.now (search rules) short in
          rw c.in-Negative.is (holds_append none (stars l) (stars_length l) (sym (stars_word l)) (omega arith));
    }
