-- One return for each kind; of a plain equation, one for a relevant group and one for any other.
use Rattle.model.specs.Terms.{var, variables}
use Rattle.model.proofs.Variables.{variables_length}
use Rattle.reasons.specs.Verdicts.{verdict_of_kind, verdict_of_sets}
use Rattle.reasons.proofs.Verdicts.{irrelevant_test, relevant_test, by_kind}
use Rattle.reasons.proofs.told.Goals as goal

pub returns-then-e-s-eq0 : goal.returns-then-e-s-eq0
unfolding verdict_of_kind verdict_of_sets
returns-then-e-s-eq0 c =
    λ τ q k h t whole is.
    let l = c.args.l in
    rw (
      by_kind τ k t c.in-Plain.is,
      irrelevant_test (variables l (var q.left)) (variables l q.right) k t.left_set t.right_set is
          c.if-e-s-eq0.true,
    ) (c.kept-then-e-s-eq0.ensures τ k h whole is)

pub returns-in-Itself : goal.returns-in-Itself
unfolding verdict_of_kind
returns-in-Itself c =
    λ τ q k h t whole is.
    rw (by_kind τ k t c.in-Itself.is) (c.kept.ensures τ k h whole is)

pub returns-in-Deeper : goal.returns-in-Deeper
unfolding verdict_of_kind
returns-in-Deeper c =
    λ τ q k h t whole is.
    rw (by_kind τ k t c.in-Deeper.is)

pub returns-else-e-s-eq0 : goal.returns-else-e-s-eq0
unfolding verdict_of_kind verdict_of_sets
returns-else-e-s-eq0 c =
    λ τ q k h t whole is.
    let l = c.args.l in
    rw (
      by_kind τ k t c.in-Plain.is,
      relevant_test (variables l (var q.left)) (variables l q.right) k t.left_set t.right_set is
          c.if-e-s-eq0.false,
    )
    (c.joined.ensures _ τ _ _ k h (variables_length _ (var _)) (variables_length _ q.right) whole t.left_set t.right_set is)
