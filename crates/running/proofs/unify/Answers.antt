-- The state after what came of the two terms as bytes (`follows_step`).
use Rattle.terms.specs.Checks.{two_terms}
use Rattle.byte_calls.specs.ByteCalls.{value_call}
use Rattle.running.proofs.Advancing.{follows_step}
use Rattle.running.proofs.unify.Goals as goal

pub answered-requires : goal.answered-requires
answered-requires c = c.unify_parts-came.ensures.bounded

pub returns : goal.returns
unfolding value_call
returns c =
    let a = c.args in
    follows_step a.s.now (two_terms a.left.now a.right.now) c.from-side.ensures
    (c.answered.ensures _ c.unify_parts-came.ensures.comes)
