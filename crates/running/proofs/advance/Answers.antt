-- The state after what came of the equation on bytes (`follows_step`).
use Rattle.terms.specs.Checks.{one_term}
use Rattle.byte_calls.specs.ByteCalls.{value_call}
use Rattle.running.proofs.Advancing.{follows_step}
use Rattle.running.proofs.advance.Goals as goal

pub answered-requires : goal.answered-requires
answered-requires c = c.equation_parts-came.ensures.bounded

pub returns : goal.returns
unfolding value_call
returns c =
    let a = c.args in
    follows_step a.s.now (one_term a.x a.term.now) c.from-side.ensures
    (c.answered.ensures _ c.equation_parts-came.ensures.comes)
