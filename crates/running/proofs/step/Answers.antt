-- The bytes of the equation pass their checks, so that the call on bytes is the call on its tokens (`step_is`).
use mathlib.Core.Path.{◌≡◌, sym, ap, ◌∙◌}
use Prim.Native.Nat.{◌*◌, ◌≤◌}
use lib.ListN.{length}
use lib.Seq.{length-take-le}
use Rattle.operations.specs.Operations.{side_of, written_call}
use Rattle.equation_forms.specs.EquationForms.{this}
use Rattle.byte_calls.specs.ByteCalls.{value_call}
use Rattle.running.proofs.Applying.{in_bytes, one_part, two_parts, left_within, step_is}
use Rattle.running.proofs.step.Goals as goal
use Rattle.running.proofs.step.Goals.{After-tokens-tokens, In-Term}

-- the left side is within the tokens
within : (c : In-Term)
    → 2 * c.left_number-x.result ≤ length c.tokens-tokens.result.now
within c =
    let p = c.requires in
    left_within p.0 p.1 c.left_number-x.ensures c.tokens-tokens.ensures c.in-Term.is

-- the call with the bytes of the equation is the call on its tokens
called : (c : After-tokens-tokens) → (let a = c.args in
    value_call (side_of a.side) a.t (in_bytes a.f c.left_number-x.result c.tokens-tokens.result.now)
    ≡ written_call (side_of a.side) a.t (this a.f a.c a.q.now))
called c =
    step_is (side_of c.args.side) c.args.t c.requires.0 c.requires.1 c.left_number-x.ensures c.tokens-tokens.ensures

pub slice_bounds-left_part-end : goal.slice_bounds-left_part-end
slice_bounds-left_part-end c =
    sym (length-take-le _ c.tokens-tokens.result.now (within (goal.at.slice_bounds-left_part-end c).In-Term))

pub slice_bounds-right_part-count : goal.slice_bounds-right_part-count
slice_bounds-right_part-count c = within (goal.at.slice_bounds-right_part-count c).In-Term

pub slice_bounds-right_part-start : goal.slice_bounds-right_part-start
slice_bounds-right_part-start c = within (goal.at.slice_bounds-right_part-start c).In-Term

pub returns-in-Variable : goal.returns-in-Variable
unfolding value_call
returns-in-Variable c =
    let a = c.args in
    let part = c.tokens-tokens.result.now in
    c.equation_term.ensures
    ∙ ap (value_call (side_of a.side) a.t) (one_part c.in-Variable.is _ part)
    ∙ called (goal.at.returns-in-Variable c).After-tokens-tokens

pub returns-in-Term : goal.returns-in-Term
unfolding value_call
returns-in-Term c =
    let a = c.args in
    let part = c.tokens-tokens.result.now in
    c.unify_terms.ensures
    ∙ ap (value_call (side_of a.side) a.t) (two_parts c.in-Term.is _ part)
    ∙ called (goal.at.returns-in-Term c).After-tokens-tokens
