-- One law for each way out; a form that reads at the front of its buffer is all in it, so that its part can be taken.
use mathlib.Core.Path.{◌≡◌, sym, ap, ◌∙◌}
use Prim.Native.Nat.{ℕ, ◌≤◌, ◌<◌}
use native.Mathlib.Omega.{arith}
use lib.Seq.{length-take-le}
use Rattle.tables.specs.Refusals.{Accepted}
use Rattle.forms.specs.declared.Extent.TheVariants.{Front}
use Rattle.forms.specs.TableForms.{read_table}
use Rattle.byte_calls.specs.BufferParts.{Part, lent, front, form, smaller_part}
use Rattle.tables.proofs.Checking.{accepted_unless}
use Rattle.byte_calls.proofs.SmallerPart.{front_reads, front_sized, first_unread, second_unread, unlike, by_count}
use Rattle.byte_calls.proofs.outputs.smaller.Goals as goal
use Rattle.byte_calls.proofs.outputs.smaller.Goals.{After-number_at-n, In_default, In_default-answer}

-- each form reads
p_reads : (c : In_default) → c.read_table-a.result.answer ≡ Accepted
p_reads c = accepted_unless _ c.in_default.not-Err

q_reads : (c : In_default-answer) → c.read_table-b.result.answer ≡ Accepted
q_reads c = accepted_unless _ c.in_default-answer.not-Err

-- there the two buffers, and which form is the smaller part
abbrev first_part : After-number_at-n → Part
first_part c = lent c.args.p

abbrev second_part : After-number_at-n → Part
second_part c = lent c.args.q

fewer : (c : After-number_at-n) → let p = first_part c in
    let q = second_part c in
    let m = c.number_at-m.result in
    let n = c.number_at-n.result in (n < m → form q ≡ smaller_part p q) × (m ≤ n → form p ≡ smaller_part p q)
fewer c =
    by_count (first_part c) (second_part c) c.read_table-a.ensures c.read_table-b.ensures
    (accepted_unless _ c.in_default.not-Err) (accepted_unless _ c.in_default-answer.not-Err) c.if-a-b.false c.number_at-m.ensures
    c.number_at-n.ensures

pub returns-then-a-b : goal.returns-then-a-b
returns-then-a-b c =
    let at = goal.at.returns-then-a-b c in
    unlike (lent c.args.p) (lent c.args.q) c.read_table-a.ensures
    c.read_table-b.ensures (p_reads at.In_default) (q_reads at.In_default-answer) c.if-a-b.true

pub number_at-m-requires : goal.number_at-m-requires
number_at-m-requires c =
    let at = goal.at.number_at-m-requires c in
    omega (arith, front_sized c.args.p.now (front_reads _ c.read_table-a.ensures (p_reads at.In_default)))

pub number_at-n-requires : goal.number_at-n-requires
number_at-n-requires c =
    let at = goal.at.number_at-n-requires c in
    omega (arith, front_sized c.args.q.now (front_reads _ c.read_table-b.ensures (q_reads at.In_default-answer)))

pub front_length-requires : goal.front_length-requires
front_length-requires c =
    front_reads c.args.q.now c.read_table-b.ensures (q_reads (goal.at.front_length-requires c).In_default-answer)

pub slice_bounds-result-end-then-n-m : goal.slice_bounds-result-end-then-n-m
slice_bounds-result-end-then-n-m c = sym (length-take-le _ _ c.front_length.ensures.within)

pub returns-then-n-m : goal.returns-then-n-m
returns-then-n-m c =
    ap (λ (k : ℕ). front k (second_part (goal.at.returns-then-n-m c).After-number_at-n)) c.front_length.ensures.length
    ∙ (fewer (goal.at.returns-then-n-m c).After-number_at-n).0 c.if-n-m.true

pub front_length-requires-2 : goal.front_length-requires-2
front_length-requires-2 c =
    front_reads c.args.p.now c.read_table-a.ensures (p_reads (goal.at.front_length-requires-2 c).In_default)

pub slice_bounds-result-end-2 : goal.slice_bounds-result-end-2
slice_bounds-result-end-2 c = sym (length-take-le _ _ c.front_length-2.ensures.within)

pub returns-in-Err : goal.returns-in-Err
returns-in-Err c =
    first_unread (lent c.args.p) (lent c.args.q) c.read_table-a.ensures
    c.read_table-b.ensures c.in-Err.is

pub returns-in-Err-answer : goal.returns-in-Err-answer
returns-in-Err-answer c =
    second_unread (lent c.args.p) (lent c.args.q) c.read_table-a.ensures
    c.read_table-b.ensures (p_reads (goal.at.returns-in-Err-answer c).In_default) c.in-Err-answer.is

pub returns : goal.returns
returns c =
    ap (λ (k : ℕ). front k (first_part (goal.at.returns c).After-number_at-n)) c.front_length-2.ensures.length
    ∙ (fewer (goal.at.returns c).After-number_at-n).1 c.if-n-m.false
