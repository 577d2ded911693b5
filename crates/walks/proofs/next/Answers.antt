use Rattle.std.proofs.Common.{◌≡◌, ◌+◌, ◌-◌, ◌<◌, length, arith}
use Rattle.walks.proofs.Keeping.{keeps}
use Rattle.walks.proofs.Walking.{rest_inside, term_left, term_right, next_end, next_left, next_right}
use Rattle.walks.proofs.Walking.{next_clash, rest_down, next_from, bit_left, bit_right, past_left}
use Rattle.walks.proofs.Walking.{past_right}
use Rattle.walks.proofs.next.Goals as goal
use Rattle.walks.proofs.next.Goals.{In-loop-a}

-- there is a term at both cursors
across : (c : In-loop-a) → c.args.j + (c.loop-a.a - c.args.i) < length c.args.right.now
across c = rest_inside c.loop-a.invariant.0.1 (omega arith)

pub loop-a-init : goal.loop-a-init
loop-a-init c =
    let a = c.args in
    let e : a.j + (a.i - a.i) ≡ a.j = omega arith in
    let r = c.requires in rw e (((r.0, r.1), r.2), λ x r. r)

pub offset_bounds-right-b : goal.offset_bounds-right-b
offset_bounds-right-b c = omega (arith, across (goal.at.offset_bounds-right-b c).In-loop-a)

pub bounds-right-b : goal.bounds-right-b
bounds-right-b c = omega (arith, across (goal.at.bounds-right-b c).In-loop-a)

pub pass-across-requires : goal.pass-across-requires
pass-across-requires c = let lp = c.loop-a in term_right lp.invariant.0.1 (omega arith)

pub overflow_sub-x : goal.overflow_sub-x
overflow_sub-x c = (bit_left c.loop-a.invariant.0.1 (omega arith) c.if-s-lt-FIRST_HEAD.true).0

pub overflow_shl-x : goal.overflow_shl-x
overflow_shl-x c = (bit_left c.loop-a.invariant.0.1 (omega arith) c.if-s-lt-FIRST_HEAD.true).1

pub overflow_sub-across : goal.overflow_sub-across
overflow_sub-across c = omega (arith, past_right c.loop-a.invariant.0.1 (omega arith) c.pass-across.ensures)

pub returns-then-s-lt-FIRST_HEAD : goal.returns-then-s-lt-FIRST_HEAD
returns-then-s-lt-FIRST_HEAD c =
    let lp = c.loop-a in
    λ l o r. next_from (omega arith)
    (next_left (lp.invariant.1 (l, o) r) (omega arith) c.pass-across.result.end c.pass-across.result.set
    c.equation_of.result c.if-s-lt-FIRST_HEAD.true c.pass-across.ensures c.equation_of.ensures)

pub pass-across-requires-then-t-lt-FIRST_HEAD : goal.pass-across-requires-then-t-lt-FIRST_HEAD
pass-across-requires-then-t-lt-FIRST_HEAD c = let lp = c.loop-a in term_left lp.invariant.0.1 (omega arith)

pub overflow_sub-x-then-t-lt-FIRST_HEAD : goal.overflow_sub-x-then-t-lt-FIRST_HEAD
overflow_sub-x-then-t-lt-FIRST_HEAD c = (bit_right c.loop-a.invariant.0.1 (omega arith) c.if-t-lt-FIRST_HEAD.true).0

pub overflow_shl-x-then-t-lt-FIRST_HEAD : goal.overflow_shl-x-then-t-lt-FIRST_HEAD
overflow_shl-x-then-t-lt-FIRST_HEAD c = (bit_right c.loop-a.invariant.0.1 (omega arith) c.if-t-lt-FIRST_HEAD.true).1

pub overflow_sub-across-then-t-lt-FIRST_HEAD : goal.overflow_sub-across-then-t-lt-FIRST_HEAD
overflow_sub-across-then-t-lt-FIRST_HEAD c =
    omega (arith, past_left c.loop-a.invariant.0.1 (omega arith) c.pass-across-then-t-lt-FIRST_HEAD.ensures)

pub overflow_add-result-then-t-lt-FIRST_HEAD : goal.overflow_add-result-then-t-lt-FIRST_HEAD
overflow_add-result-then-t-lt-FIRST_HEAD c =
    omega (arith, across (goal.at.overflow_add-result-then-t-lt-FIRST_HEAD c).In-loop-a)

pub returns-then-t-lt-FIRST_HEAD : goal.returns-then-t-lt-FIRST_HEAD
returns-then-t-lt-FIRST_HEAD c =
    let lp = c.loop-a in
    let p = c.pass-across-then-t-lt-FIRST_HEAD in
    let e = c.equation_of-then-t-lt-FIRST_HEAD in
    λ l o r. next_from (omega arith)
    (next_right (lp.invariant.1 (l, o) r) (omega arith) c.if-s-lt-FIRST_HEAD.false p.result.end p.result.set e.result
    c.if-t-lt-FIRST_HEAD.true p.ensures e.ensures)

pub returns-then-s-t : goal.returns-then-s-t
returns-then-s-t c =
    let lp = c.loop-a in
    λ l o r. next_from (omega arith)
    (next_clash (lp.invariant.1 (l, o) r) (omega arith) c.if-s-lt-FIRST_HEAD.false c.if-t-lt-FIRST_HEAD.false c.if-s-t.true)

pub overflow_add-b : goal.overflow_add-b
overflow_add-b c = omega (arith, across (goal.at.overflow_add-b c).In-loop-a)

pub loop-a-preserved : goal.loop-a-preserved
loop-a-preserved c =
    let a = c.args in
    let lp = c.loop-a in
    let e : a.j + (lp.a + 1 - a.i) ≡ a.j + (lp.a - a.i) + 1 = omega arith in
    rw e (keeps lp.invariant
    (λ x r. rest_down r (omega arith) c.if-s-lt-FIRST_HEAD.false c.if-t-lt-FIRST_HEAD.false c.if-s-t.false))

pub returns : goal.returns
returns c =
    let lp = c.loop-a in
    λ l o r. next_from (omega arith) (next_end (lp.invariant.1 (l, o) r) (omega arith))
