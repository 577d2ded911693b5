use native.Mathlib.Omega.{arith}
use Rattle.walks.proofs.Keeping.{keeps}
use Rattle.walks.proofs.Passing.{left_start, left_inside, left_end, left_bit, left_variable, left_head}
use Rattle.walks.proofs.pass.Goals as goal
use Rattle.walks.proofs.pass.Goals.{then-t-lt-FIRST_HEAD, else-t-lt-FIRST_HEAD}

pub loop-need-init : goal.loop-need-init
loop-need-init c = let r = c.requires in (((r.0, r.1, r.2), left_start r.3), λ x r. left_start r)

pub offset_bounds-ts-i : goal.offset_bounds-ts-i
offset_bounds-ts-i c = let lp = c.loop-need in omega (arith, left_inside lp.invariant.0.1)

pub bounds-ts-i : goal.bounds-ts-i
bounds-ts-i c = let lp = c.loop-need in omega (arith, left_inside lp.invariant.0.1)

pub overflow_sub-set : goal.overflow_sub-set
overflow_sub-set c = let lp = c.loop-need in (left_bit lp.invariant.0.1 (omega arith) c.if-t-lt-FIRST_HEAD.true).0

pub overflow_shl-set : goal.overflow_shl-set
overflow_shl-set c = let lp = c.loop-need in (left_bit lp.invariant.0.1 (omega arith) c.if-t-lt-FIRST_HEAD.true).1

pub overflow_add-need : goal.overflow_add-need
overflow_add-need c =
    let lp = c.loop-need in
    omega (arith, left_inside (left_head lp.invariant.0.1 (omega arith) c.if-t-lt-FIRST_HEAD.false))

pub overflow_add-i : goal.overflow_add-i
overflow_add-i c = let lp = c.loop-need in omega (arith, left_inside lp.invariant.0.1)

pub loop-need-smaller : goal.loop-need-smaller
loop-need-smaller c = let lp = c.loop-need in omega (arith, left_inside lp.invariant.0.1)

pub loop-need-preserved : goal.loop-need-preserved
loop-need-preserved c =
    let lp = c.loop-need in
    elim c.if-t-lt-FIRST_HEAD.branch [
      | then-t-lt-FIRST_HEAD w ↦
          keeps lp.invariant
          (λ x r. rw (w.need-is, w.set-is) (left_variable r (omega arith) w.if-t-lt-FIRST_HEAD.true))
      | else-t-lt-FIRST_HEAD w ↦
          keeps lp.invariant (λ x r. rw (w.need-is, w.set-is) (left_head r (omega arith) w.if-t-lt-FIRST_HEAD.false))
    ]

pub returns : goal.returns
returns c = let lp = c.loop-need in λ l e w r. left_end (lp.invariant.1 (l, e, w) r) (omega arith)
