use native.Mathlib.Omega.{arith}
use Rattle.lists.proofs.WideningByPasses.{widened_start, widened_end, turn_few, turn_none, turn_inside, turn_next, turn_last}
use Rattle.lists.proofs.widening.widen.Goals as goal

pub loop-i-init : goal.loop-i-init
loop-i-init c = (omega arith, λ τ s ready y. widened_start _ τ s _ ready.long y)

pub returns-then-fixed_count-le1 : goal.returns-then-fixed_count-le1
returns-then-fixed_count-le1 c =
    λ τ s ready y.
    turn_few ready (c.loop-i.invariant.1 τ s ready y) c.fixed_count.ensures.strings c.if-fixed_count-le1.true

pub returns-then-open-eq0 : goal.returns-then-open-eq0
returns-then-open-eq0 c =
    λ τ s ready y.
    turn_none ready y (c.loop-i.invariant.1 τ s ready y) (λ t. c.open_set.ensures _ τ s t ready) c.if-open-eq0.true

pub returns-then-l-i : goal.returns-then-l-i
returns-then-l-i c =
    λ τ s ready y.
    let k = turn_inside ready y (c.loop-i.invariant.1 τ s ready y) (λ t. c.open_set.ensures _ τ s t ready) (omega arith)
    c.if-open-eq0.false in
    absurd (omega arith)

pub returns-then-open-skip-eq1 : goal.returns-then-open-skip-eq1
returns-then-open-skip-eq1 c =
    λ τ s ready y.
    turn_last ready y (c.loop-i.invariant.1 τ s ready y) (λ t. c.open_set.ensures _ τ s t ready) (omega arith)
    c.if-open-eq0.false c.fixed_count.ensures.strings c.if-fixed_count-le1.false c.starred-z.ensures.strings
    c.if-open-skip-eq1.true

pub loop-i-preserved : goal.loop-i-preserved
loop-i-preserved c = (
  omega arith,
  λ τ s ready y.
      turn_next ready y (c.loop-i.invariant.1 τ s ready y) (λ t. c.open_set.ensures _ τ s t ready) (omega arith)
      c.if-open-eq0.false c.fixed_count.ensures.strings c.if-fixed_count-le1.false c.starred-z.ensures.strings,
)

pub returns : goal.returns
returns c =
    λ τ s ready y.
    widened_end (c.loop-i.invariant.1 τ s ready y) ready.held.good.wide (omega arith)
