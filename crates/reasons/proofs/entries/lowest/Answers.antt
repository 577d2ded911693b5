use mathlib.Core.Path.{refl, sym}
use Prim.Native.Nat.{◌<◌}
use native.Mathlib.Omega.{arith}
use borrow.Author.Count.{below_more}
use lib.ListN.{length}
use Rattle.reasons.proofs.Searching.{found_here, found_nowhere}
use Rattle.reasons.proofs.entries.lowest.Goals as goal

pub returns-then-largest-m-ne0-clause-entry : goal.returns-then-largest-m-ne0-clause-entry
returns-then-largest-m-ne0-clause-entry c =
    λ l τ r k h whole long is_s is_m.
    let lt : c.loop-i.i < length c.args.list.now = omega arith in
    found_here h r k whole is_s is_m c.loop-i.i lt c.loop-i.invariant
    (λ e. c.if-largest-m-ne0.true (rw (← e, c.largest.ensures.words) refl))

pub loop-i-preserved : goal.loop-i-preserved
loop-i-preserved c =
    let lt : c.loop-i.i < length c.args.list.now = omega arith in
    below_more _ _ c.loop-i.invariant (rw (sym c.largest.ensures.words) c.if-largest-m-ne0.false)

pub returns-clause-entry : goal.returns-clause-entry
returns-clause-entry c =
    λ l τ r k h whole long is_s is_m.
    found_nowhere h r k whole is_s is_m (λ j lt. c.loop-i.invariant j (omega arith))
