use mathlib.Core.Path.{refl, sym, ap, ◌∙◌}
use native.Mathlib.Omega.{arith}
use Rattle.walks.specs.Cursors.{clash}
use Rattle.walks.proofs.Keeping.{keeps}
use Rattle.walks.proofs.Consuming.{goes_on, clash_told, end_told, clash_found}
use Rattle.walks.proofs.clashes.Goals as goal

pub loop-i-init : goal.loop-i-init
loop-i-init c = let r = c.requires in (((r.0, r.1), (r.1, r.2, refl)), λ x r. (x.1, r, refl))

pub next-requires : goal.next-requires
next-requires c = let k = c.loop-i.invariant.0 in (k.0.0, k.1.0, k.1.1)

pub loop-i-smaller : goal.loop-i-smaller
loop-i-smaller c =
    let k = c.loop-i.invariant.0 in
    let w = goes_on (c.next.ensures k.0.0 k.1.0 k.1.1) c.in-Equation.is in
    omega (arith, w.onward.further, w.onward.inside)

pub loop-i-preserved : goal.loop-i-preserved
loop-i-preserved c =
    keeps c.loop-i.invariant
    (λ x k.
    let w = goes_on (c.next.ensures x.0 k.0 k.1) c.in-Equation.is in
    (w.p, w.rest, k.2 ∙ ap clash w.is ∙ clash_found w.e w.p))

pub returns-in-Clash : goal.returns-in-Clash
unfolding clash
returns-in-Clash c =
    λ l o r.
    let k = c.loop-i.invariant.1 (l, o) r in
    sym (k.2 ∙ ap clash (clash_told (c.next.ensures l k.0 k.1) c.in-Clash.is))

pub returns-in-End : goal.returns-in-End
unfolding clash
returns-in-End c =
    λ l o r.
    let k = c.loop-i.invariant.1 (l, o) r in
    sym (k.2 ∙ ap clash (end_told (c.next.ensures l k.0 k.1) c.in-End.is))
