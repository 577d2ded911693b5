use mathlib.Core.Path.{◌∙◌}
use native.Mathlib.Omega.{arith}
use Rattle.tables.proofs.Checking.{accepted_unless}
use Rattle.running.proofs.Applying.{so_far_start, so_far_end, so_far_stop, so_far_step}
use Rattle.running.proofs.apply.Goals as goal

pub first-c-requires : goal.first-c-requires
first-c-requires c = (c.args.f, c.requires)

pub loop-f-init : goal.loop-f-init
loop-f-init c =
    let a = c.args in
    rw c.first-c.ensures (so_far_start a.side a.t c.requires)

pub step-a-requires : goal.step-a-requires
step-a-requires c =
    (c.loop-f.invariant.on, c.more.ensures.0 c.loop-f-test.true)

pub stopped-requires : goal.stopped-requires
stopped-requires c =
    let on = c.loop-f.invariant.on in
    omega (arith, on.within, on.all, on.sizes.few)

pub returns-in-Err : goal.returns-in-Err
returns-in-Err c =
    let a = c.args in
    rw (c.stopped.ensures, c.from.ensures)
    (so_far_stop c.loop-f.invariant (c.more.ensures.0 c.loop-f-test.true)
    c.from-s.ensures c.step-a.ensures c.in-Err.is)

pub next-c-requires : goal.next-c-requires
next-c-requires c =
    (c.loop-f.invariant.on, c.more.ensures.0 c.loop-f-test.true)

pub loop-f-smaller : goal.loop-f-smaller
loop-f-smaller c =
    rw c.next-c.ensures
    (omega (arith, c.more.ensures.0 c.loop-f-test.true))

pub loop-f-preserved : goal.loop-f-preserved
loop-f-preserved c =
    let a = c.args in
    rw c.next-c.ensures
    (so_far_step c.loop-f.invariant (c.more.ensures.0 c.loop-f-test.true)
    c.from-s.ensures c.step-a.ensures (accepted_unless _ c.in_default.not-Err))

pub stopped-requires-2 : goal.stopped-requires-2
stopped-requires-2 c =
    let on = c.loop-f.invariant.on in
    omega (arith, on.within, on.all, on.sizes.few)

pub returns : goal.returns
returns c =
    let a = c.args in
    c.stopped-2.ensures
    ∙ so_far_end c.loop-f.invariant (c.more.ensures.1 c.loop-f-test.false)
