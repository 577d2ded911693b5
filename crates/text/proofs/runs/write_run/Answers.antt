use mathlib.Core.Path.{◌∙◌}
use native.Mathlib.Omega.{arith}
use Rattle.equation_forms.specs.declared.Left.TheVariants.{Variable}
use Rattle.tables.proofs.Checking.{accepted_unless}
use Rattle.text.specs.Lines.{vars}
use Rattle.text.proofs.Blocks.{block_most}
use Rattle.text.proofs.RunByEquations.{so_far_start, so_far_end, so_far_room, so_far_step, so_far_stop, good_next}
use Rattle.text.proofs.RunByEquations.{room_first, room_rest, all_written}
use Rattle.text.proofs.runs.write_run.Goals as goal

pub write_first-end-requires : goal.write_first-end-requires
write_first-end-requires c =
    let a = c.args in
    (c.requires.1, room_first a.pass a.out.now a.t _ c.requires.2)

pub first-c-requires : goal.first-c-requires
first-c-requires c =
    (Variable, c.requires.0)

pub loop-pass-init : goal.loop-pass-init
loop-pass-init c =
    let a = c.args in
    let p = c.requires in
    let told = c.write_first-end.ensures in
    rw c.first-c.ensures
    (so_far_start a.pass a.q.now a.t _ _ p.0 p.1
    (omega (arith, told.0, block_most vars a.t.l p.1 (omega arith)))
    (room_rest a.pass a.out.now a.t _ p.2 told.1 told.0))

pub step-a-requires : goal.step-a-requires
step-a-requires c =
    (c.loop-pass.invariant.run.on, c.more.ensures.0 c.loop-pass-test.true)

pub write_equation-end-requires : goal.write_equation-end-requires
write_equation-end-requires c =
    let a = c.args in
    let s = c.loop-pass.invariant in
    let on = s.run.on in
    let here = c.more.ensures.0 c.loop-pass-test.true in (
      omega (arith, s.short, here, on.all, on.sizes.few),
      omega (arith, here, on.all, on.sizes.few),
      good_next a.pass a.q.now a.t _ _ s here c.step-a.ensures,
      so_far_room a.pass a.q.now a.t _ _ s here c.step-a.ensures,
    )

pub stopped-requires : goal.stopped-requires
stopped-requires c =
    let on = c.loop-pass.invariant.run.on in
    omega (arith, on.within, on.all, on.sizes.few)

pub shape_of-out-in-Err : goal.shape_of-out-in-Err
shape_of-out-in-Err c =
    c.write_equation-end.auto.out ∙ c.loop-pass.invariant.text.kept ∙ c.write_first-end.auto.out

pub returns-in-Err : goal.returns-in-Err
returns-in-Err c =
    let a = c.args in
    let first = c.write_first-end.ensures in
    let told = c.write_equation-end.ensures in
    let stop = so_far_stop a.pass a.q.now a.t _ _ c.loop-pass.invariant
    (c.more.ensures.0 c.loop-pass-test.true) c.step-a.ensures told.1 told.0
    c.in-Err.is in
    let all = all_written a.pass a.out.now a.t _ c.requires.2 first.1 first.0 stop.1 in
    (rw (c.stopped.ensures, c.from.ensures, all.0, stop.0), all.1)

pub next-c-requires : goal.next-c-requires
next-c-requires c =
    (c.loop-pass.invariant.run.on, c.more.ensures.0 c.loop-pass-test.true)

pub loop-pass-smaller : goal.loop-pass-smaller
loop-pass-smaller c =
    rw c.next-c.ensures
    (omega (arith, c.more.ensures.0 c.loop-pass-test.true))

pub loop-pass-preserved : goal.loop-pass-preserved
loop-pass-preserved c =
    let a = c.args in
    let told = c.write_equation-end.ensures in
    rw c.next-c.ensures
    (so_far_step a.pass a.q.now a.t _ _ c.loop-pass.invariant (c.more.ensures.0 c.loop-pass-test.true)
    c.step-a.ensures told.1 told.0 (accepted_unless _ c.in_default.not-Err))

pub stopped-requires-2 : goal.stopped-requires-2
stopped-requires-2 c =
    let on = c.loop-pass.invariant.run.on in
    omega (arith, on.within, on.all, on.sizes.few)

pub shape_of-out : goal.shape_of-out
shape_of-out c =
    c.loop-pass.invariant.text.kept ∙ c.write_first-end.auto.out

pub returns : goal.returns
returns c =
    let a = c.args in
    let first = c.write_first-end.ensures in
    let stop = so_far_end a.pass a.q.now a.t _ _ c.loop-pass.invariant
    (c.more.ensures.1 c.loop-pass-test.false) in
    let all = all_written a.pass a.out.now a.t _ c.requires.2 first.1 first.0 stop.1 in
    (rw (c.stopped-2.ensures, all.0, stop.0), all.1)
