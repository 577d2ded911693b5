use native.Mathlib.Omega.{arith}
use Rattle.std.proofs.lemmas.Result.{err_from_is_err_and}
use Rattle.equation_forms.proofs.EachEquation.{so_far_start, so_far_end, so_far_stop, so_far_step}
use Rattle.equation_forms.proofs.check_each.Goals as goal

pub first-c-requires : goal.first-c-requires
first-c-requires c = (c.args.f, c.requires.1)

pub loop-f-init : goal.loop-f-init
loop-f-init c =
    rw c.first-c.ensures (so_far_start c.args.l c.requires.1)

pub check_this-requires : goal.check_this-requires
check_this-requires c =
    (c.requires.0, c.loop-f.invariant.on, c.more.ensures.0 c.loop-f-test.true)

pub returns-in_err-check_this : goal.returns-in_err-check_this
returns-in_err-check_this c =
    let p = err_from_is_err_and c.from_residual.result c.from_residual.ensures.1 in
    rw (p.1, p.2)
    (so_far_stop c.loop-f.invariant (c.more.ensures.0 c.loop-f-test.true) c.check_this.ensures c.in_err-check_this.was)

pub next-c-requires : goal.next-c-requires
next-c-requires c =
    (c.loop-f.invariant.on, c.more.ensures.0 c.loop-f-test.true)

pub loop-f-smaller : goal.loop-f-smaller
loop-f-smaller c =
    rw c.next-c.ensures
    (omega (arith, c.more.ensures.0 c.loop-f-test.true))

pub loop-f-preserved : goal.loop-f-preserved
loop-f-preserved c =
    let here = c.more.ensures.0 c.loop-f-test.true in
    rw c.next-c.ensures
    (so_far_step c.loop-f.invariant here c.check_this.ensures c.in_ok-check_this.was)

pub returns : goal.returns
returns c =
    so_far_end c.loop-f.invariant (c.more.ensures.1 c.loop-f-test.false)
