use Rattle.std.proofs.Common.{refl, ◌-◌}
use borrow.Author.Rules.{rules}
use native.Mathlib.Omega.{arith}
use lib.Dec.{eqb}
use Rattle.tables.specs.Values.{is_zero, zero_past}
use Rattle.tables.proofs.Zipped.{left_init, left_turn, left_end}
use Rattle.tables.proofs.Checking.{gathered}
use Rattle.tables.proofs.zero_past.Goals as goal

pub loop-c-init : goal.loop-c-init
unfolding zero_past
loop-c-init c = left_init is_zero c.args.care.now c.args.value.now c.args.n (256 - c.args.n)

pub loop-c-preserved : goal.loop-c-preserved
loop-c-preserved c =
    let lp = c.loop-c in
    let a = c.args in
    let s = c.into_iter-c-iterator.result in
    rw (gathered lp.some (record { care = c.in-Some.field-0-0.now; value = c.in-Some.field-0-1.now }))
    (left_turn is_zero a.care.now a.value.now a.n (256 - a.n) lp.yielded s lp.c-iterator c.next.new.self (eqb lp.some 0)
    lp.invariant (search rules) (search rules) lp.yielded_by c.next.ensures.steps _ c.in-Some.is _ refl)

pub returns : goal.returns
returns c =
    let lp = c.loop-c in
    let a = c.args in
    let s = c.into_iter-c-iterator.result in
    left_end is_zero a.care.now a.value.now a.n (256 - a.n) lp.yielded s lp.c-iterator c.next.new.self (eqb lp.some 0)
    lp.invariant (search rules) (search rules) lp.yielded_by c.next.ensures.steps (omega arith) (omega arith) c.in-None.is
