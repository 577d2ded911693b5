use borrow.Author.Rules.{rules}
use native.Mathlib.Omega.{arith}
use Rattle.tables.specs.Values.{clean, all_clean}
use Rattle.tables.proofs.Zipped.{left_init, left_turn, left_end}
use Rattle.tables.proofs.Checking.{clean_hit}
use Rattle.tables.proofs.all_clean.Goals as goal

pub loop-c-init : goal.loop-c-init
unfolding all_clean
loop-c-init c = left_init (clean c.args.l) c.args.care.now c.args.value.now 0 c.args.n

pub loop-c-preserved : goal.loop-c-preserved
loop-c-preserved c =
    let lp = c.loop-c in
    let a = c.args in
    let s = c.into_iter-c-iterator.result in
    left_turn (clean a.l) a.care.now a.value.now 0 a.n lp.yielded s lp.c-iterator c.next.new.self lp.good lp.invariant
    (search rules) (search rules) lp.yielded_by c.next.ensures.steps _ c.in-Some.is _
    (clean_hit _ _ _ _ c.full-full.ensures)

pub returns : goal.returns
returns c =
    let lp = c.loop-c in
    let a = c.args in
    let s = c.into_iter-c-iterator.result in
    left_end (clean a.l) a.care.now a.value.now 0 a.n lp.yielded s lp.c-iterator c.next.new.self lp.good lp.invariant
    (search rules) (search rules) lp.yielded_by c.next.ensures.steps (omega arith) (omega arith) c.in-None.is
