use mathlib.Core.Path.{refl, sym}
use mathlib.Core.List.{[]}
use Prim.Native.Nat.{◌<◌}
use native.Mathlib.Omega.{arith}
use Rattle.model.specs.Strings.{stars}
use Rattle.model.specs.Tables.{change_side}
use Rattle.model.proofs.Positions.{stars_length}
use Rattle.lists.proofs.Holding.{holds_append, holds_empty, holds_length, holds_slice, within_count}
use Rattle.lists.proofs.SoFar.{so_far_start, so_far_step, so_far_stop, so_far_end}
use Rattle.words.proofs.Words.{stars_word}
use Rattle.sides.proofs.MatchedEntries.{some_start, some_next}
use Rattle.sides.proofs.change_side_lent.Goals as goal

pub loop-v-init : goal.loop-v-init
unfolding change_side
loop-v-init c = (
  omega arith,
  λ τ h.
      let a = c.args in
      let none = holds_empty a.l a.list.now c.told-list h.short in
      so_far_start (holds_append none (stars a.l) (stars_length a.l) (sym (stars_word a.l)) (omega arith)) refl
      some_start,
)

pub returns-in_err-n-clause-made : goal.returns-in_err-n-clause-made
returns-in_err-n-clause-made c =
    rw c.from_residual.ensures (λ τ h.
    let lp = c.loop-v in
    let lt : lp.v-index < c.args.tn = omega arith in
    let w = lp.invariant.1 τ h in
    let made = c.take_away.ensures.made _ _ w.held (holds_length h _ lt) (holds_slice h _ lt) w.known.0 w.known.1 in
    so_far_stop w [] (omega (arith, lt, h.count)) made c.in_err-n.was)

pub loop-v-preserved : goal.loop-v-preserved
loop-v-preserved c =
    let lp = c.loop-v in
    let lt : lp.v-index < c.args.tn = omega arith in
    let got = c.in_ok-n.was in (
      within_count c.take_away.ensures.within got,
      λ τ h.
          let w = lp.invariant.1 τ h in
          let made = c.take_away.ensures.made _ _ w.held (holds_length h _ lt) (holds_slice h _ lt) w.known.0 w.known.1 in
          so_far_step w [] (omega (arith, lt, h.count)) made got (some_next w.known _),
    )

pub returns-clause-made : goal.returns-clause-made
returns-clause-made c = λ τ h. so_far_end (c.loop-v.invariant.1 τ h) (omega (arith, h.count))
