use mathlib.Core.Path.{sym, ◌∙◌}
use Prim.Native.Nat.{◌<◌}
use lib.ListN.{length}
use native.Mathlib.Omega.{arith}
use Rattle.lists.proofs.Slices.{words_length}
use Rattle.covering.proofs.Narrowing.{narrows_same, narrows_more}
use Rattle.covering.proofs.cover.narrowed.Goals as goal

pub loop-v-init : goal.loop-v-init
loop-v-init c = (omega arith, λ l τ s h e is. narrows_same _ s is)

pub loop-v-preserved : goal.loop-v-preserved
loop-v-preserved c =
    let w = c.loop-v in
    let call = c.narrowed_by-x.ensures in
    let lt : w.v-index < length c.args.list.now = omega arith in (
      omega (arith, call.more, w.invariant.0),
      λ l τ s h e is.
          let a = w.invariant.1 l τ s h e is in
          let long = words_length h _ lt in
          narrows_more τ _ (omega (arith, lt, h.count)) a
          (call.strings _ a.string (long ∙ sym (a.long ∙ e)) (rw long h.short) (h.here _ lt) a.is),
    )
