use mathlib.Core.Path.{sym, ◌∙◌}
use mathlib.Core.List.{[]}
use native.Mathlib.Omega.{arith}
use lib.ListN.{get_or}
use Rattle.words.specs.Words.{word}
use Rattle.lists.proofs.Holding.{holds_past}
use Rattle.lists.proofs.NearEntries.{gather_start, gather_add, gather_skip, gather_end}
use Rattle.lists.proofs.Passes.{entry_here}
use Rattle.lists.proofs.widening.gather.Goals as goal
use Rattle.lists.proofs.widening.gather.Goals.{else-near, then-near}

pub loop-i-init : goal.loop-i-init
loop-i-init c = (omega arith, λ l τ s h e y. (h, gather_start word _ τ s))

pub loop-i-preserved : goal.loop-i-preserved
loop-i-preserved c =
    let w = c.loop-i in (
      elim c.if-near.branch [ then-near v ↦ omega arith | else-near v ↦ omega arith ],
      λ l τ s h e y.
          let now = w.invariant.1 l τ s h e y in
          let at = entry_here now.0 w.i c.loop-i-test.true in
          let same = at.long ∙ sym e in
          let m = sym (c.near.ensures.strings (get_or τ w.i []) s same (omega (arith, at.long, h.short)) at.is y) in (
            holds_past now.0 _ _ (omega arith),
            elim c.if-near.branch [
              | then-near u ↦ rw u.k-is (gather_add now.1 at.below (m ∙ u.if-near.true) at.is (omega (arith, now.0.room)))
              | else-near u ↦ rw u.k-is (gather_skip now.1 at.below _ (m ∙ u.if-near.false))
            ],
          ),
    )

pub returns-clause-made : goal.returns-clause-made
returns-clause-made c =
    λ l τ s h e y.
    let now = c.loop-i.invariant.1 l τ s h e y in
    (now.0, gather_end now.1 (omega (arith, h.count)))
