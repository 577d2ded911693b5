use mathlib.Core.Path.{sym, ap, ◌∙◌}
use mathlib.Core.Bool.{not}
use mathlib.Core.List.{[]}
use native.Mathlib.Omega.{arith}
use lib.ListN.{get_or}
use Rattle.lists.proofs.RowLoops.{packed_start, packed_keep, packed_drop}
use Rattle.lists.proofs.Holding.{holds_length}
use Rattle.lists.proofs.WordTests.{holds_under, packed_remove}
use Rattle.lists.proofs.growth.pack.Goals as goal
use Rattle.lists.proofs.growth.pack.Goals.{else-not-subsumes, then-not-subsumes}

pub loop-i-init : goal.loop-i-init
loop-i-init c = (
  omega arith,
  λ l τ s h e y f. packed_start h _ c.requires.0 (λ m lt. rw (sym (holds_under h s e y m (omega arith)) ∙ f m lt)),
)

pub loop-i-preserved : goal.loop-i-preserved
loop-i-preserved c =
    let w = c.loop-i in (
      elim c.if-not-subsumes.branch [
        | then-not-subsumes v ↦ omega (arith, v.k-is)
        | else-not-subsumes v ↦ omega (arith, v.k-is)
      ],
      λ l τ s h e y f.
          let p = w.invariant.1 l τ s h e y f in
          let d = holds_length h w.i (omega arith) in
          let is = p.ahead w.i (omega arith) (omega arith) in
          let m = sym (c.subsumes.ensures.strings s (get_or τ w.i []) (e ∙ sym d) (rw e h.short) y is) in
          elim c.if-not-subsumes.branch [
            | then-not-subsumes v ↦
                rw v.k-is
                (packed_keep p w.invariant.0 (omega arith) (omega arith) d (ap not (m ∙ v.if-not-subsumes.true)))
            | else-not-subsumes v ↦
                rw v.k-is (packed_drop p w.invariant.0 (omega arith) _ (ap not (m ∙ v.if-not-subsumes.false)))
          ],
    )

pub returns : goal.returns
returns c =
    let w = c.loop-i in record {
      within = omega arith;
      made = λ l τ s h e y f. packed_remove s h (w.invariant.1 l τ s h e y f) (omega arith);
    }
