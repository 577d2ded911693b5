use mathlib.Core.Path.{sym, ◌∙◌}
use mathlib.Core.List.{[]}
use Prim.Native.Nat.{◌≤◌, ◌<◌}
use native.Mathlib.Omega.{arith}
use lib.ListN.{length, get_or}
use Rattle.model.proofs.Candidates.{meet_length}
use Rattle.lists.proofs.RowLoops.{row_start, row_add, row_skip, row_past}
use Rattle.lists.proofs.Passes.{entry_at, entry_end}
use Rattle.candidates.proofs.RowEnds.{meets_end}
use Rattle.candidates.proofs.rows.meet_row.Goals as goal
use Rattle.candidates.proofs.rows.meet_row.Goals.{else-matches, then-matches}

pub loop-e-init : goal.loop-e-init
loop-e-init c = (omega arith, λ l τ s h e a. row_start c.told-row h.short)

pub loop-e-preserved : goal.loop-e-preserved
loop-e-preserved c =
    let w = c.loop-e in (
      elim c.if-matches.branch [ then-matches v ↦ omega arith | else-matches v ↦ omega arith ],
      λ l τ s h e a.
          let at = entry_at h w.e-index c.loop-e-test.true in
          let lt : w.e-index < c.args.n = omega (arith, at.below, h.count) in
          let r = get_or τ w.e-index [] in
          let same = e ∙ sym at.long in
          let short : length s ≤ 32 = rw e h.short in
          let t = sym (c.matches.ensures.strings s r same short a at.is) in
          let p = w.invariant.1 l τ s h e a in
          elim c.if-matches.branch [
            | then-matches v ↦ rw v.k-is
                (row_add p lt (t ∙ v.if-matches.true)
                (c.meet.ensures.strings s r same short a at.is (t ∙ v.if-matches.true))
                (meet_length l s r e at.long) (omega (arith, lt)))
            | else-matches v ↦ rw v.k-is
                (row_skip (row_past c.meet.result p) lt (t ∙ v.if-matches.false))
          ],
    )

pub returns-clause-made : goal.returns-clause-made
returns-clause-made c =
    λ l τ s h e a.
    meets_end h s (c.loop-e.invariant.1 l τ s h e a) (omega (arith, h.count, entry_end h _ c.loop-e-test.false))
