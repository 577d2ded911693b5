use mathlib.Core.Path.{sym, ◌∙◌}
use Prim.Native.Nat.{◌<◌}
use native.Mathlib.Omega.{arith}
use Rattle.lists.proofs.Holding.{holds_length, holds_slice}
use Rattle.lists.proofs.RowLoops.{row_start, row_add, row_skip, row_past}
use Rattle.sides.proofs.MatchedEntries.{edges_end}
use Rattle.sides.proofs.edge_row.Goals as goal
use Rattle.sides.proofs.edge_row.Goals.{else-opposed_once, then-opposed_once}

pub loop-e-init : goal.loop-e-init
loop-e-init c = (omega arith, λ l τ t h e v. row_start c.told-row h.short)

pub loop-e-preserved : goal.loop-e-preserved
loop-e-preserved c =
    let w = c.loop-e in
    let i = w.e-index in
    let lt : i < c.args.n = omega arith in (
      elim c.if-opposed_once.branch [
        | then-opposed_once u ↦ omega (arith, u.k-is)
        | else-opposed_once u ↦ omega (arith, u.k-is)
      ],
      λ l τ t h e v.
          let d = holds_length h i lt in
          let is = holds_slice h i lt in
          let m = sym (c.opposed_once.ensures.strings _ t (d ∙ sym e) (omega (arith, h.short)) is v) in
          let p = w.invariant.1 l τ t h e v in
          elim c.if-opposed_once.branch [
            | then-opposed_once u ↦ rw u.k-is (row_add p lt (m ∙ u.if-opposed_once.true) is d (omega arith))
            | else-opposed_once u ↦ rw u.k-is (row_skip (row_past _ p) lt (m ∙ u.if-opposed_once.false))
          ],
    )

pub returns-clause-made : goal.returns-clause-made
returns-clause-made c = λ l τ t h e v. edges_end h t (c.loop-e.invariant.1 l τ t h e v) (omega arith)
