use mathlib.Core.Path.{sym, ◌∙◌}
use native.Mathlib.Omega.{arith}
use borrow.Author.Tests.{eq-eqb, ne_eqb}
use Rattle.model.proofs.Positions.{one_at_length}
use Rattle.words.proofs.Codec.{set_bit}
use Rattle.words.proofs.Positions.{one_shl}
use Rattle.words.proofs.Words.{one_word}
use Rattle.lists.proofs.RowLoops.{row_start, row_add, row_skip}
use Rattle.candidates.proofs.RowEnds.{ones_end}
use Rattle.candidates.proofs.rows.ones_row.Goals as goal
use Rattle.candidates.proofs.rows.ones_row.Goals.{else-m-i-eq1, then-m-i-eq1}

pub loop-i-init : goal.loop-i-init
loop-i-init c = (omega arith, λ g e m. row_start c.told-row c.requires)

pub loop-i-preserved : goal.loop-i-preserved
loop-i-preserved c =
    let w = c.loop-i in
    let lt = c.loop-i-test.true in (
      elim c.if-m-i-eq1.branch [ then-m-i-eq1 v ↦ omega arith | else-m-i-eq1 v ↦ omega arith ],
      λ g e m.
          let t = rw (← m) at (sym (set_bit g w.i)) in
          let p = w.invariant.1 g e m in
          elim c.if-m-i-eq1.branch [
            | then-m-i-eq1 v ↦ rw (v.row-is, v.k-is, one_shl w.i 64 (omega arith))
                (row_add p lt (t ∙ eq-eqb _ 1 v.if-m-i-eq1.true) (sym (one_word _ w.i lt)) (one_at_length _ w.i) (omega arith))
            | else-m-i-eq1 v ↦ rw (v.row-is, v.k-is) (row_skip p lt (t ∙ ne_eqb _ 1 v.if-m-i-eq1.false))
          ],
    )

pub returns-clause-made : goal.returns-clause-made
returns-clause-made c = λ g e m. ones_end g e (c.loop-i.invariant.1 g e m) c.loop-i-test.false
