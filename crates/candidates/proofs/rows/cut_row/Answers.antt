use mathlib.Core.Path.{refl, sym}
use mathlib.Core.List.{[]}
use native.Mathlib.Omega.{arith}
use lib.ListN.{get_or}
use Rattle.model.specs.Groups.{cut}
use Rattle.model.proofs.Projection.{cut_length}
use Rattle.lists.proofs.RowLoops.{row_start, row_add}
use Rattle.lists.proofs.Passes.{entry_here}
use Rattle.candidates.proofs.RowEnds.{map_end, kept_le}
use Rattle.candidates.proofs.rows.cut_row.Goals as goal

pub loop-i-init : goal.loop-i-init
loop-i-init c = λ k τ h m. row_start c.told-row (omega (arith, kept_le k, h.short))

pub loop-i-preserved : goal.loop-i-preserved
loop-i-preserved c =
    let w = c.loop-i in
    λ k τ h m.
    let at = entry_here h w.i c.loop-i-test.true in
    row_add (w.invariant k τ h m) c.loop-i-test.true refl
    (c.cut.ensures.strings k (get_or τ w.i []) (sym at.long) (rw at.long h.short) m at.is)
    (cut_length k (get_or τ w.i []) at.long) (omega arith)

pub returns : goal.returns
returns c =
    let w = c.loop-i in
    λ k τ h m. map_end h (cut k) (w.invariant k τ h m) w.auto.i-end c.loop-i-test.false
