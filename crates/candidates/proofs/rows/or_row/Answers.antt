use mathlib.Core.Path.{refl, sym, ◌∙◌}
use mathlib.Core.List.{[]}
use native.Mathlib.Omega.{arith}
use lib.ListN.{get_or}
use Rattle.model.specs.Strings.{or_strings}
use Rattle.model.proofs.Candidates.{or_strings_length}
use Rattle.lists.proofs.RowLoops.{row_start, row_add}
use Rattle.lists.proofs.Passes.{entry_here}
use Rattle.candidates.proofs.RowEnds.{map_end}
use Rattle.candidates.proofs.rows.or_row.Goals as goal

pub loop-i-init : goal.loop-i-init
loop-i-init c = λ l τ s h e a. row_start c.told-row h.short

pub loop-i-preserved : goal.loop-i-preserved
loop-i-preserved c =
    let w = c.loop-i in
    λ l τ s h e a.
    let at = entry_here h w.i c.loop-i-test.true in
    row_add (w.invariant l τ s h e a) c.loop-i-test.true refl
    (c.or.ensures.strings s (get_or τ w.i []) (e ∙ sym at.long) (rw e h.short) a at.is)
    (or_strings_length l s (get_or τ w.i []) e at.long) (omega arith)

pub returns : goal.returns
returns c =
    let w = c.loop-i in
    λ l τ s h e a. map_end h (or_strings s) (w.invariant l τ s h e a) w.auto.i-end c.loop-i-test.false
