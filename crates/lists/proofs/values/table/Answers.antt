use mathlib.Core.Path.{ap}
use mathlib.Core.List.{[]}
use native.Mathlib.Omega.{arith}
use lib.ListN.{get_or}
use Rattle.words.specs.declared.Entry.{Entry}
use Rattle.lists.proofs.Holding.{holds_length}
use Rattle.lists.proofs.TableValues.{column_start, column_turn, column_table}
use Rattle.lists.proofs.values.table.Goals as goal

pub loop-i-init : goal.loop-i-init
loop-i-init c = λ τ h. (column_start _ τ, column_start _ τ)

pub loop-i-preserved : goal.loop-i-preserved
loop-i-preserved c =
    let lp = c.loop-i in
    λ τ h.
    let w = lp.invariant τ h in
    let is = c.from-e.ensures.1 (get_or τ lp.i []) (rw (holds_length h lp.i (omega arith)) h.short)
    (h.here lp.i (omega arith)) in (
      column_turn _ τ w.0 _ (omega arith) (ap (λ (e : Entry). e.care) is),
      column_turn _ τ w.1 _ (omega arith) (ap (λ (e : Entry). e.value) is),
    )

pub returns : goal.returns
returns c =
    let lp = c.loop-i in
    λ τ h. let w = lp.invariant τ h in column_table h.good.few h.count (omega arith) w.0 w.1
