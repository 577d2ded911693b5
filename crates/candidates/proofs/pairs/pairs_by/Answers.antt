use mathlib.Core.List.{[]}
use native.Mathlib.Omega.{arith}
use Rattle.lists.specs.WorkingLists.{Holds}
use Rattle.lists.proofs.Holding.{within_count}
use Rattle.candidates.proofs.RowsGrown.{rows_start, rows_turn, rows_stop, rows_end}
use Rattle.candidates.proofs.pairs.pairs_by.Goals as goal

pub loop-x-init : goal.loop-x-init
loop-x-init g c = (
  omega arith,
  rows_start _ _ _ _ (Holds _ _ _) _ c.told-list (λ short. c.start-growing.ensures []),
)

pub returns-in_err-n-clause-made : goal.returns-in_err-n-clause-made
returns-in_err-n-clause-made g c =
    rw c.from_residual.ensures (rows_stop _ _ _ _ (Holds _ _ _) c.loop-x.invariant.1 c.loop-x-test.true
    (c.pair_row-m.ensures.made _) c.grow_row.ensures.made c.in_err-n.was)

pub loop-x-preserved : goal.loop-x-preserved
loop-x-preserved g c = (
  within_count c.grow_row.ensures.within c.in_ok-n.was,
  rows_turn _ _ _ _ (Holds _ _ _) c.loop-x.invariant.1 c.loop-x-test.true (c.pair_row-m.ensures.made _)
      c.grow_row.ensures.made c.in_ok-n.was c.grow_row.ensures.kept,
)

pub returns-clause-made : goal.returns-clause-made
returns-clause-made g c = rows_end _ _ _ _ (Holds _ _ _) c.loop-x.invariant.1 c.loop-x-test.false
