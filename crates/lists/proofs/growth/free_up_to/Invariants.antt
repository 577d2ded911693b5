-- Loop: y subsumes no entry before block b; a block that is free adds its eight (`free_more`).
use Prim.Native.Nat.{◌*◌}
use Rattle.lists.specs.WorkingLists.{Free}
use Rattle.lists.proofs.growth.free_up_to.Given as goal

abbrev pub invariant-loop-b : goal.invariant-loop-b
invariant-loop-b l = Free l.list l.y (8 * l.b)
