-- The value words stay 256.
use mathlib.Core.Path.{◌≡◌}
use lib.ListN.{length}
use Rattle.paper_examples.proofs.read_table.Given as goal

abbrev pub invariant-loop-i : goal.invariant-loop-i
invariant-loop-i l = length l.value ≡ 256
