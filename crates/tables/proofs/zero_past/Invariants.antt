-- Loop: that nothing is gathered, and the test of the words that are left, are the test of all past the count.
use mathlib.Core.Path.{◌≡◌}
use Prim.Native.Nat.{◌-◌}
use lib.Dec.{eqb}
use lib.ListN.{length}
use Rattle.tables.specs.Values.{is_zero, zero_past}
use Rattle.tables.proofs.Zipped.{found_and_left}
use Rattle.tables.proofs.zero_past.Given as goal

abbrev pub invariant-loop-c : goal.invariant-loop-c
invariant-loop-c l =
    zero_past l.n l.care l.value ≡ found_and_left is_zero l.care l.value l.n (256 - l.n) (eqb l.some 0) (length l.yielded)
