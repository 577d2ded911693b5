-- Loop: `good`, and the test of the entries that are left, are the test of all (`found_and_left`).
use mathlib.Core.Path.{◌≡◌}
use lib.ListN.{length}
use Rattle.tables.specs.Values.{clean, all_clean}
use Rattle.tables.proofs.Zipped.{found_and_left}
use Rattle.tables.proofs.all_clean.Given as goal

abbrev pub invariant-loop-c : goal.invariant-loop-c
invariant-loop-c l =
    all_clean l.l l.n l.care l.value ≡ found_and_left (clean l.l) l.care l.value 0 l.n l.good (length l.yielded)
