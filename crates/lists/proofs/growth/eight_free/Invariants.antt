-- Loop (`PartScan`): `free`, and the test of the entries from the index on, are the test of all eight.
use mathlib.Core.Bool.{not}
use Prim.Native.Nat.{◌+◌}
use Rattle.words.specs.Words.{subsumes_word}
use Rattle.tables.proofs.Scans.{all_scan}
use Rattle.lists.proofs.Slices.{PartScan}
use Rattle.lists.proofs.growth.eight_free.Given as goal

abbrev pub invariant-loop-e : goal.invariant-loop-e
invariant-loop-e l = PartScan all_scan (λ e. not (subsumes_word l.y e)) l.list l.j (l.j + 8) l.free l.e-index
