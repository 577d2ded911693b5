-- Loop (`PartScan`): `found`, or the test of the strings from the index on, is the test of all.
use Rattle.words.specs.Words.{subsumes_word}
use Rattle.tables.proofs.Scans.{some_scan}
use Rattle.lists.proofs.Slices.{PartScan}
use Rattle.lists.proofs.growth.some_subsumes.Given as goal

abbrev pub invariant-loop-e : goal.invariant-loop-e
invariant-loop-e l = PartScan some_scan (λ e. subsumes_word e l.y) l.list l.j l.end l.found l.e-index
