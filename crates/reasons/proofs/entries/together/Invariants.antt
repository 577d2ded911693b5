-- Loop: the set is that of the parts of the entries before e (`parts_word`); at the end these are the groups together.
use mathlib.Core.Path.{◌≡◌}
use Rattle.reasons.specs.Entries.{parts_word}
use Rattle.reasons.proofs.entries.together.Given as goal

abbrev pub invariant-loop-e : goal.invariant-loop-e
invariant-loop-e l = l.set ≡ parts_word l.list l.s l.m l.e-index
