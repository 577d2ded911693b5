-- Loop: each string from j up to i stands in a slot of the list's version (`seen_more`).
use Rattle.lists.specs.Filters.{Seen}
use Rattle.lists.proofs.filter.unseen.Given as goal

abbrev pub invariant-loop-i : goal.invariant-loop-i
invariant-loop-i l = Seen l.row l.seen l.j l.i
