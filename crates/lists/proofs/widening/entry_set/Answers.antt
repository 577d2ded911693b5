use Rattle.lists.proofs.Passes.{opened, entries_start, entries_turn, entries_end}
use Rattle.lists.proofs.widening.entry_set.Goals as goal

pub loop-e-init : goal.loop-e-init
loop-e-init c = entries_start opened _ _ _

pub loop-e-preserved : goal.loop-e-preserved
loop-e-preserved c = entries_turn opened c.loop-e.invariant c.loop-e-test.true c.openings-found.ensures.strings

pub returns : goal.returns
returns c = entries_end opened c.loop-e.invariant c.loop-e.auto.e-index-end c.loop-e-test.false
