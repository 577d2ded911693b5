-- A run that stopped before any equation has applied none.
use Rattle.running.proofs.refused.Goals as goal

pub returns : goal.returns
returns c = rw (c.stopped.ensures, c.zero.ensures)
