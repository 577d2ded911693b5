-- The near entries open what all do (`near_open`).
use mathlib.Core.Path.{◌∙◌}
use native.Mathlib.Omega.{arith}
use Rattle.lists.proofs.NearEntries.{near_open}
use Rattle.lists.proofs.widening.open_set.Goals as goal

pub returns-then-n-gt-UPPER : goal.returns-then-n-gt-UPPER
returns-then-n-gt-UPPER c =
    λ l τ s t ready y z wide short long over.
    c.entry_set.ensures l τ t ready.held (long ∙ ready.long) z

pub returns : goal.returns
returns c =
    λ l τ s t ready y z wide short long over.
    c.shade_set.ensures τ s t (ready.shades (omega arith)) y z wide short long over
    ∙ near_open s t (rw over tt) τ wide long
