-- A near entry subsumes the string exactly where any does (`near_subsumed`).
use mathlib.Core.Path.{◌∙◌}
use native.Mathlib.Omega.{arith}
use Rattle.lists.proofs.Slices.{words_held}
use Rattle.lists.proofs.NearEntries.{near_subsumed}
use Rattle.lists.proofs.widening.covered.Goals as goal

pub returns-then-n-gt-UPPER : goal.returns-then-n-gt-UPPER
returns-then-n-gt-UPPER c =
    λ l τ s t ready y z wide short long over.
    c.subsumed.ensures.strings l τ t (words_held ready.held) (long ∙ ready.long) z

pub returns : goal.returns
returns c =
    λ l τ s t ready y z wide short long over.
    c.shades_subsume.ensures τ s t (ready.shades (omega arith)) y z wide short long over
    ∙ near_subsumed s t (rw over tt) τ
