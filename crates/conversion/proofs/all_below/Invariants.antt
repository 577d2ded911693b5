-- Loop: `good`, and the test of the words from w on, are the test of all (`below_turn`, `below_end`).
use mathlib.Core.Path.{◌≡◌}
use mathlib.Core.Bool.{◌&&◌}
use lib.ListN.{drop}
use Rattle.conversion.specs.Conversion.{all_below}
use Rattle.conversion.proofs.all_below.Given as goal

abbrev pub invariant-loop-w : goal.invariant-loop-w
invariant-loop-w l = all_below l.l l.words ≡ (l.good && all_below l.l (drop l.w-index l.words))
