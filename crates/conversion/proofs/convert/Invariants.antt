-- Loop (`SoFar`): the words before w are converted, and to go on with the others from the list gives the whole.
use mathlib.Core.Path.{◌≡◌}
use mathlib.Core.Bool.{true}
use mathlib.Core.List.{map}
use Prim.Native.Nat.{◌≤◌}
use Rattle.model.specs.Growth.{grow, convert}
use Rattle.words.specs.Words.{set}
use Rattle.conversion.specs.Conversion.{all_below}
use Rattle.lists.proofs.SoFar.{SoFar, Any}
use Rattle.conversion.proofs.Converting.{strings}
use Rattle.conversion.proofs.convert.Given as goal

abbrev pub invariant-loop-w : goal.invariant-loop-w
invariant-loop-w l = (l.n ≤ 256)
    × (all_below l.l l.words ≡ true → SoFar l.l grow (strings l.l l.words) (convert (map (set l.l) l.words)) Any l.list l.n l.w-index)
