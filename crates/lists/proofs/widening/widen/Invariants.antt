-- Loop (`WidenedSoFar`): to widen z from position i on gives the whole, and up to the next open position nothing changes.
use mathlib.Core.Path.{◌≡◌}
use Prim.Native.Nat.{◌-◌, ◌≤◌}
use Rattle.model.specs.Strings.{Trits}
use Rattle.model.specs.Growth.{Entries}
use Rattle.words.specs.Words.{word}
use Rattle.lists.specs.Widening.{Ready}
use Rattle.lists.proofs.WideningByPasses.{WidenedSoFar}
use Rattle.lists.proofs.widening.widen.Given as goal

abbrev pub invariant-loop-i : goal.invariant-loop-i
invariant-loop-i l = (l.i ≤ l.l)
    × ((τ : Entries) (s : Trits) → Ready l.l l.list l.n l.k τ s → l.y ≡ word s → WidenedSoFar l.l τ s l.z l.i)

abbrev pub decreases-loop-i : goal.decreases-loop-i
decreases-loop-i l = l.l - l.i
