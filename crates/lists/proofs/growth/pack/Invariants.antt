-- Loop (`PackedSoFar`): what y does not subsume before i is at the front, and from i on the list is as it was.
use mathlib.Core.Bool.{not}
use Prim.Native.Nat.{ℕ, ◌≤◌}
use Rattle.model.specs.Strings.{subsumes}
use Rattle.lists.specs.WorkingLists.{OfString, Free}
use Rattle.lists.proofs.RowLoops.{PackedSoFar}
use Rattle.lists.proofs.growth.pack.Given as goal

abbrev pub invariant-loop-i : goal.invariant-loop-i
invariant-loop-i v = (v.k ≤ v.i)
    × ((l : ℕ) → OfString l v.initial.list v.n v.y (λ τ s. Free v.initial.list v.y v.j
    → PackedSoFar l (λ r. not (subsumes s r)) τ v.n v.list v.k v.i))
