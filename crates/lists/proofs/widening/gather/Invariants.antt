-- Loop (`GatheredSoFar`): the list stays, and the near ones of the entries before i are in the upper half.
use Prim.Native.Nat.{ℕ, ◌≤◌}
use Rattle.words.specs.Words.{word}
use Rattle.lists.specs.WorkingLists.{Holds, OfString}
use Rattle.lists.proofs.NearEntries.{GatheredSoFar}
use Rattle.lists.proofs.widening.gather.Given as goal

abbrev pub invariant-loop-i : goal.invariant-loop-i
invariant-loop-i v =
    (v.k ≤ v.i)
    × ((l : ℕ) → OfString l v.initial.list v.n v.y (λ τ s. Holds l v.list v.n τ × GatheredSoFar word v.list v.k τ s v.i))
