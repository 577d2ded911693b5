-- Loop (`MatchedSoFar`): of the entries before i those that match v are in `taken`, the others at the front of the list.
use mathlib.Core.Path.{◌≡◌}
use Prim.Native.Nat.{ℕ, ◌≤◌}
use lib.ListN.{length}
use Rattle.model.specs.Strings.{Trits}
use Rattle.model.specs.Growth.{Entries}
use Rattle.words.specs.Words.{word}
use Rattle.lists.specs.WorkingLists.{Holds}
use Rattle.sides.proofs.MatchedEntries.{MatchedSoFar}
use Rattle.sides.proofs.take.Given as goal

abbrev pub invariant-loop-i : goal.invariant-loop-i
invariant-loop-i v = (v.k ≤ v.i)
    × ((l : ℕ) (τ : Entries) (t : Trits) → Holds l v.initial.list v.n τ → length t ≡ l → v.v ≡ word t
    → MatchedSoFar l τ v.n t v.list v.taken v.k v.i)
