-- Loop: x covers all that y covers and no entry does (`narrows_more`), and is no less.
use Prim.Native.Nat.{ℕ, ◌≤◌}
use Rattle.model.specs.Growth.{covered}
use Rattle.lists.specs.WorkingLists.{OfWords}
use Rattle.covering.specs.Covering.{Narrows}
use Rattle.covering.proofs.cover.narrowed.Given as goal

abbrev pub invariant-loop-v : goal.invariant-loop-v
invariant-loop-v v = (v.y ≤ v.x)
    × ((l : ℕ) → OfWords l v.list v.y (λ τ s. Narrows (covered τ) s v.x))
