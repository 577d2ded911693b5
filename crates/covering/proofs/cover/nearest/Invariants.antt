-- Loop (`Best`): the best so far matches; while there is none, no entry so far matches, and `few` is above any rank.
use mathlib.Core.Bool.{true, false}
use mathlib.Core.List.{[]}
use mathlib.Core.Path.{◌≡◌}
use Prim.Native.Nat.{ℕ, ◌<◌}
use Rattle.std.specs.Prelude.{Option, Some, None, MatchOption}
use lib.ListN.{length, get_or}
use Rattle.model.specs.Strings.{Trits, matches}
use Rattle.model.specs.Growth.{Entries}
use Rattle.lists.specs.WorkingLists.{OfWords}
use Rattle.covering.proofs.cover.nearest.Given as goal

-- the best of the first i entries
abbrev pub Best : Entries → Trits → ℕ → Option ℕ → Type 0
Best τ s i (Some r) = (r < length τ) × (matches (get_or τ r []) s ≡ true)
Best τ s i None = (k : ℕ) → k < i → matches (get_or τ k []) s ≡ false

abbrev pub invariant-loop-i : goal.invariant-loop-i
invariant-loop-i v = MatchOption v.best (64 < v.few) (λ r. r < length v.list)
    × ((l : ℕ) → OfWords l v.list v.y (λ τ s. Best τ s v.i v.best))
