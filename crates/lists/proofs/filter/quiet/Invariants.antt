-- Loop: none of the entries from j up to i stirs y (`quiet_more`).
use mathlib.Core.Path.{◌≡◌}
use Prim.Native.Nat.{ℕ}
use lib.Dec.{T}
use Rattle.model.specs.Strings.{Trits, subsumes}
use Rattle.words.specs.Words.{care_of}
use Rattle.lists.specs.WorkingLists.{OfString}
use Rattle.lists.specs.Filters.{QuietFrom}
use Rattle.lists.proofs.filter.quiet.Given as goal

abbrev pub invariant-loop-i : goal.invariant-loop-i
invariant-loop-i v =
    (l : ℕ) → OfString l v.list v.n v.y (λ τ s. (z : Trits) → v.kept ≡ care_of z → T (subsumes z s) → QuietFrom τ s z v.j v.i)
