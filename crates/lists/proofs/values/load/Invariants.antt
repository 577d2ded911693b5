-- Loop: the words before i are those of the strings (`run_turn`).
use mathlib.Core.Path.{◌≡◌}
use mathlib.Core.List.{[]}
use Prim.Native.Nat.{ℕ, ◌<◌}
use lib.ListN.{length, get_or}
use Rattle.model.specs.Growth.{Entries}
use Rattle.words.specs.Words.{word}
use Rattle.tables.specs.Lists.{Stores}
use Rattle.lists.proofs.values.load.Given as goal

abbrev pub invariant-loop-i : goal.invariant-loop-i
invariant-loop-i v =
    (length v.list ≡ 256)
    × ((l : ℕ) (τ : Entries) → Stores l v.t.care v.t.value v.t.n τ → (m : ℕ) → m < v.i → get_or v.list m 0 ≡ word (get_or τ m []))
