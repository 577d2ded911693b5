-- Loop (`Along`): the row has the or of a with each string before i (`map_end`).
use mathlib.Core.Bool.{true}
use Prim.Native.Nat.{ℕ}
use Rattle.model.specs.Strings.{or_strings}
use Rattle.lists.specs.WorkingLists.{OfString}
use Rattle.lists.proofs.RowLoops.{Along}
use Rattle.candidates.proofs.rows.or_row.Given as goal

abbrev pub invariant-loop-i : goal.invariant-loop-i
invariant-loop-i v = (l : ℕ) → OfString l v.list v.n v.a (λ τ s. Along l (λ y. true) (or_strings s) τ v.n v.row v.i v.i)
