-- A table's rule, proved at all of its entries by one test that the checker computes. Assumes nothing.
use mathlib.Core.Path.{◌≡◌, ap, ◌∙◌}
use mathlib.Core.Bool.{Bool, true, ◌&&◌}
use mathlib.Core.List.{List, [], ◌∷◌}
use Prim.Native.Nat.{ℕ, zero, suc, ◌+◌, ◌<◌}
use native.Mathlib.Nat.{zero-add, not-suc-le-zero, le_of_suc-le-suc}
use native.Mathlib.Omega.{arith}
use lib.Dec.{T, eqb, eqb→eq}
use lib.ListN.{length, get_or}
use Rattle.model.proofs.Tests.{and_first, and_second}

-- Each number of a list is what the rule says of its place; places are counted from i.
abbrev pub follows : (ℕ → ℕ) → ℕ → List ℕ → Bool
follows rule i [] = true
follows rule i (x ∷ xs) = eqb x (rule i) && follows rule (suc i) xs

-- So it is of the number at one place
at_from : (rule : ℕ → ℕ) (xs : List ℕ) (i : ℕ) → T (follows rule i xs) → (k : ℕ) → k < length xs → get_or xs k 0 ≡ rule (i + k)
at_from rule [] i t k h = absurd (not-suc-le-zero h)
at_from rule (x ∷ xs) i t zero h =
    eqb→eq x (rule i) (and_first (eqb x (rule i)) (follows rule (suc i) xs) t) ∙ ap rule (omega arith)
at_from rule (x ∷ xs) i t (suc k) h =
    at_from rule xs (suc i) (and_second (eqb x (rule i)) (follows rule (suc i) xs) t) k (le_of_suc-le-suc h)
    ∙ ap rule (omega arith)

-- and of the entry of a table.
pub at : (rule : ℕ → ℕ) (xs : List ℕ) → T (follows rule 0 xs) → (k : ℕ) → k < length xs → get_or xs k 0 ≡ rule k
at rule xs t k h = at_from rule xs 0 t k h ∙ ap rule (zero-add k)
