-- What a compiler asks a table for: do goals on two sets of program variables share a run-time variable, does the term of a
-- program variable have one (01, "Questions" and "Bindings and runs"); and the numbers of variables after a projection.
use Rattle.std.specs.Prelude.{ℕ, T, take}
use Rattle.model.specs.Groups.{Bits, has}
use Rattle.model.specs.Tables.{kept}
use Rattle.model.specs.Terms.{occurs}
use Rattle.model.specs.Bindings.{Bindings, bound}

-- The run-time variable v occurs in the term of some program variable of the set m.
pub record Occurs (θ : Bindings) (m : Bits) (v : ℕ) : Type 0 where
  pub x : ℕ
  pub member : T (has m x)
  pub inside : T (occurs v (bound θ x))

-- Goals on the two sets share no run-time variable.
abbrev pub ShareNone : Bindings → Bits → Bits → Type 0
ShareNone θ a b = (v : ℕ) → ¬ (Occurs θ a v × Occurs θ b v)

-- The term of Xx has no run-time variable.
abbrev pub NoVariable : Bindings → ℕ → Type 0
NoVariable θ x = (v : ℕ) → ¬ (T (occurs v (bound θ x)))

-- The number that the kept variable x has after a projection onto k: how many of X1 to Xx are kept.
unfoldable pub renumbered : Bits → ℕ → ℕ
renumbered k x = kept (take x k)
