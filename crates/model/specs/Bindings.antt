-- Bindings, unifiers, and what a table says of bindings (01, "Bindings and runs").
use Rattle.std.specs.Prelude.{◌≡◌, false, ◌||◌, List, map, ◌⊎◌, ℕ, zero, suc, T, get_or}
use Rattle.model.specs.Groups.{Bits, Groups, nonzero}
use Rattle.model.specs.Terms.{Term, var, head, nil, occurs, apply}

-- Bindings give each of X1 to Xl a finite term.
abbrev pub Bindings : Type 0
Bindings = List Term

-- The term of the program variable x, from 1; a term without variables where x is not 1 to l.
unfoldable pub bound : Bindings → ℕ → Term
bound θ zero = head 0 nil
bound θ (suc i) = get_or θ i (head 0 nil)

-- A side as bound: each program variable replaced by its term.
unfoldable pub as_bound : Bindings → Term → Term
as_bound θ t = apply (bound θ) t

-- A substitution gives every run-time variable a finite term.
abbrev pub Substitution : Type 0
Substitution = ℕ → Term

-- It touches each run-time variable to which it gives something other than itself.
abbrev pub Touches : Substitution → ℕ → Type 0
Touches σ v = ¬ (σ v ≡ var v)

-- It brings in those that occur in what it gives the touched ones.
abbrev pub BringsIn : Substitution → ℕ → Type 0
BringsIn σ w = (v : ℕ) × Touches σ v × T (occurs w (σ v))

-- An admitted unifier: it makes the two sides as bound the same term, and each variable that it touches or brings in occurs
-- in at least one of these sides.
pub record Admitted (σ : Substitution) (s t : Term) : Type 0 where
  pub unifies : apply σ s ≡ apply σ t
  pub touched : (v : ℕ) → Touches σ v → T (occurs v s || occurs v t)
  pub brought : (v : ℕ) → BringsIn σ v → T (occurs v s || occurs v t)

-- The unifier is applied to all l terms.
unfoldable pub apply_all : Substitution → Bindings → Bindings
apply_all σ θ = map (apply σ) θ

-- The string with 1 at exactly the program variables whose terms the run-time variable v occurs in.
unfoldable pub string_of : Bindings → ℕ → Bits
string_of θ v = map (occurs v) θ

-- A set of groups describes bindings if, for each run-time variable, this string is all zero or one of the groups.
abbrev pub Describes : Groups → Bindings → Type 0
Describes S θ = (v : ℕ) → (nonzero (string_of θ v) ≡ false) ⊎ S (string_of θ v)
