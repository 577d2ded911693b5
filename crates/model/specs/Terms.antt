-- Terms and their variables (01, "Terms" and "Bindings and runs"). One type serves for both kinds of term: the variables
-- are program variables, X1 to Xl, in a side of an equation, and run-time variables, numbered without end, in a finite
-- term.
use Rattle.std.specs.Prelude.{Bool, false, ◌||◌, [], ◌∷◌, ℕ, zero, suc, eqb}
use Rattle.model.specs.Groups.{Bits}

mutual
  -- A variable, or a head: a symbol with its row of arguments. The arity is the number of arguments.
  pub data Term : Type 0 where
    var : ℕ → Term
    head : ℕ → Terms → Term

  -- A row of terms.
  pub data Terms : Type 0 where
    nil : Terms
    cons : Term → Terms → Terms

-- How many terms a row has.
unfoldable pub arity : Terms → ℕ
arity nil = 0
arity (cons t ts) = suc (arity ts)

-- The variable v occurs in a term, in a row of terms.
unfoldable mutual
  pub occurs : ℕ → Term → Bool
  occurs v (var u) = eqb v u
  occurs v (head f ts) = occurs_row v ts

  pub occurs_row : ℕ → Terms → Bool
  occurs_row v nil = false
  occurs_row v (cons t ts) = occurs v t || occurs_row v ts

-- A term, a row of terms, with each variable replaced by its term.
unfoldable mutual
  pub apply : (ℕ → Term) → Term → Term
  apply σ (var v) = σ v
  apply σ (head f ts) = head f (apply_row σ ts)

  pub apply_row : (ℕ → Term) → Terms → Terms
  apply_row σ nil = nil
  apply_row σ (cons t ts) = cons (apply σ t) (apply_row σ ts)

-- The set of those of X1 to Xl that pass the test.
unfoldable pub set_of : ℕ → (ℕ → Bool) → Bits
set_of zero p = []
set_of (suc l) p = p 1 ∷ set_of l (λ i. p (suc i))

-- The set of those of X1 to Xl that occur in the term.
unfoldable pub variables : ℕ → Term → Bits
variables l t = set_of l (λ i. occurs i t)
