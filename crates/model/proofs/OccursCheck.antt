-- What the kind of an equation says of its term, and that a deeper one has no finite solution (02, request 6; the occurs
-- check of unification). Assumes nothing.
use mathlib.Core.Path.{◌≡◌, refl, sym, ap}
use mathlib.Core.Bool.{Bool, true, false, cond}
use mathlib.Core.Logic.{⊎_elim}
use Prim.Native.Nat.{ℕ, suc, ◌+◌, ◌≤◌}
use native.Mathlib.Omega.{arith}
use lib.Dec.{T, eqb, eqb→eq, eqb_refl}
use Rattle.model.specs.Terms.{Term, Terms, var, head, nil, cons, occurs, occurs_row, apply, apply_row}
use Rattle.model.specs.Equations.{Equation, Kind, itself, deeper, plain, holding, kind}
use Rattle.model.specs.Bindings.{Bindings, Substitution, bound, as_bound}
use Rattle.model.proofs.Tests.{true_of, or_cases}

-- ---- The three kinds

-- x = x is itself.
pub kind_itself : (x : ℕ) → kind (record { left = x; right = var x }) ≡ itself
unfolding kind holding occurs
kind_itself x = rw (true_of (eqb x x) (eqb_refl x))

-- A term with a head that holds x is deeper.
pub kind_deeper : (x f : ℕ) (ts : Terms) → T (occurs_row x ts) → kind (record { left = x; right = head f ts }) ≡ deeper
unfolding kind holding occurs
kind_deeper x f ts h = rw (true_of (occurs_row x ts) h)

-- A plain equation is not x = x.
pub plain_other : {k : Kind} → k ≡ plain → ¬ (k ≡ itself)
plain_other p q = let z : ◌≡◌ {A = ℕ} 0 1 = cc in omega arith

-- And back: only x = x is itself,
pub itself_is : (e : Equation) → kind e ≡ itself → e.right ≡ var e.left
unfolding kind holding occurs
itself_is e k = go e.right (occurs e.left e.right) (λ h. h) k
  where
    go : (t : Term) (b : Bool) → (T b → T (occurs e.left t)) → cond b (holding t) plain ≡ itself → t ≡ var e.left
    go (var y) true h k = ap var (sym (eqb→eq e.left y (h tt)))
    go (head f ts) true h k = absurd (let z : ◌≡◌ {A = ℕ} 0 1 = cc in omega arith)
    go t false h k = absurd (let z : ◌≡◌ {A = ℕ} 0 1 = cc in omega arith)

-- and a deeper one has a head, and holds the variable under it.
pub record Deeper (e : Equation) : Type 0 where
  pub symbol : ℕ
  pub arguments : Terms
  pub is : e.right ≡ head symbol arguments
  pub held : T (occurs_row e.left arguments)

pub deeper_is : (e : Equation) → kind e ≡ deeper → Deeper e
unfolding kind holding occurs
deeper_is e k = go e.right refl (occurs e.left e.right) (λ h. h) k
  where
    go : (t : Term) → e.right ≡ t → (b : Bool) → (T b → T (occurs e.left t)) → cond b (holding t) plain ≡ deeper → Deeper e
    go (var y) q true h k = absurd (let z : ◌≡◌ {A = ℕ} 0 1 = cc in omega arith)
    go (head f ts) q true h k = record { symbol = f; arguments = ts; is = q; held = h tt }
    go t q false h k = absurd (let z : ◌≡◌ {A = ℕ} 0 1 = cc in omega arith)

-- A plain one does not hold it.
pub plain_is : (e : Equation) → kind e ≡ plain → ¬ (T (occurs e.left e.right))
unfolding kind holding
plain_is e k = go e.right (occurs e.left e.right) k
  where
    go : (t : Term) (b : Bool) → cond b (holding t) plain ≡ plain → ¬ (T b)
    go (var y) true k h = let z : ◌≡◌ {A = ℕ} 0 1 = cc in omega arith
    go (head f ts) true k h = let z : ◌≡◌ {A = ℕ} 0 1 = cc in omega arith
    go t false k h = h

-- ---- No finite solution

-- How many variables and heads a term, a row of terms, has.
unfoldable mutual
  size : Term → ℕ
  size (var v) = 1
  size (head f ts) = suc (size_row ts)

  size_row : Terms → ℕ
  size_row nil = 0
  size_row (cons t ts) = size t + size_row ts

module _ (θ : Bindings) (σ : Substitution) where
  -- a term that holds x is, as bound and after σ, no smaller than x is
  mutual
    unfolding occurs occurs_row apply apply_row size size_row

    holds_size : (x : ℕ) (t : Term) → T (occurs x t) → size (apply σ (bound θ x)) ≤ size (apply σ (apply (bound θ) t))
    holds_size x (var y) h = rw (eqb→eq x y h) (omega arith)
    holds_size x (head f ts) h = omega (arith, row_size x ts h)

    row_size : (x : ℕ) (ts : Terms) → T (occurs_row x ts)
        → size (apply σ (bound θ x)) ≤ size_row (apply_row σ (apply_row (bound θ) ts))
    row_size x nil h = absurd h
    row_size x (cons t ts) h =
        ⊎_elim (λ k. omega (arith, holds_size x t k)) (λ k. omega (arith, row_size x ts k))
        (or_cases (occurs x t) (occurs_row x ts) h)

  -- Whatever the bindings, no substitution to finite terms makes the two sides of a deeper equation as bound equal.
  pub no_solution : (e : Equation) → kind e ≡ deeper → ¬ (apply σ (bound θ e.left) ≡ apply σ (as_bound θ e.right))
  unfolding as_bound apply size
  no_solution e k same = go e.right d.is same
    where
      d : Deeper e
      d = deeper_is e k

      go : (t : Term) → t ≡ head d.symbol d.arguments → ¬ (apply σ (bound θ e.left) ≡ apply σ (apply (bound θ) t))
      go (var y) q same = let z : ◌≡◌ {A = ℕ} 0 1 = cc in omega arith
      go (head f ts) q same =
          let is : ts ≡ d.arguments = cc in
          let longer = row_size e.left ts (rw is d.held) in
          omega (arith, longer, ap size same)
