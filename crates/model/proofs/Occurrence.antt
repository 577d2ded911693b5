-- Which variables occur in a term after a substitution. Assumes nothing.
use mathlib.Core.Path.{◌≡◌, refl, sym, ap, ap₂, ◌∙◌, subst}
use mathlib.Core.Bool.{Bool, false, ◌||◌, or_assoc, or-false}
use mathlib.Core.List.{List, [], ◌∷◌, ◌++◌}
use mathlib.Core.Logic.{⊎_elim}
use Prim.Native.Nat.{ℕ}
use lib.Dec.{T, eqb, eqb→eq, eqb_refl}
use Rattle.model.specs.Terms.{Term, Terms, var, head, nil, cons, occurs, occurs_row, apply, apply_row}
use Rattle.model.proofs.Tests.{or_cases, or_left, or_right}

-- what occurs after σ occurs in what σ gives to a variable
mutual
  unfolding occurs occurs_row apply apply_row

  pub occurs_after : (σ : ℕ → Term) (w : ℕ) (t : Term) → T (occurs w (apply σ t)) → (v : ℕ) × T (occurs v t) × T (occurs w (σ v))
  occurs_after σ w (var v) h = (v, eqb_refl v, h)
  occurs_after σ w (head f ts) h = occurs_after_row σ w ts h

  occurs_after_row : (σ : ℕ → Term) (w : ℕ) (ts : Terms) → T (occurs_row w (apply_row σ ts))
      → (v : ℕ) × T (occurs_row v ts) × T (occurs w (σ v))
  occurs_after_row σ w nil h = absurd h
  occurs_after_row σ w (cons t ts) h =
      ⊎_elim
      (λ p. let r = occurs_after σ w t p in (r.0, or_left (occurs r.0 t) (occurs_row r.0 ts) r.1, r.2))
      (λ p. let r = occurs_after_row σ w ts p in (r.0, or_right (occurs r.0 t) (occurs_row r.0 ts) r.1, r.2))
      (or_cases (occurs w (apply σ t)) (occurs_row w (apply_row σ ts)) h)

-- and the other way round
mutual
  unfolding occurs occurs_row apply apply_row

  pub after_occurs : (σ : ℕ → Term) (w v : ℕ) (t : Term) → T (occurs v t) → T (occurs w (σ v)) → T (occurs w (apply σ t))
  after_occurs σ w v (var u) h k = subst (λ (x : ℕ). T (occurs w (σ x))) (eqb→eq v u h) k
  after_occurs σ w v (head f ts) h k = after_occurs_row σ w v ts h k

  after_occurs_row : (σ : ℕ → Term) (w v : ℕ) (ts : Terms) → T (occurs_row v ts) → T (occurs w (σ v))
      → T (occurs_row w (apply_row σ ts))
  after_occurs_row σ w v nil h k = absurd h
  after_occurs_row σ w v (cons t ts) h k =
      ⊎_elim
      (λ p. or_left (occurs w (apply σ t)) (occurs_row w (apply_row σ ts)) (after_occurs σ w v t p k))
      (λ p. or_right (occurs w (apply σ t)) (occurs_row w (apply_row σ ts)) (after_occurs_row σ w v ts p k))
      (or_cases (occurs v t) (occurs_row v ts) h)

-- ---- The variables of a term as a list

unfoldable mutual
  pub listed : Term → List ℕ
  listed (var v) = v ∷ []
  listed (head f ts) = listed_row ts

  pub listed_row : Terms → List ℕ
  listed_row nil = []
  listed_row (cons t ts) = listed t ++ listed_row ts

-- some number of the list passes the test
unfoldable pub any : (ℕ → Bool) → List ℕ → Bool
any p [] = false
any p (v ∷ vs) = p v || any p vs

pub any_append : (p : ℕ → Bool) (us vs : List ℕ) → any p (us ++ vs) ≡ (any p us || any p vs)
unfolding any
any_append p [] vs = refl
any_append p (u ∷ us) vs = ap (λ (b : Bool). p u || b) (any_append p us vs) ∙ sym (or_assoc (p u) (any p us) (any p vs))

mutual
  unfolding any listed listed_row occurs occurs_row

  pub any_listed : (v : ℕ) (t : Term) → any (eqb v) (listed t) ≡ occurs v t
  any_listed v (var u) = or-false (eqb v u)
  any_listed v (head f ts) = any_listed_row v ts

  any_listed_row : (v : ℕ) (ts : Terms) → any (eqb v) (listed_row ts) ≡ occurs_row v ts
  any_listed_row v nil = refl
  any_listed_row v (cons t ts) = any_append (eqb v) (listed t) (listed_row ts) ∙ ap₂ ◌||◌ (any_listed v t) (any_listed_row v ts)

pub any_some : (p : ℕ → Bool) (v : ℕ) (vs : List ℕ) → T (any (eqb v) vs) → T (p v) → T (any p vs)
unfolding any
any_some p v [] h k = h
any_some p v (u ∷ us) h k =
    ⊎_elim
    (λ e. or_left (p u) (any p us) (subst (λ (x : ℕ). T (p x)) (eqb→eq v u e) k))
    (λ i. or_right (p u) (any p us) (any_some p v us i k))
    (or_cases (eqb v u) (any (eqb v) us) h)

pub some_any : (p : ℕ → Bool) (vs : List ℕ) → T (any p vs) → (v : ℕ) × T (p v)
unfolding any
some_any p [] h = absurd h
some_any p (u ∷ us) h = ⊎_elim (λ k. (u, k)) (λ k. some_any p us k) (or_cases (p u) (any p us) h)
