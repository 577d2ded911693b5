-- The set of a term's variables, and the groups that meet it. Assumes nothing.
use mathlib.Core.Path.{◌≡◌, refl, ap, subst}
use mathlib.Core.Bool.{Bool, false, ◌&&◌}
use mathlib.Core.List.{[], ◌∷◌}
use mathlib.Core.Logic.Iff
use mathlib.Core.Logic.{◌↔◌, ⊎_elim}
use Prim.Native.Nat.{ℕ, zero, suc, ◌≤◌, ◌<◌}
use native.Mathlib.Nat.{suc_inj, suc-ne-zero, not-suc-le-zero, le_of_suc-le-suc}
use lib.Dec.{T, eqb→eq, eqb_refl}
use lib.ListN.{length, get_or}
use Rattle.model.specs.Groups.{Bits, has, meets}
use Rattle.model.specs.Terms.{Term, var, occurs, set_of, variables}
use Rattle.model.specs.Equations.{WithVariable, WithSome}
use Rattle.model.proofs.Tests.{or_cases, or_left, or_right, and_first, and_second, and_both, same_test}

pub set_of_length : (l : ℕ) (p : ℕ → Bool) → length (set_of l p) ≡ l
unfolding set_of
set_of_length zero p = refl
set_of_length (suc l) p = ap suc (set_of_length l (λ i. p (suc i)))

pub variables_length : (l : ℕ) (t : Term) → length (variables l t) ≡ l
unfolding variables
variables_length l t = set_of_length l (λ i. occurs i t)

pub has_set_of : (l : ℕ) (p : ℕ → Bool) (y : ℕ) → T (has (set_of l p) y) → T (p y)
unfolding has set_of
has_set_of l p zero h = absurd h
has_set_of zero p (suc i) h = absurd h
has_set_of (suc l) p (suc zero) h = h
has_set_of (suc l) p (suc (suc i)) h = has_set_of l (λ j. p (suc j)) (suc i) h

pub set_of_has : (l : ℕ) (p : ℕ → Bool) (y : ℕ) (g : Bits) → length g ≡ l → T (has g y) → T (p y) → T (has (set_of l p) y)
unfolding has set_of
set_of_has l p zero g e h k = h
set_of_has l p (suc i) [] e h k = absurd h
set_of_has zero p (suc i) (b ∷ g) e h k = absurd (suc-ne-zero _ e)
set_of_has (suc l) p (suc zero) (b ∷ g) e h k = k
set_of_has (suc l) p (suc (suc i)) (b ∷ g) e h k = set_of_has l (λ j. p (suc j)) (suc i) g (suc_inj e) h k

-- the test at one of X1 to Xl
set_of_at : (l : ℕ) (p : ℕ → Bool) (i : ℕ) → i < l → get_or (set_of l p) i false ≡ p (suc i)
unfolding set_of
set_of_at zero p i h = absurd (not-suc-le-zero h)
set_of_at (suc l) p zero h = refl
set_of_at (suc l) p (suc i) h = set_of_at l (λ j. p (suc j)) i (le_of_suc-le-suc h)

-- The set of t's variables has x, one of X1 to Xl, exactly when x occurs in t.
pub variables_has : (l x : ℕ) (t : Term) → 0 < x → x ≤ l → has (variables l t) x ≡ occurs x t
unfolding has variables
variables_has l zero t p q = absurd (not-suc-le-zero p)
variables_has l (suc i) t p q = set_of_at l (λ j. occurs j t) i q

-- a group meets a set exactly when it has a variable of the set
pub meets_has : (m g : Bits) → T (meets m g) → (y : ℕ) × T (has m y) × T (has g y)
unfolding has meets
meets_has [] g h = absurd h
meets_has (a ∷ m) [] h = absurd h
meets_has (a ∷ m) (b ∷ g) h =
    ⊎_elim (λ k. (1, and_first a b k, and_second a b k)) (λ k. up (meets_has m g k)) (or_cases (a && b) (meets m g) h)
  where
    go : (y : ℕ) → T (has m y) → T (has g y) → (y : ℕ) × T (has (a ∷ m) y) × T (has (b ∷ g) y)
    go zero i j = absurd i
    go (suc n) i j = (suc (suc n), i, j)

    up : (y : ℕ) × T (has m y) × T (has g y) → (y : ℕ) × T (has (a ∷ m) y) × T (has (b ∷ g) y)
    up r = go r.0 r.1 r.2

pub has_meets : (m g : Bits) (y : ℕ) → T (has m y) → T (has g y) → T (meets m g)
unfolding has meets
has_meets m g zero i j = absurd i
has_meets [] g (suc y) i j = absurd i
has_meets (a ∷ m) [] (suc y) i j = absurd j
has_meets (a ∷ m) (b ∷ g) (suc zero) i j = or_left (a && b) (meets m g) (and_both a b i j)
has_meets (a ∷ m) (b ∷ g) (suc (suc y)) i j = or_right (a && b) (meets m g) (has_meets m g (suc y) i j)

-- a group of l positions meets the variables of t exactly when it has some variable of t
pub meets_variables : (l : ℕ) (t : Term) (g : Bits) → length g ≡ l → T (meets (variables l t) g) ↔ WithSome t g
unfolding variables
meets_variables l t g e = (
  λ h. let r = meets_has (variables l t) g h in (r.0, has_set_of l (λ i. occurs i t) r.0 r.1, r.2),
  λ r. has_meets (variables l t) g r.0 (set_of_has l (λ i. occurs i t) r.0 g e r.2 r.1) r.2,
)

pub meets_variable : (l x : ℕ) (g : Bits) → length g ≡ l → T (meets (variables l (var x)) g) ↔ WithVariable x g
unfolding occurs
meets_variable l x g e =
    Iff.trans (meets_variables l (var x) g e)
    (λ r. subst (λ (y : ℕ). T (has g y)) (eqb→eq r.0 x r.1) r.2, λ h. (x, eqb_refl x, h))

-- The set of x alone, one of X1 to Xl, meets that of t's variables exactly when x occurs in t.
pub variables_meet : (l x : ℕ) (t : Term) → 0 < x → x ≤ l → meets (variables l (var x)) (variables l t) ≡ occurs x t
variables_meet l x t p q =
    let m = meets_variable l x (variables l t) (variables_length l t) in
    let h = variables_has l x t p q in
    same_test (meets (variables l (var x)) (variables l t)) (occurs x t) (λ k. rw h at (m.0 k)) (λ k. m.1 (rw h k))
