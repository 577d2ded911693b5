-- The premises of demand 3 can be met: from three unbound variables, X1 = f(X2, X3) and then X2 = g(X3) each have an
-- admitted unifier that is not trivial, the model reaches new bindings, and the last table describes them; by one call each, and
-- by the one call f(X1, X2) = f(f(X2, X3), g(X3)). Assumes nothing.
use mathlib.Core.Path.{◌≡◌, refl, sym, subst}
use mathlib.Core.Bool.{Bool, true, false, ◌||◌, cond}
use mathlib.Core.List.{List, [], ◌∷◌}
use Prim.Native.Nat.{ℕ}
use native.Mathlib.Omega.{arith}
use lib.Dec.{T, eqb, eqb_refl}
use Rattle.model.specs.Strings.{t0, t1}
use Rattle.model.specs.Growth.{◌>>=◌, Entries}
use Rattle.model.specs.Tables.{positive, Good, groups}
use Rattle.model.specs.Terms.{Term, Terms, var, head, nil, cons, arity, occurs, apply, apply_row}
use Rattle.model.specs.Equations.{Equation, plain, kind}
use Rattle.model.specs.Bindings.{Bindings, Substitution, Touches, bound, as_bound, Admitted, apply_all, Describes}
use Rattle.model.specs.Walk.{Sides, both, walk, walk_row}
use Rattle.model.specs.Unification.{walk_entries, unification}
use Rattle.model.specs.Calls.{Step, unified, Steps, Walks, accepted, Reaches, returned, event, last_table, events}
use Rattle.model.specs.Calls.{answer, unify_call}
use Rattle.model.proofs.Tests.{or_right, true_of}
use Rattle.model.proofs.OccursCheck.{plain_other}
use Rattle.model.proofs.Computing.{equations, procedures}
use Rattle.model.proofs.Unbound.{singles_good, unbound_described}
use Rattle.model.proofs.Demand3.{with_variable, calls_described}

-- The substitution that gives n the term u and every other variable itself.
abbrev pub gives : ℕ → Term → Substitution
gives n u v = cond (eqb v n) u (var v)

-- It is an admitted unifier of the variable n and the term u, where it leaves u as it is (n does not occur in u).
pub gives_admitted : (n : ℕ) (u : Term) → apply (gives n u) (var n) ≡ u → apply (gives n u) u ≡ u → Admitted (gives n u) (var n) u
unfolding occurs
gives_admitted n u d e = record {
  unifies = subst (λ (x : Term). apply (gives n u) (var n) ≡ x) (sym e) d;
  touched = λ v k. touched v (eqb v n) k;
  brought = λ w b. brought w b.0 (eqb b.0 n) b.1 b.2;
}
  where
    touched : (v : ℕ) (b : Bool) → ¬ (cond b u (var v) ≡ var v) → T (b || occurs v u)
    touched v true k = tt
    touched v false k = absurd (k refl)

    brought : (w v : ℕ) (b : Bool) → ¬ (cond b u (var v) ≡ var v) → T (occurs w (cond b u (var v))) → T (eqb w n || occurs w u)
    brought w v true k o = or_right (eqb w n) (occurs w u) o
    brought w v false k o = absurd (k refl)

-- It touches n, where u is a head with its arguments.
pub gives_touches : (n f : ℕ) (ts : Terms) → Touches (gives n (head f ts)) n
gives_touches n f ts e =
    let same : eqb n n ≡ true = true_of (eqb n n) (eqb_refl n) in
    let clash : head f ts ≡ var n = rw same at e in
    let z : ◌≡◌ {A = ℕ} 0 1 = cc in
    omega arith

-- f(s, t).
abbrev pub f_of : Term → Term → Term
f_of s t = head 1 (cons s (cons t nil))

-- g(t).
abbrev pub g_of : Term → Term
g_of t = head 2 (cons t nil)

-- X1 = f(X2, X3).
abbrev pub first : Equation
first = record { left = 1; right = f_of (var 2) (var 3) }

-- X2 = g(X3).
abbrev pub second : Equation
second = record { left = 2; right = g_of (var 3) }

-- An equation as two sides.
abbrev pub sides_of : Equation → Sides
sides_of e = with_variable e.left e.right

-- The two equations as calls, one after the other.
abbrev calls : List Sides
calls = sides_of first ∷ sides_of second ∷ []

-- f(X1, X2) = f(f(X2, X3), g(X3)): its walk finds both equations.
abbrev pub together : Sides
together = record { left = f_of (var 1) (var 2); right = f_of first.right second.right }

-- Each program variable is bound to a run-time variable of its own.
abbrev pub start : Bindings
start = var 1 ∷ var 2 ∷ var 3 ∷ []

-- The table that says so.
abbrev pub start_table : Entries
start_table = (t1 ∷ t0 ∷ t0 ∷ []) ∷ (t0 ∷ t1 ∷ t0 ∷ []) ∷ (t0 ∷ t0 ∷ t1 ∷ []) ∷ []

-- It is good.
pub start_good : Good 3 start_table
start_good = singles_good 3 (omega arith)

-- It describes these bindings.
pub start_described : Describes (groups positive 3 start_table) start
start_described = unbound_described 3

-- The bindings after both equations.
abbrev pub end : Bindings
end = f_of (g_of (var 3)) (var 3) ∷ g_of (var 3) ∷ var 3 ∷ []

-- The table after both equations.
abbrev pub end_table : Entries
end_table = (t1 ∷ t1 ∷ t1 ∷ []) ∷ []

-- the bindings between
abbrev middle : Bindings
middle = first.right ∷ var 2 ∷ var 3 ∷ []

-- In neither equation does the term hold the variable.
pub plains : (kind first ≡ plain) × (kind second ≡ plain)
unfolding equations
plains = (refl, refl)

-- Each equation has an admitted unifier that leads on.
steps : Step start first middle × Step middle second end
unfolding bound as_bound apply apply_row apply_all
steps = (
  unified (plain_other plains.0) (gives 1 first.right) (gives_admitted 1 first.right refl refl),
  unified (plain_other plains.1) (gives 2 second.right) (gives_admitted 2 second.right refl refl),
)

-- Neither unifier is trivial: each touches the variable of the left side.
pub reached_touches : Touches (gives 1 first.right) 1 × Touches (gives 2 second.right) 2
reached_touches = (gives_touches 1 1 (cons (var 2) (cons (var 3) nil)), gives_touches 2 2 (cons (var 3) nil))

-- The model reaches the bindings after both equations, by one call each
pub reached : Reaches start (accepted (sides_of first) ∷ accepted (sides_of second) ∷ []) end
unfolding walk Steps Walks Reaches
reached = (middle, (middle, steps.0, refl), (end, (end, steps.1, refl), refl))

-- and by the one call on two terms.
pub together_reached : Reaches start (accepted together ∷ []) end
unfolding ◌>>=◌ both walk walk_row arity Steps Walks Reaches
together_reached = (end, (middle, steps.0, (end, steps.1, refl)), refl)

-- the tables and the events of the calls
last_is : (last_table (unify_call positive 3) start_table calls ≡ end_table)
    × (last_table (unify_call positive 3) start_table (together ∷ []) ≡ end_table)
unfolding procedures both walk walk_row arity walk_entries unification answer unify_call returned last_table
last_is = (refl, refl)

events_are : (events (unify_call positive 3) start_table calls ≡ accepted (sides_of first) ∷ accepted (sides_of second) ∷ [])
    × (events (unify_call positive 3) start_table (together ∷ []) ≡ accepted together ∷ [])
unfolding procedures both walk walk_row arity walk_entries unification answer unify_call returned event events
events_are = (refl, refl)

-- The last table describes them, of the two calls
pub end_described : Describes (groups positive 3 end_table) end
end_described =
    subst (λ (τ : Entries). Describes (groups positive 3 τ) end) last_is.0
    (calls_described positive 3 calls start_table start end start_good start_described (rw events_are.0 reached))

-- and of the one.
pub together_described : Describes (groups positive 3 end_table) end
together_described =
    subst (λ (τ : Entries). Describes (groups positive 3 τ) end) last_is.1
    (calls_described positive 3 (together ∷ []) start_table start end start_good start_described
    (rw events_are.1 together_reached))
