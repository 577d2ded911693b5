-- Self equations (02, request 6). X1 is bound to f(v1, v2), X2 to v1 and X3 to v2: the table 110 101. After X1 = X1, found in
-- the walk of g(X1) = g(X1) too, the table and the bindings are those before. The letter of 01 would admit any other unifier
-- of the two sides, which are the same term; the table need not describe what that makes, so the bindings meant are those
-- left unchanged. After g(X1) = g(g(X1)) no bindings go on, and the table stands for no groups. Assumes nothing.
use mathlib.Core.Path.{◌≡◌, refl}
use mathlib.Core.Bool.{Bool, true, false, ◌||◌, cond}
use mathlib.Core.List.{[], ◌∷◌}
use mathlib.Core.Logic.{◌⊎◌, inl, inr, ⊎_elim}
use mathlib.Core.Option.{some}
use Prim.Native.Nat.{ℕ}
use native.Mathlib.Omega.{arith}
use lib.Dec.{T, eqb, eqb→eq}
use Rattle.model.specs.Groups.{nonzero}
use Rattle.model.specs.Strings.{t0, t1, covers}
use Rattle.model.specs.Growth.{◌>>=◌, Entries, covered}
use Rattle.model.specs.Tables.{Side, positive, groups, no_groups}
use Rattle.model.specs.Terms.{var, arity, occurs, occurs_row, apply, apply_row}
use Rattle.model.specs.Equations.{Equation}
use Rattle.model.specs.Walk.{Sides, both, walk, walk_row}
use Rattle.model.specs.Unification.{unification}
use Rattle.model.specs.Bindings.{Bindings, bound, as_bound, apply_all, Admitted, string_of, Describes}
use Rattle.model.specs.Calls.{accepted, unchanged, Steps, Walks, Reaches}
use Rattle.model.proofs.Tests.{or_left, or_right}
use Rattle.model.proofs.Computing.{equations}
use Rattle.model.proofs.Demand3.{itself_step, deeper_ends}
use Rattle.model.proofs.Example.{gives, f_of, g_of}
use Rattle.demands.proofs.OnEntries.{walking}

-- X1 is f(v1, v2), X2 is v1 and X3 is v2.
abbrev pub bindings : Bindings
bindings = f_of (var 1) (var 2) ∷ var 1 ∷ var 2 ∷ []

-- The table 110 101.
abbrev pub table : Entries
table = (t1 ∷ t1 ∷ t0 ∷ []) ∷ (t1 ∷ t0 ∷ t1 ∷ []) ∷ []

-- It describes these bindings.
pub table_described : Describes (groups positive 3 table) bindings
unfolding nonzero covers covered groups occurs occurs_row string_of
table_described v =
    go (eqb v 1) (eqb v 2)
    (λ a b. let p = eqb→eq v 1 a in let q = eqb→eq v 2 b in let z : ◌≡◌ {A = ℕ} 1 2 = cc in omega arith)
  where
    go : (a b : Bool) → (T a → T b → ⊥)
        → (nonzero ((a || (b || false)) ∷ a ∷ b ∷ []) ≡ false) ⊎ groups positive 3 table ((a || (b || false)) ∷ a ∷ b ∷ [])
    go true true n = absurd (n tt tt)
    go true false n = inr ((refl, tt), tt)
    go false true n = inr ((refl, tt), tt)
    go false false n = inl refl

-- ---- X1 = X1

-- X1 = X1.
abbrev pub self : Equation
self = record { left = 1; right = var 1 }

-- g(X1) = g(X1), whose walk finds just that.
abbrev pub alike : Sides
alike = record { left = g_of (var 1); right = g_of (var 1) }

-- It leaves any entries of either side as they are.
pub alike_makes : (side : Side) (τ : Entries) → unification side 3 alike τ ≡ some τ
unfolding walking
alike_makes side τ = refl

-- The model reaches the bindings that there are, and no others.
pub alike_reached : Reaches bindings (accepted alike ∷ []) bindings
unfolding ◌>>=◌ both walk walk_row arity Steps Walks Reaches equations
alike_reached = (bindings, (bindings, unchanged refl, refl), refl)

pub alike_only : (θ : Bindings) → Reaches bindings (accepted alike ∷ []) θ → θ ≡ bindings
unfolding ◌>>=◌ both walk walk_row arity Steps Walks Reaches equations
alike_only θ r = let same = itself_step bindings r.1.0 self refl r.1.1 in rw (r.2, r.1.2) same

-- ---- Why those bindings are meant

-- The two sides of X1 = X1 as bound are the same term, so that by the letter of 01 a unifier that gives v1 the term v2 is
-- admitted.
pub other_admitted : Admitted (gives 1 (var 2)) (bound bindings 1) (as_bound bindings (var 1))
unfolding occurs occurs_row apply apply_row bound as_bound
other_admitted = record {
  unifies = refl;
  touched = λ v k. touched v (eqb v 1) (eqb v 2) k;
  brought = λ w b. brought w b.0 (eqb b.0 1) b.1 b.2;
}
  where
    touched : (v : ℕ) (a b : Bool) → ¬ (cond a (var 2) (var v) ≡ var v) → T ((a || (b || false)) || (a || (b || false)))
    touched v true b k = tt
    touched v false b k = absurd (k refl)

    brought : (w v : ℕ) (a : Bool) → ¬ (cond a (var 2) (var v) ≡ var v) → T (occurs w (cond a (var 2) (var v)))
        → T ((eqb w 1 || (eqb w 2 || false)) || (eqb w 1 || (eqb w 2 || false)))
    brought w v true k o =
        or_left (eqb w 1 || (eqb w 2 || false)) _ (or_right (eqb w 1) (eqb w 2 || false) (or_left (eqb w 2) false o))
    brought w v false k o = absurd (k refl)

-- The table does not describe what it makes: v2 would be in all three terms.
pub other_undescribed : ¬ (Describes (groups positive 3 table) (apply_all (gives 1 (var 2)) bindings))
unfolding nonzero covers covered groups occurs occurs_row string_of apply apply_row apply_all
other_undescribed d = ⊎_elim (λ z. let n : ◌≡◌ {A = ℕ} 0 1 = cc in omega arith) (λ s. s.1) (d 2)

-- ---- A deeper equation

-- X1 = g(X1).
abbrev pub own : Equation
own = record { left = 1; right = g_of (var 1) }

-- g(X1) = g(g(X1)), whose walk finds just that.
abbrev pub nested : Sides
nested = record { left = g_of (var 1); right = g_of (g_of (var 1)) }

-- Whatever the entries, it gives those that stand for no groups: none, or one all-star entry.
pub nested_makes : (side : Side) (τ : Entries) → unification side 3 nested τ ≡ some (no_groups side 3)
unfolding walking
nested_makes side τ = refl

-- Whatever the bindings, none go on from it.
pub nested_none : (θ θ' : Bindings) → ¬ (Reaches θ (accepted nested ∷ []) θ')
unfolding ◌>>=◌ both walk walk_row arity Walks Reaches equations
nested_none θ θ' r = deeper_ends [] [] own refl θ r.0 r.1
