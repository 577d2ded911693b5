-- Demand 3 in the abstract: one claim about a whole list of calls, x = t and two terms mixed, for any exact call function.
-- Assumes nothing.
use mathlib.Core.Path.{◌≡◌, refl, sym, subst}
use mathlib.Core.List.{List, [], ◌∷◌, ◌++◌}
use mathlib.Core.Logic.{◌↔◌, ⊎_map}
use mathlib.Core.Option.{Option, some, none}
use Prim.Native.Nat.{ℕ}
use native.Mathlib.Omega.{arith}
use Rattle.model.specs.Groups.{Bits, Groups, Equated}
use Rattle.model.specs.Growth.{Entries}
use Rattle.model.specs.Tables.{Side, Good, groups}
use Rattle.model.specs.Questions.{Equal}
use Rattle.model.specs.Terms.{Term, var}
use Rattle.model.specs.Equations.{Equation, Kind, itself, deeper, plain, kind, WithVariable, WithSome, AfterKind}
use Rattle.model.specs.Equations.{After}
use Rattle.model.specs.Walk.{Sides, Walked, walk, walk_sides}
use Rattle.model.specs.Unification.{AfterEach, AfterWalk, AfterSides, unification}
use Rattle.model.specs.Bindings.{Bindings, Substitution, bound, as_bound, Admitted, apply_all, string_of, Describes}
use Rattle.model.specs.Calls.{Step, unchanged, unified, Steps, Walks, Event, accepted, Reaches, Answer, accepts, refuses, returned}
use Rattle.model.specs.Calls.{event, last_table, events, Exact, answer, unify_call}
use Rattle.model.proofs.OccursCheck.{kind_itself, no_solution}
use Rattle.model.proofs.Sharing.{sharing}
use Rattle.model.proofs.Unification.{walk_exact, walk_good}

-- A set of groups describes bindings where a smaller one does.
pub describes_more : (S S' : Groups) (θ : Bindings) → ((g : Bits) → S g → S' g) → Describes S θ → Describes S' θ
describes_more S S' θ f d v = ⊎_map (λ z. z) (f (string_of θ v)) (d v)

-- ---- One found equation, each in turn, a walk

-- Of x = x only the bindings left unchanged are meant.
pub itself_step : (θ φ : Bindings) (e : Equation) → kind e ≡ itself → Step θ e φ → φ ≡ θ
itself_step θ φ e k (unchanged q) = refl
itself_step θ φ e k (unified n σ a) = absurd (n k)

-- From a deeper equation no bindings go on: no substitution makes its two sides as bound equal.
pub deeper_step : (θ φ : Bindings) (e : Equation) → kind e ≡ deeper → ¬ (Step θ e φ)
deeper_step θ φ e k (unchanged q) = let z : ◌≡◌ {A = ℕ} 0 1 = cc in omega arith
deeper_step θ φ e k (unified n σ a) = no_solution θ σ e k a.unifies

plain_described : (S : Groups) (θ φ : Bindings) (e : Equation) → kind e ≡ plain → Describes S θ → Step θ e φ
    → Describes (Equated (WithVariable e.left) (WithSome e.right) S) φ
plain_described S θ φ e k d (unchanged q) = absurd (let z : ◌≡◌ {A = ℕ} 0 1 = cc in omega arith)
plain_described S θ φ e k d (unified n σ a) = sharing S θ e.left e.right σ d a

kind_described : (k : Kind) (S : Groups) (θ φ : Bindings) (e : Equation) → kind e ≡ k → Describes S θ → Step θ e φ
    → Describes (AfterKind k e S) φ
unfolding AfterKind
kind_described itself S θ φ e k d s = rw (itself_step θ φ e k s) d
kind_described deeper S θ φ e k d s = absurd (deeper_step θ φ e k s)
kind_described plain S θ φ e k d s = plain_described S θ φ e k d s

step_described : (S : Groups) (θ φ : Bindings) (e : Equation) → Describes S θ → Step θ e φ → Describes (After e S) φ
step_described S θ φ e = kind_described (kind e) S θ φ e refl

steps_described : (es : List Equation) (S : Groups) (θ θ' : Bindings) → Describes S θ → Steps θ es θ'
    → Describes (AfterEach es S) θ'
unfolding AfterEach Steps
steps_described [] S θ θ' d r = rw r d
steps_described (e ∷ es) S θ θ' d r =
    steps_described es (After e S) r.0 θ' (step_described S θ r.0 e d r.1) r.2

-- In a walk x = x may be left out,
pub itself_left_out : (es fs : List Equation) (e : Equation) → kind e ≡ itself → (θ θ' : Bindings)
    → Steps θ (es ++ (e ∷ fs)) θ' ↔ Steps θ (es ++ fs) θ'
unfolding Steps
itself_left_out [] fs e k θ θ' = (
  λ r. subst (λ (φ : Bindings). Steps φ fs θ') (itself_step θ r.0 e k r.1) r.2,
  λ r. (θ, unchanged k, r),
)
itself_left_out (d ∷ es) fs e k θ θ' = (
  λ r. (r.0, r.1, (itself_left_out es fs e k r.0 θ').0 r.2),
  λ r. (r.0, r.1, (itself_left_out es fs e k r.0 θ').1 r.2),
)

-- and where a deeper equation is found, no bindings go on.
pub deeper_ends : (es fs : List Equation) (e : Equation) → kind e ≡ deeper → (θ θ' : Bindings)
    → ¬ (Walks θ (some (es ++ (e ∷ fs))) θ')
unfolding Walks Steps
deeper_ends [] fs e k θ θ' r = deeper_step θ r.0 e k r.1
deeper_ends (d ∷ es) fs e k θ θ' r = deeper_ends es fs e k r.0 θ' r.2

-- The bindings after a walk are described by the groups after it.
pub walk_described : (o : Walked) (S : Groups) (θ θ' : Bindings) → Describes S θ → Walks θ o θ'
    → Describes (AfterWalk o S) θ'
unfolding AfterWalk Walks
walk_described none S θ θ' d r = absurd r
walk_described (some es) S θ θ' d r = steps_described es S θ θ' d r

-- ---- A call x = t

-- An equation x = t as two sides.
abbrev pub with_variable : ℕ → Term → Sides
with_variable x t = record { left = var x; right = t }

-- what follows the one found equation
one_step : (θ θ' : Bindings) (x : ℕ) (t : Term) (es : List Event) → Reaches θ (accepted (with_variable x t) ∷ es) θ'
    ↔ ((φ : Bindings) × Step θ (record { left = x; right = t }) φ × Reaches φ es θ')
unfolding Reaches Walks Steps walk
one_step θ θ' x t es = (
  λ r. (r.1.0, r.1.1, subst (λ (φ : Bindings). Reaches φ es θ') r.1.2 r.2),
  λ r. (r.0, (r.0, r.1, refl), r.2),
)

-- An accepted call x = t is what 01 says, where t is not x: any admitted unifier of its two sides as bound is applied to all
-- terms.
pub equation_reaches : (θ θ' : Bindings) (x : ℕ) (t : Term) (es : List Event)
    → ¬ (kind (record { left = x; right = t }) ≡ itself)
    → Reaches θ (accepted (with_variable x t) ∷ es) θ'
    ↔ ((σ : Substitution) × Admitted σ (bound θ x) (as_bound θ t) × Reaches (apply_all σ θ) es θ')
equation_reaches θ θ' x t es n = (
  λ r. let s = (one_step θ θ' x t es).0 r in go s.0 s.1 s.2,
  λ r. (one_step θ θ' x t es).1 (apply_all r.0 θ, unified n r.0 r.1, r.2),
)
  where
    go : (φ : Bindings) → Step θ (record { left = x; right = t }) φ → Reaches φ es θ'
        → (σ : Substitution) × Admitted σ (bound θ x) (as_bound θ t) × Reaches (apply_all σ θ) es θ'
    go φ (unchanged k) rest = absurd (n k)
    go φ (unified m σ a) rest = (σ, a, rest)

-- Of x = x the bindings meant are those left unchanged.
pub itself_reaches : (θ θ' : Bindings) (x : ℕ) (es : List Event)
    → Reaches θ (accepted (with_variable x (var x)) ∷ es) θ' ↔ Reaches θ es θ'
itself_reaches θ θ' x es = (
  λ r.
      let s = (one_step θ θ' x (var x) es).0 r in
      subst (λ (φ : Bindings). Reaches φ es θ') (itself_step θ s.0 _ (kind_itself x) s.1) s.2,
  λ r. (one_step θ θ' x (var x) es).1 (θ, unchanged (kind_itself x), r),
)

-- Where t holds x deeper, no bindings go on.
pub deeper_reaches : (θ θ' : Bindings) (x : ℕ) (t : Term) (es : List Event)
    → kind (record { left = x; right = t }) ≡ deeper
    → ¬ (Reaches θ (accepted (with_variable x t) ∷ es) θ')
deeper_reaches θ θ' x t es k r = let s = (one_step θ θ' x t es).0 r in deeper_step θ s.0 _ k s.1

-- ---- A list of calls

module _ {Table Call : Type 0} (groups : Table → Groups) (Good : Table → Type 0) (call : Table → Call → Answer Table)
    (exact : Exact groups Good call) where
  -- The table after the list describes the bindings after it.
  pub described : (cs : List Call) (τ : Table) (θ θ' : Bindings) → Good τ → Describes (groups τ) θ
      → Reaches θ (events call τ cs) θ'
      → Describes (groups (last_table call τ cs)) θ'
  unfolding last_table events returned event Reaches
  described [] τ θ θ' w d r = rw r d
  described (c ∷ cs) τ θ θ' w d r = go (λ υ φ. described cs υ φ θ') (call τ c) refl r
    where
      go : ((υ : Table) (φ : Bindings) → Good υ → Describes (groups υ) φ → Reaches φ (events call υ cs) θ' → Describes
          (groups (last_table call υ cs)) θ')
          → (a : Answer Table) → call τ c ≡ a → Reaches θ (event a ∷ events call (returned a) cs) θ'
          → Describes (groups (last_table call (returned a) cs)) θ'
      go rest (accepts s υ) p r =
          rest υ r.0 (exact.good τ c s υ w p)
          (describes_more (AfterSides s (groups τ)) (groups υ) r.0 (λ g. (exact.same τ c s υ w p g).1)
          (walk_described (walk_sides s) (groups τ) θ r.0 d r.1))
          r.2
      go rest (refuses n υ) p r =
          let k : υ ≡ τ = exact.kept τ c n υ w p in
          rest υ θ (subst Good (sym k) w) (subst (λ (t : Table). Describes (groups t) θ) (sym k) d) r

-- ---- The call on entries, of either side

-- what an answer says of what was given
accepted_gives : (s c : Sides) (τ ρ : Entries) (o : Option Entries) → answer s τ o ≡ accepts c ρ → (o ≡ some ρ) × (c ≡ s)
unfolding answer
accepted_gives s c τ ρ (some υ) p = (cc, cc)
accepted_gives s c τ ρ none p = absurd (let z : ◌≡◌ {A = ℕ} 0 1 = cc in omega arith)

refused_keeps : (s : Sides) (τ ρ : Entries) (n : ℕ) (o : Option Entries) → answer s τ o ≡ refuses n ρ → ρ ≡ τ
unfolding answer
refused_keeps s τ ρ n (some υ) p = absurd (let z : ◌≡◌ {A = ℕ} 0 1 = cc in omega arith)
refused_keeps s τ ρ n none p = cc

pub unify_call_exact : (side : Side) (l : ℕ) → Exact (groups side l) (Good l) (unify_call side l)
unfolding unify_call unification
unify_call_exact side l = record {
  good = λ τ c s ρ w p. walk_good side l (walk_sides c) τ ρ w (accepted_gives c s τ ρ (unification side l c τ) p).0;
  same = λ τ c s ρ w p.
      let a = accepted_gives c s τ ρ (unification side l c τ) p in
      subst (λ (f : Sides). Equal (groups side l ρ) (AfterSides f (groups side l τ))) (sym a.1)
      (walk_exact side l (walk_sides c) τ ρ w a.0);
  kept = λ τ c n ρ w p. refused_keeps c τ ρ n (unification side l c τ) p;
}

-- For every list of calls, x = t and two terms mixed, refused ones included, on entries of either side, whatever admitted
-- unifier is applied at each found equation: the entries after the list describe the bindings after it.
pub calls_described : (side : Side) (l : ℕ) (cs : List Sides) (τ : Entries) (θ θ' : Bindings) → Good l τ
    → Describes (groups side l τ) θ
    → Reaches θ (events (unify_call side l) τ cs) θ' → Describes (groups side l (last_table (unify_call side l) τ cs)) θ'
calls_described side l = described (groups side l) (Good l) (unify_call side l) (unify_call_exact side l)
