-- A list of equation calls, x = t or two terms, and the model of the bindings under it (01, "Bindings and runs"; 02, requests
-- 2 and 6), for any kind of table and of call. A call x = t is one whose left side is the variable x: its walk finds just that
-- equation.
use Rattle.std.specs.Prelude.{◌≡◌, List, [], ◌∷◌, ℕ}
use Rattle.std.proofs.Math.Option.{Option, some, none}
use Rattle.model.specs.Groups.{Groups}
use Rattle.model.specs.Growth.{Entries}
use Rattle.model.specs.Tables.{Side}
use Rattle.model.specs.Questions.{Equal}
use Rattle.model.specs.Equations.{Equation, itself, kind}
use Rattle.model.specs.Walk.{Sides, Walked, walk_sides}
use Rattle.model.specs.Unification.{AfterSides, unification}
use Rattle.model.specs.Bindings.{Bindings, Substitution, bound, as_bound, Admitted, apply_all}

-- The bindings after one found equation. Of x = x they are those left unchanged (02, request 6). Of any other, any unifier
-- admitted by its own two sides under the bindings so far is applied; where there is none, no bindings go on.
pub data Step (θ : Bindings) (e : Equation) : Bindings → Type 0 where
  unchanged : kind e ≡ itself → Step θ e θ
  unified : ¬ (kind e ≡ itself) → (σ : Substitution) → Admitted σ (bound θ e.left) (as_bound θ e.right)
      → Step θ e (apply_all σ θ)

-- After each found equation in turn.
unfoldable pub Steps : Bindings → List Equation → Bindings → Type 0
Steps θ [] θ' = θ' ≡ θ
Steps θ (e ∷ es) θ' = (φ : Bindings) × Step θ e φ × Steps φ es θ'

-- After a walk: from a clash no bindings go on.
unfoldable pub Walks : Bindings → Walked → Bindings → Type 0
Walks θ none θ' = ⊥
Walks θ (some es) θ' = Steps θ es θ'

-- What the model is fed of a call: the two sides of an accepted call, or that the call was refused.
pub data Event : Type 0 where
  accepted : Sides → Event
  refused : Event

-- The bindings θ' can be reached from θ: through the walk of each accepted call; at a refusal the bindings stay.
unfoldable pub Reaches : Bindings → List Event → Bindings → Type 0
Reaches θ [] θ' = θ' ≡ θ
Reaches θ (accepted s ∷ events) θ' = (φ : Bindings) × Walks θ (walk_sides s) φ × Reaches φ events θ'
Reaches θ (refused ∷ events) θ' = Reaches θ events θ'

-- What a call answers: accepted, with the two sides it read, or refused by a number; with either the table that it returns.
pub data Answer (Table : Type 0) : Type 0 where
  accepts : Sides → Table → Answer Table
  refuses : ℕ → Table → Answer Table

module _ {Table : Type 0} where
  -- The table that the next call gets.
  unfoldable pub returned : Answer Table → Table
  returned (accepts s τ) = τ
  returned (refuses n τ) = τ

  -- What the model is fed of the answer.
  unfoldable pub event : Answer Table → Event
  event (accepts s τ) = accepted s
  event (refuses n τ) = refused

  module _ {Call : Type 0} where
    -- The table after a list of calls, each on the table that the last returned.
    unfoldable pub last_table : (Table → Call → Answer Table) → Table → List Call → Table
    last_table call τ [] = τ
    last_table call τ (c ∷ cs) = last_table call (returned (call τ c)) cs

    -- The events of the calls.
    unfoldable pub events : (Table → Call → Answer Table) → Table → List Call → List Event
    events call τ [] = []
    events call τ (c ∷ cs) = event (call τ c) ∷ events call (returned (call τ c)) cs

    -- A call function is exact on good tables: what it accepts has exactly the groups after the walk of its two sides, by
    -- the binary definition, and is good again, and a refusal returns the table given.
    pub record Exact (groups : Table → Groups) (Good : Table → Type 0) (call : Table → Call → Answer Table) : Type 0 where
      pub good : (τ : Table) (c : Call) (s : Sides) (ρ : Table) → Good τ → call τ c ≡ accepts s ρ → Good ρ
      pub same : (τ : Table) (c : Call) (s : Sides) (ρ : Table) → Good τ → call τ c ≡ accepts s ρ
          → Equal (groups ρ) (AfterSides s (groups τ))
      pub kept : (τ : Table) (c : Call) (n : ℕ) (ρ : Table) → Good τ → call τ c ≡ refuses n ρ → ρ ≡ τ

-- The answer of a call on the entries τ: the entries that the growth rule gives, or 8.
unfoldable pub answer : Sides → Entries → Option Entries → Answer Entries
answer s τ (some ρ) = accepts s ρ
answer s τ none = refuses 8 τ

-- The call on entries of l positions.
unfoldable pub unify_call : Side → ℕ → Entries → Sides → Answer Entries
unify_call side l τ s = answer s τ (unification side l s τ)
