-- Demand 3 of the calls themselves: for every list of equation calls, x = t and two terms mixed, on table values and
-- on byte buffers, refused ones included, from any good table of either side, whatever admitted unifier is applied at
-- each equation found, the table after the list describes the bindings after it; and the same of the running analysis
-- and of a run in either form, wherever it stops. Assumes nothing.
use mathlib.Core.Path.{◌≡◌, refl, sym, ap, subst, ◌∙◌}
use mathlib.Core.List.{List, [], ◌∷◌}
use mathlib.Core.Logic.{inl, inr}
use Prim.Native.Nat.{ℕ, suc, ◌+◌, ◌-◌, ◌≤◌}
use native.Mathlib.Omega.{arith}
use Rattle.model.specs.Growth.{Reduced}
use Rattle.model.specs.Tables.{Side}
use Rattle.model.specs.Bindings.{Bindings, Describes}
use Rattle.model.specs.Calls.{Event, Reaches}
use Rattle.tables.specs.declared.Table.{Table}
use Rattle.tables.specs.declared.Refusal.{Refusal}
use Rattle.tables.specs.Refusals.{Answer}
use Rattle.tables.specs.Refusals.{Accepted, Refused}
use Rattle.tables.specs.declared.Answered.{Answered}
use Rattle.tables.specs.Refusals.{refusal_number, if_accepted}
use Rattle.tables.specs.Values.{entries_of, accepts, GoodTable}
use Rattle.terms.specs.Checks.{Written}
use Rattle.operations.specs.Operations.{side_numbered, written_call}
use Rattle.operations.specs.Outcomes.{groups_of}
use Rattle.forms.specs.declared.Layout.TheVariants.{Plain}
use Rattle.forms.specs.declared.Extent.TheVariants.{Whole}
use Rattle.equation_forms.specs.declared.Left.{Left}
use Rattle.forms.specs.TableForms.{read_table}
use Rattle.equation_forms.specs.EquationForms.{check_equations, equations_in}
use Rattle.forms.proofs.Reading.{read_good}
use Rattle.byte_calls.specs.ByteCalls.{written_tokens, value_call}
use Rattle.byte_calls.specs.Outputs.{output_answer, output_bytes}
use Rattle.running.specs.declared.Running.{Running}
use Rattle.running.specs.States.{state, one_more, step_answered, after_answer, advanced, run_from, run_on, run_state}
use Rattle.demands.specs.Demand3.{written_sides, event_of, Returns, written, kept, Calls, end, value, bytes}
use Rattle.demands.specs.Demand3.{steps, step_events, run_events}
use Rattle.demands.proofs.Equations.{accepted_exact, refused_kept, stepped}
use Rattle.demands.proofs.ByBytes.{equation_by_bytes, TokensOrRefused, tokens_or_refused}
use Rattle.demands.proofs.ReadsBack.{output_accepted, made_reads, value_made}

-- ---- A call with its terms as bytes

module _ (side : Side) (t : Table) (w : Written) (good : GoodTable t) where
  -- From bindings that t describes, an answer with its table goes on to bindings that this table describes.
  abbrev pub Goes : Answer → Table → Type 0
  Goes y u =
      (es : List Event) (θ θ' : Bindings) → Describes (groups_of side t) θ
      → Reaches θ (event_of y (written_sides t.l (written_tokens w)) ∷ es) θ'
      → (φ : Bindings) × GoodTable u × Describes (groups_of side u) φ × Reaches φ es θ'

  -- So does the answer to an equation with its terms as bytes.
  pub value_stepped : Goes (value_call side t w).answer (value_call side t w).table
  unfolding event_of Reaches
  value_stepped = go (tokens_or_refused side t w good)
    where
      go : TokensOrRefused side t w → Goes (value_call side t w).answer (value_call side t w).table
      go (inl e) = subst (λ (a : Answered). Goes a.answer a.table) (sym e) (stepped side t (written_tokens w) good)
      go (inr (n, e)) = subst (λ (a : Answered). Goes a.answer a.table) (sym e) (λ es θ θ' d r. (θ, good, d, r))

-- ---- A list of calls

module _ (side : Side) (t : Table) (w : Written) (out : List ℕ) (good : GoodTable t) (reduced : Reduced (entries_of t)) where
  -- the call on bytes that read as t
  abbrev a : Answered
  a = value_call side t w

  bytes_stepped : (y : Answer) (u : Table) → output_answer a out ≡ y → Returns t (output_bytes a out) y u
      → Goes side t w good y u
  unfolding event_of Reaches
  bytes_stepped y u e (written h) es θ θ' d r =
      let back = made_reads a (value_made side t w good reduced) out e in
      let same : a.table ≡ u = ap (λ (y : Answered). y.table) (sym back ∙ h) in
      let went = sym (output_accepted Plain a out e) in
      let g = value_stepped side t w good es θ θ' d
      (subst (λ (y : Answer). Reaches θ (event_of y (written_sides t.l (written_tokens w)) ∷ es) θ') went r) in
      (g.0, subst GoodTable same g.1, subst (λ (y : Table). Describes (groups_of side y) g.0) same g.2, g.3)
  bytes_stepped y u e kept es θ θ' d r = (θ, good, d, r)

-- Demand 3 of a list of calls.
pub calls_described : (side : Side) {t u : Table} {events : List Event} → Calls side t events u → GoodTable t
    → (θ θ' : Bindings) → Describes (groups_of side t) θ
    → Reaches θ events θ' → GoodTable u × Describes (groups_of side u) θ'
unfolding Reaches
calls_described side end good θ θ' d r = (good, rw r d)
calls_described side (value t w {events} rest) good θ θ' d r =
    let g = stepped side t w good events θ θ' d r in
    calls_described side rest g.1 g.0 θ' g.2 g.3
calls_described side (bytes b t w out {t'} {events} reads returns rest) good θ θ' d r =
    let same = equation_by_bytes side b reads w in
    let reduced = (read_good Plain Whole b t reads).1 in
    let g = bytes_stepped side t w out good reduced (output_answer (value_call side t w) out) t' refl
    (subst (λ (y : Answered). Returns t (output_bytes y out) (output_answer y out) t') same returns) events θ θ' d
    (subst (λ (y : Answered).
    Reaches θ (event_of (output_answer y out) (written_sides t.l (written_tokens w)) ∷ events) θ') same r) in
    calls_described side rest g.1 g.0 θ' g.2 g.3

-- ---- The running analysis

module _ (s : Running) (w : Written) (good : GoodTable s.table) where
  -- a refused equation returns the table of the state
  step_kept : {n : Refusal} → (step_answered s w).answer ≡ Refused n → (step_answered s w).table ≡ s.table
  step_kept {n} a = go (tokens_or_refused (side_numbered s.side) s.table w good)
    where
      go : TokensOrRefused (side_numbered s.side) s.table w → (step_answered s w).table ≡ s.table
      go (inl e) =
          ap (λ (y : Answered). y.table) e
          ∙ refused_kept (side_numbered s.side) s.table (written_tokens w) good
          (ap (λ (y : Answered). y.answer) (sym e) ∙ a)
      go (inr (m, e)) = ap (λ (y : Answered). y.table) e

  -- The state after an equation has the side that it had, and the table that the equation returned.
  pub step_left : ((advanced s w).side ≡ s.side) × ((advanced s w).table ≡ (step_answered s w).table)
  unfolding advanced after_answer if_accepted
  step_left = go (step_answered s w).answer refl
    where
      go : (y : Answer) → (step_answered s w).answer ≡ y
          → ((if_accepted y (λ r. s) (state 0 s.side (one_more s.applied) (step_answered s w).table)).side ≡ s.side)
          × ((if_accepted y (λ r. s) (state 0 s.side (one_more s.applied) (step_answered s w).table)).table
          ≡ (step_answered s w).table)
      go Accepted e = (refl, refl)
      go (Refused n) e = (refl, sym (step_kept e))

-- Demand 3 of the running analysis.
pub steps_described : (ws : List Written) (s : Running) → GoodTable s.table → (θ θ' : Bindings)
    → Describes (groups_of (side_numbered s.side) s.table) θ → Reaches θ (step_events s ws) θ'
    → GoodTable (steps s ws).table × Describes (groups_of (side_numbered s.side) (steps s ws).table) θ'
unfolding Reaches steps step_events
steps_described [] s good θ θ' d r = (good, rw r d)
steps_described (w ∷ ws) s good θ θ' d r =
    let next = advanced s w in
    let left = step_left s w good in
    let g = value_stepped (side_numbered s.side) s.table w good (step_events next ws) θ θ' d r in
    let back = sym left.1 in
    let here = subst (λ (u : Table). Describes (groups_of (side_numbered s.side) u) g.0) back g.2 in
    let there = steps_described ws next (subst GoodTable back g.1) g.0 θ'
    (subst (λ (n : ℕ). Describes (groups_of (side_numbered n) next.table) g.0) (sym left.0) here) g.3 in
    (there.0, subst (λ (n : ℕ). Describes (groups_of (side_numbered n) (steps next ws).table) θ') left.0 there.1)

-- ---- The run

module _ (side : ℕ) where
  -- the next equation of a run
  abbrev next : Table → Written → Answered
  next t w = written_call (side_numbered side) t w

  -- a run never counts down
  counts_up : (ws : List Written) (t : Table) (k : ℕ) → k ≤ (run_from side t k ws).applied
  unfolding run_from if_accepted
  counts_up [] t k = omega arith
  counts_up (w ∷ ws) t k = go (next t w) (next t w).answer (counts_up ws (next t w).table (k + 1))
    where
      go : (a : Answered) (y : Answer) → k + 1 ≤ (run_from side a.table (k + 1) ws).applied
          → k ≤ (if_accepted y (λ r. state (refusal_number r) side k a.table) (run_from side a.table (k + 1) ws)).applied
      go a Accepted h = omega (arith, h)
      go a (Refused r) h = omega arith

  -- the equations that a run has applied, of those from k on
  abbrev applied_of : ℕ → ℕ → Running → List Written → List Event
  applied_of l k r ws = run_events l (r.applied - k) ws

  -- from table t with k equations before, the run r of ws takes described bindings to described bindings
  abbrev Follows : Table → ℕ → List Written → Running → Type 0
  Follows t k ws r =
      GoodTable t → (θ θ' : Bindings) → Describes (groups_of (side_numbered side) t) θ
      → Reaches θ (applied_of t.l k r ws) θ'
      → GoodTable r.table × Describes (groups_of (side_numbered side) r.table) θ'

  -- where none is applied the table stays
  none_follows : (t : Table) (k : ℕ) (ws : List Written) (r : Running) → r.applied ≡ k → (GoodTable t → r.table ≡ t)
      → Follows t k ws r
  unfolding run_events Reaches
  none_follows t k ws r e same good θ θ' d s =
      let start : r.applied - k ≡ 0 = omega (arith, e) in
      let here : θ' ≡ θ = subst (λ (n : ℕ). Reaches θ (run_events t.l n ws) θ') start s in
      subst (λ (u : Table). GoodTable u × Describes (groups_of (side_numbered side) u) θ') (sym (same good))
      (good, rw here d)

  from_follows : (ws : List Written) (t : Table) (k : ℕ) → Follows t k ws (run_from side t k ws)
  unfolding run_from if_accepted run_events event_of
  from_follows [] t k = none_follows t k [] (state 0 side k t) refl (λ g. refl)
  from_follows (w ∷ ws) t k = go (next t w).answer refl (from_follows ws (next t w).table (k + 1))
    where
      go : (y : Answer) → (next t w).answer ≡ y
          → Follows (next t w).table (k + 1) ws (run_from side (next t w).table (k + 1) ws)
          → Follows t k (w ∷ ws) (if_accepted y (λ r. state (refusal_number r) side k (next t w).table)
          (run_from side (next t w).table (k + 1) ws))
      go Accepted e rest good θ θ' d s =
          let run = run_from side (next t w).table (k + 1) ws in
          let up = counts_up ws (next t w).table (k + 1) in
          let more : run.applied - k ≡ suc (run.applied - (k + 1)) = omega (arith, up) in
          let m = accepted_exact (side_numbered side) t w good e in
          let g = stepped (side_numbered side) t w good (applied_of t.l (k + 1) run ws) θ θ' d
          (rw e (rw more at s)) in
          rest g.1 g.0 θ' g.2 (rw m.width g.3)
      go (Refused n) e rest good θ θ' d s =
          none_follows t k (w ∷ ws) (state (refusal_number n) side k (next t w).table) refl
          (λ g. refused_kept (side_numbered side) t w g e) good θ θ' d s

  -- Demand 3 of equations applied in order from a good table, up to the first that is refused: the list is those applied.
  pub from_described : (t : Table) (ws : List Written) → GoodTable t → (θ θ' : Bindings)
      → Describes (groups_of (side_numbered side) t) θ → Reaches θ (run_events t.l (run_from side t 0 ws).applied ws) θ'
      → GoodTable (run_from side t 0 ws).table × Describes (groups_of (side_numbered side) (run_from side t 0 ws).table) θ'
  from_described t ws good θ θ' d r =
      let whole : (run_from side t 0 ws).applied - 0 ≡ (run_from side t 0 ws).applied = omega arith in
      from_follows ws t 0 good θ θ' d (rw whole r)

  -- Demand 3 of a run of equations in either form, wherever it stops: its list is the equations that it applied.
  pub run_described : (f : Left) (b q : List ℕ) (t : Table) → read_table Whole b ≡ accepts t
      → check_equations f t.l q ≡ Accepted
      → (θ θ' : Bindings) → Describes (groups_of (side_numbered side) t) θ
      → Reaches θ (run_events t.l (run_state f side b q).applied (equations_in f q)) θ'
      → GoodTable (run_state f side b q).table × Describes (groups_of (side_numbered side) (run_state f side b q).table) θ'
  unfolding run_state run_on if_accepted
  run_described f b q t reads checked θ θ' d r =
      let ws = equations_in f q in
      let is : run_state f side b q ≡ run_from side t 0 ws = rw (reads, checked) in
      let g = from_described t ws (read_good Plain Whole b t reads).0 θ θ' d
      (subst (λ (y : Running). Reaches θ (run_events t.l y.applied ws) θ') is r) in
      subst (λ (y : Running). GoodTable y.table × Describes (groups_of (side_numbered side) y.table) θ') (sym is) g
