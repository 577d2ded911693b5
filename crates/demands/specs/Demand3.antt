-- Demand 3 of the calls (01, "Bindings and runs"; 02, request 2): what the model is fed, for a list of equation calls, x = t
-- or two terms, on table values and on byte buffers, for the running analysis, and for a run. Each is computed from the
-- definitions that the calls' contracts cite.
use Rattle.std.specs.Prelude.{◌≡◌, List, [], ◌∷◌, map, ℕ, take}
use Rattle.std.proofs.Math.Option.{Option, some, none}
use Rattle.model.specs.Terms.{Term, var, head, nil}
use Rattle.model.specs.Tokens.{whole_term}
use Rattle.model.specs.Tables.{Side}
use Rattle.model.specs.Walk.{Sides}
use Rattle.model.specs.Calls.{Event, accepted, refused}
use Rattle.tables.specs.declared.Table.{Table}
use Rattle.tables.specs.declared.Refusal.{Refusal}
use Rattle.tables.specs.Refusals.{Answer}
use Rattle.tables.specs.Refusals.{Accepted, Refused}
use Rattle.tables.specs.Values.{accepts}
use Rattle.terms.specs.Checks.{Written, one_term, two_terms}
use Rattle.operations.specs.Operations.{written_call}
use Rattle.forms.specs.declared.Extent.TheVariants.{Whole, Front}
use Rattle.forms.specs.TableForms.{read_table}
use Rattle.byte_calls.specs.ByteCalls.{written_tokens, written_bytes}
use Rattle.byte_calls.specs.Outputs.{output_answer, output_bytes}
use Rattle.running.specs.declared.Running.{Running}
use Rattle.running.specs.States.{step_answered, advanced}

-- ---- Events

-- The term that was read; a constant where the tokens are no term, which no call accepts.
unfoldable pub term_read : Option Term → Term
term_read (some t) = t
term_read none = head 0 nil

-- The two sides of an equation written in tokens, of a table of l variables: Xx and a term, or two terms.
unfoldable pub written_sides : ℕ → Written → Sides
written_sides l (one_term x ts) = record { left = var x; right = term_read (whole_term l ts) }
written_sides l (two_terms ss ts) = record { left = term_read (whole_term l ss); right = term_read (whole_term l ts) }

-- What the model is fed of a call: its two sides where it is accepted; else, by whatever number, that it was refused.
unfoldable pub event_of : Answer → Sides → Event
event_of Accepted s = accepted s
event_of (Refused r) s = refused

-- ---- A list of calls

-- The table that a byte call returns, by its answer: the one that the form it wrote reads as; the one given where it is refused.
pub data Returns (given : Table) (out : List ℕ) : Answer → Table → Type 0 where
  written : {t : Table} → read_table Front out ≡ accepts t → Returns given out Accepted t
  kept : {r : Refusal} → Returns given out (Refused r) given

-- A list of equation calls of one side, of both kinds, from one table to another, with what the model is fed. Each call gets the
-- table that the call before it returned. A call on byte buffers gets any bytes that read as it.
pub data Calls (side : Side) : Table → List Event → Table → Type 0 where
  end : {t : Table} → Calls side t [] t
  value : (t : Table) (w : Written) {events : List Event} {u : Table}
      → Calls side (written_call side t w).table events u
      → Calls side t (event_of (written_call side t w).answer (written_sides t.l w) ∷ events) u
  bytes : (b : List ℕ) (t : Table) (w : Written) (out : List ℕ) {t' : Table} {events : List Event} {u : Table}
      → read_table Whole b ≡ accepts t
      → Returns t (output_bytes (written_bytes side b w) out) (output_answer (written_bytes side b w) out) t'
      → Calls side t' events u
      → Calls side t (event_of (output_answer (written_bytes side b w) out) (written_sides t.l (written_tokens w)) ∷ events) u

-- ---- The running analysis

-- The state after equations of both kinds in order, written in bytes, each on what the last one left.
unfoldable pub steps : Running → List Written → Running
steps s [] = s
steps s (w ∷ ws) = steps (advanced s w) ws

-- What the model is fed of them.
unfoldable pub step_events : Running → List Written → List Event
step_events s [] = []
step_events s (w ∷ ws) =
    event_of (step_answered s w).answer (written_sides s.table.l (written_tokens w)) ∷ step_events (advanced s w) ws

-- ---- The run

-- What the model is fed of a run with k equations applied, on a table of l variables: all its equations or those before the
-- full one, each accepted.
unfoldable pub run_events : ℕ → ℕ → List Written → List Event
run_events l k ws = map (λ w. accepted (written_sides l w)) (take k ws)
