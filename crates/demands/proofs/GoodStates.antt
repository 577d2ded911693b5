-- The table of a state that a start, a step or a run leaves is good, so that its entries past the count are zero (01, "Refusals").
-- Assumes nothing.
use mathlib.Core.Path.{◌≡◌, refl, sym, subst}
use mathlib.Core.List.{List, [], ◌∷◌}
use Prim.Native.Nat.{ℕ, ◌+◌}
use Rattle.tables.specs.declared.Table.{Table}
use Rattle.tables.specs.Refusals.{Answer}
use Rattle.tables.specs.Refusals.{Accepted, Refused}
use Rattle.tables.specs.declared.Answered.{Answered}
use Rattle.tables.specs.Refusals.{refusal_number, if_accepted}
use Rattle.tables.specs.Values.{GoodTable}
use Rattle.terms.specs.Checks.{Written}
use Rattle.operations.specs.Operations.{side_numbered, written_call}
use Rattle.forms.specs.declared.Layout.TheVariants.{Plain}
use Rattle.forms.specs.declared.Extent.TheVariants.{Whole}
use Rattle.equation_forms.specs.declared.Left.{Left}
use Rattle.equation_forms.specs.EquationForms.{equations_in, check_equations}
use Rattle.forms.proofs.Reading.{read_good}
use Rattle.running.specs.declared.Running.{Running}
use Rattle.running.specs.States.{state, started, one_more, step_answered, after_answer, advanced, run_from, run_state}
use Rattle.running.proofs.Beginning.{run_goes}
use Rattle.demands.specs.Demand2.{Reads}
use Rattle.demands.proofs.Equations.{accepted_exact, refused_kept}
use Rattle.demands.proofs.ReadsBack.{made_good}

-- An accepted start has a good table.
pub started_good : (side : ℕ) (b : List ℕ) (t : Table) → Reads b t → GoodTable (started side b).table
unfolding started
started_good side b t e = rw e (read_good Plain Whole b t e).0

-- A step from a good table leaves a good table, accepted or refused.
pub advanced_good : (s : Running) (w : Written) → GoodTable s.table → GoodTable (advanced s w).table
unfolding advanced after_answer if_accepted
advanced_good s w good = go (step_answered s w).answer refl
  where
    go : (y : Answer) → (step_answered s w).answer ≡ y
        → GoodTable (if_accepted y (λ r. s) (state 0 s.side (one_more s.applied) (step_answered s w).table)).table
    go Accepted e = made_good (side_numbered s.side) s.table w good e
    go (Refused r) e = good

-- equations in order from a good table
from_good : (side : ℕ) (ws : List Written) (t : Table) (k : ℕ) → GoodTable t → GoodTable (run_from side t k ws).table
unfolding run_from if_accepted
from_good side [] t k good = good
from_good side (w ∷ ws) t k good = go next.answer refl (from_good side ws next.table (k + 1))
  where
    next : Answered
    next = written_call (side_numbered side) t w

    go : (y : Answer) → next.answer ≡ y → (GoodTable next.table → GoodTable (run_from side next.table (k + 1) ws).table)
        → GoodTable (if_accepted y (λ r. state (refusal_number r) side k next.table)
        (run_from side next.table (k + 1) ws)).table
    go Accepted e later = later (accepted_exact (side_numbered side) t w good e).is_good
    go (Refused r) e later =
        subst GoodTable (sym (refused_kept (side_numbered side) t w good e)) good

-- A run of equations in either form, whose input passes its checks, has a good table, wherever it stops.
pub run_good : (f : Left) (side : ℕ) (b q : List ℕ) (t : Table) → Reads b t → check_equations f t.l q ≡ Accepted
    → GoodTable (run_state f side b q).table
run_good f side b q t reads checked =
    subst (λ (s : Running). GoodTable s.table) (run_goes f side b q (sym reads) refl checked)
    (from_good side (equations_in f q) t 0 (read_good Plain Whole b t reads).0)
