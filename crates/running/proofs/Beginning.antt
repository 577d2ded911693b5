-- How a run begins, by what the table and the equations are answered. Assumes nothing.
use mathlib.Core.Path.{◌≡◌, sym, ◌∙◌}
use mathlib.Core.List.{List}
use Prim.Native.Nat.{ℕ, ◌≤◌}
use Rattle.tables.specs.declared.Refusal.{Refusal}
use Rattle.tables.specs.Refusals.{Accepted, Refused}
use Rattle.tables.specs.declared.Answered.{Answered}
use Rattle.tables.specs.Refusals.{refusal_number, if_accepted}
use Rattle.tables.specs.Values.{most_variables, accepts}
use Rattle.tables.proofs.Checking.{width_most}
use Rattle.forms.specs.declared.Layout.TheVariants.{Plain}
use Rattle.forms.specs.declared.Extent.TheVariants.{Whole}
use Rattle.equation_forms.specs.declared.Left.{Left}
use Rattle.forms.specs.TableForms.{read_table}
use Rattle.equation_forms.specs.EquationForms.{equations_in, check_equations}
use Rattle.forms.proofs.Reading.{read_good}
use Rattle.running.specs.States.{none_applied, run_from, run_on, run_state}

-- A table that was read has no more variables than a table may have.
pub read_few : (b : List ℕ) {a : Answered} → a ≡ read_table Whole b → a.answer ≡ Accepted → a.table.l ≤ most_variables
read_few b {a} is e =
    let good : a ≡ accepts a.table = λ i. record { answer = e i; table = a.table } in
    width_most a.table.l (read_good Plain Whole b a.table (sym is ∙ good)).0.width

module _ (f : Left) (side : ℕ) (b q : List ℕ) {a : Answered} (is : a ≡ read_table Whole b) where
  -- the run, from what was read
  as_read : if_accepted a.answer (λ r. none_applied (refusal_number r) side) (run_on f side a.table q)
      ≡ run_state f side b q
  unfolding run_state
  as_read = rw is

  -- A table that does not read.
  pub run_unread : {r : Refusal} → a.answer ≡ Refused r → none_applied (refusal_number r) side ≡ run_state f side b q
  unfolding if_accepted
  run_unread e = let g = as_read in rw e at g

  module _ (good : a.answer ≡ Accepted) where
    -- Equations that do not pass their checks.
    pub run_unchecked : {r : Refusal} → check_equations f a.table.l q ≡ Refused r
        → none_applied (refusal_number r) side ≡ run_state f side b q
    unfolding if_accepted run_on
    run_unchecked e = let g = as_read in rw (good, e) at g

    -- The whole input passes its checks.
    pub run_goes : check_equations f a.table.l q ≡ Accepted
        → run_from side a.table 0 (equations_in f q) ≡ run_state f side b q
    unfolding if_accepted run_on
    run_goes e = let g = as_read in rw (good, e) at g
