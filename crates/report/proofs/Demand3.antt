-- Demand 3 of a report (01, "Bindings and runs"): the run that it tells, wherever it stops. Assumes nothing.
use mathlib.Core.Path.{◌≡◌, refl, sym, subst, ◌∙◌}
use mathlib.Core.Bool.{Bool, true, false, cond}
use mathlib.Core.List.{List}
use Prim.Native.Nat.{ℕ, ◌≤◌}
use borrow.Author.Tests.{le-leb}
use lib.Dec.{eqb}
use lib.ListN.{length}
use Rattle.model.specs.Tables.{positive}
use Rattle.model.specs.Bindings.{Bindings, Describes}
use Rattle.model.specs.Calls.{Reaches}
use Rattle.tables.specs.declared.Table.{Table}
use Rattle.tables.specs.declared.Refusal.TheVariants as R
use Rattle.tables.specs.Refusals.{Accepted}
use Rattle.tables.specs.Refusals.{refusal_number, if_accepted}
use Rattle.tables.specs.Values.{accepts, GoodTable}
use Rattle.operations.specs.Outcomes.{groups_of}
use Rattle.operations.specs.Operations.{side_numbered}
use Rattle.forms.specs.declared.Layout.TheVariants.{Plain}
use Rattle.forms.specs.declared.Extent.TheVariants.{Front}
use Rattle.forms.specs.TableForms.{read_table}
use Rattle.equation_forms.specs.declared.Left.TheVariants.{Variable}
use Rattle.equation_forms.specs.EquationForms.{equations_in, check_equations}
use Rattle.forms.proofs.Reading.{read_good}
use Rattle.running.specs.declared.Running.{Running}
use Rattle.running.specs.States.{none_applied, run_from, run_on}
use Rattle.demands.specs.Demand3.{run_events}
use Rattle.demands.proofs.Demand3.{from_described}
use Rattle.text.specs.declared.Reported.{Reported}
use Rattle.report.specs.Reports.{most_input, after_table, input_run, input_text, narrowed, fits_in}
use Rattle.report.specs.Reports.{reported, report_of}

-- Whatever the output, a report that is not refused 9 returns the state of the run.
pub reported_state : (s : Running) (text out : List ℕ) → ((reported s text out).state.code ≡ refusal_number R.Narrow → ⊥)
    → (reported s text out).state ≡ s
unfolding reported narrowed
reported_state s text out other = go (fits_in text out) (eqb s.code 0) other
  where
    go : (b c : Bool) → ((cond {A = Reported} b (record { state = s; size = length text })
        (record { state = cond c (none_applied (refusal_number R.Narrow) 0) s; size = 0 })).state.code
        ≡ refusal_number R.Narrow → ⊥)
        → (cond {A = Reported} b (record { state = s; size = length text })
        (record { state = cond c (none_applied (refusal_number R.Narrow) 0) s; size = 0 })).state ≡ s
    go true c other = refl
    go false true other = absurd (other refl)
    go false false other = refl

-- Of an input that passes its checks, whatever the output: unless the report is refused 9, real bindings that the table read
-- describes are, after the equations that the run applied, described by the table of the state that it returns.
pub report_described : (input out : List ℕ) (t : Table) → length input ≤ most_input → read_table Front input ≡ accepts t
    → check_equations Variable t.l (after_table input) ≡ Accepted
    → ((report_of input out).state.code ≡ refusal_number R.Narrow → ⊥)
    → (θ θ' : Bindings) → Describes (groups_of positive t) θ
    → Reaches θ (run_events t.l (report_of input out).state.applied (equations_in Variable (after_table input))) θ'
    → GoodTable (report_of input out).state.table × Describes (groups_of positive (report_of input out).state.table) θ'
unfolding input_run run_on if_accepted side_numbered
report_described input out t few reads checked other θ θ' d r =
    let ws = equations_in Variable (after_table input) in
    let run : input_run input ≡ run_from 0 t 0 ws = rw (le-leb (length input) most_input few, reads, checked) in
    let is : (report_of input out).state ≡ run_from 0 t 0 ws = reported_state (input_run input) (input_text input) out other
    ∙ run in
    let g = from_described 0 t ws (read_good Plain Front input t reads).0 θ θ' d
    (subst (λ (y : Running). Reaches θ (run_events t.l y.applied ws) θ') is r) in
    subst (λ (y : Running). GoodTable y.table × Describes (groups_of positive y.table) θ') (sym is) g
