-- What each way through an input comes to. Assumes nothing.
use mathlib.Core.Path.{◌≡◌, sym, ap, ◌∙◌}
use mathlib.Core.List.{List}
use Prim.Native.Nat.{ℕ, ◌-◌, ◌≤◌, ◌<◌}
use native.Mathlib.Omega.{arith}
use borrow.Author.Tests.{le-leb, lt-leb}
use lib.ListN.{length, take, drop, length-drop}
use lib.Seq.{take_all, sets}
use Rattle.tables.specs.declared.Table.{Table}
use Rattle.tables.specs.declared.Refusal.{Refusal}
use Rattle.tables.specs.declared.Refusal.TheVariants as R
use Rattle.tables.specs.Refusals.{Accepted, Refused}
use Rattle.tables.specs.declared.Answered.{Answered}
use Rattle.tables.specs.Refusals.{refusal_number, if_accepted}
use Rattle.tables.specs.Values.{accepts, GoodTable}
use Rattle.forms.specs.declared.Layout.TheVariants.{Plain}
use Rattle.forms.specs.declared.Extent.TheVariants.{Front}
use Rattle.forms.specs.TableForms.{front_length, read_table}
use Rattle.equation_forms.specs.declared.Left.TheVariants.{Variable}
use Rattle.equation_forms.specs.EquationForms.{equations_in, check_equations}
use Rattle.forms.proofs.Reading.{read_good}
use Rattle.running.specs.declared.Running.{Running}
use Rattle.running.specs.States.{none_applied, run_from, run_on}
use Rattle.text.specs.declared.Pass.TheVariants.{Measure, Write}
use Rattle.text.specs.Passes.{passed}
use Rattle.report.specs.Reports.{most_input, after_table, refused_text, rest_text, input_text}
use Rattle.text.specs.RunTexts.{run_text}
use Rattle.report.specs.Reports.{input_run, narrowed, reported, fitted}
use Rattle.report.proofs.Fitting.{reported_fits, reported_narrow, fitted_fits, fitted_narrow}

-- ---- Written at once, or measured and then written

-- Written at once.
pub at_once : (text out : List ℕ) → length text ≤ length out → {out₁ : List ℕ} → out₁ ≡ passed Write out 0 text
    → out₁ ≡ fitted text out
unfolding passed
at_once text out fits w = w ∙ fitted_fits text out fits

module _ (s : Running) (text out : List ℕ) {out₁ : List ℕ} (measured : out₁ ≡ passed Measure out 0 text) where
  -- A text that is only measured leaves the output as it was.
  pub kept_measured : out₁ ≡ out
  unfolding passed
  kept_measured = measured

  -- Measured, and then written where it fits.
  pub both_fit : length text ≤ length out₁ → {out₂ : List ℕ} → out₂ ≡ passed Write out₁ 0 text
      → (record { state = s; size = length text } ≡ reported s text out) × (out₂ ≡ fitted text out)
  unfolding passed
  both_fit h w =
      let fits : length text ≤ length out = omega (arith, h, ap length measured) in
      (reported_fits s text out fits, w ∙ ap (λ (o : List ℕ). sets o 0 text) measured ∙ fitted_fits text out fits)

  -- Measured, and too long.
  pub both_narrow : length out₁ < length text
      → (record { state = narrowed s; size = 0 } ≡ reported s text out) × (out₁ ≡ fitted text out)
  both_narrow h =
      let short : length out < length text = omega (arith, h, ap length kept_measured) in
      (reported_narrow s text out short, kept_measured ∙ fitted_narrow text out short)

-- ---- The rest of an input

module _ (t : Table) (q : List ℕ) where
  -- Equations that do not pass their checks: only the number is reported.
  pub rest_refused : {r : Refusal} → check_equations Variable t.l q ≡ Refused r
      → (none_applied (refusal_number r) 0 ≡ run_on Variable 0 t q) × (refused_text (refusal_number r) ≡ rest_text t q)
  unfolding run_on rest_text if_accepted
  rest_refused e = (rw e, rw e)

  -- Else they are run.
  pub rest_goes : check_equations Variable t.l q ≡ Accepted
      → (run_from 0 t 0 (equations_in Variable q) ≡ run_on Variable 0 t q)
      × (run_text t (equations_in Variable q) ≡ rest_text t q)
  unfolding run_on rest_text if_accepted
  rest_goes e = (rw e, rw e)

-- ---- An input

module _ (input : List ℕ) where
  -- More than 8192 bytes: 1 is reported.
  pub input_long : most_input < length input
      → (none_applied (refusal_number R.Torn) 0 ≡ input_run input)
      × (refused_text (refusal_number R.Torn) ≡ input_text input)
  unfolding input_run input_text
  input_long h = (rw (lt-leb (length input) most_input h), rw (lt-leb (length input) most_input h))

  -- the part of the input after the table
  pub input_rest : {end : ℕ} → end ≡ front_length input → take (length input - end) (drop end input) ≡ after_table input
  input_rest {end} e =
      take_all (length input - end) (drop end input) (omega (arith, length-drop end input))
      ∙ ap (λ (k : ℕ). drop k input) e

  module _ (few : length input ≤ most_input) {a : Answered} (read : a ≡ read_table Front input) where
    -- A table that does not read: only the number is reported.
    pub input_refused : {r : Refusal} → a.answer ≡ Refused r
        → (none_applied (refusal_number r) 0 ≡ input_run input) × (refused_text (refusal_number r) ≡ input_text input)
    unfolding input_run input_text if_accepted
    input_refused e =
        let f = ap (λ (b : Answered). b.answer) (sym read) ∙ e in
        (rw (le-leb (length input) most_input few, f), rw (le-leb (length input) most_input few, f))

    module _ (e : a.answer ≡ Accepted) where
      -- the table that reads
      pub reads : read_table Front input ≡ accepts a.table
      reads = sym read ∙ λ i. record { answer = e i; table = a.table }

      -- A table that reads is good.
      pub input_good : GoodTable a.table
      input_good = (read_good Plain Front input a.table reads).0

      -- Then the rest decides.
      pub input_goes : (run_on Variable 0 a.table (after_table input) ≡ input_run input)
          × (rest_text a.table (after_table input) ≡ input_text input)
      unfolding input_run input_text if_accepted
      input_goes =
          (rw (le-leb (length input) most_input few, reads), rw (le-leb (length input) most_input few, reads))
