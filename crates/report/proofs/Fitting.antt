-- What is returned and written, by whether the text fits. Assumes nothing.
use mathlib.Core.Path.{◌≡◌, refl, sym, ap, ◌∙◌}
use mathlib.Core.Bool.{false}
use mathlib.Core.List.{List, [], ◌∷◌, ◌++◌}
use Prim.Native.Nat.{ℕ, ◌+◌, ◌≤◌, ◌<◌}
use native.Mathlib.Omega.{arith}
use borrow.Author.Tests.{le-leb, lt-leb}
use lib.Dec.{eqb}
use lib.ListN.{length, drop, length-append, set}
use lib.Seq.{sets, sets-eq}
use Rattle.tables.specs.declared.Refusal.{Refusal}
use Rattle.tables.specs.declared.Refusal.TheVariants as R
use Rattle.tables.specs.Refusals.{refusal_number}
use Rattle.codec.proofs.Rows.{sets_append}
use Rattle.text.specs.Text.{newline, decimal}
use Rattle.running.specs.declared.Running.{Running}
use Rattle.running.specs.States.{none_applied}
use Rattle.text.specs.Lines.{refused}
use Rattle.report.specs.Reports.{refused_text, narrowed, reported, fitted}

-- ---- Refusals

code_positive : (r : Refusal) → eqb (refusal_number r) 0 ≡ false
code_positive R.Torn = refl
code_positive R.Width = refl
code_positive R.Entries = refl
code_positive R.Stray = refl
code_positive R.Name = refl
code_positive R.Term = refl
code_positive R.Long = refl
code_positive R.Full = refl
code_positive R.Narrow = refl
code_positive R.Unlike = refl
code_positive R.Keep = refl
code_positive R.Digit = refl

module _ (code : ℕ) where
  -- The word, the number and a newline.
  pub refused_length : length (refused_text code) ≡ 8 + length (decimal code) + 1
  unfolding refused_text
  refused_length = omega (arith, length-append (decimal code) (newline ∷ []))

  -- its parts written one after another
  pub refused_written : (out : List ℕ) {end : ℕ} → end ≡ 8 + length (decimal code)
      → set (sets (sets out 0 refused) 8 (decimal code)) end newline ≡ sets out 0 (refused_text code)
  unfolding refused_text
  refused_written out e =
      rw e (sym (sets_append refused (decimal code ++ (newline ∷ [])) out 0 ∙ sets_append (decimal code) (newline ∷ []) _ 8))

-- ---- What is returned, and what is written

module _ (s : Running) (text out : List ℕ) where
  -- Where the text fits the state is returned, with the length of the text.
  pub reported_fits : length text ≤ length out → record { state = s; size = length text } ≡ reported s text out
  unfolding reported
  reported_fits h = rw (le-leb (length text) (length out) h)

  -- Where it does not, nothing is counted.
  pub reported_narrow : length out < length text → record { state = narrowed s; size = 0 } ≡ reported s text out
  unfolding reported
  reported_narrow h = rw (lt-leb (length text) (length out) h)

module _ (text out : List ℕ) where
  -- Where the text fits it is written.
  pub fitted_fits : length text ≤ length out → sets out 0 text ≡ fitted text out
  unfolding fitted
  fitted_fits h =
      let e : 0 + length text ≡ length text = omega arith in
      rw (le-leb (length text) (length out) h) (sets-eq text out 0 (omega (arith, h)) ∙ ap (λ (k : ℕ). text ++ drop k out) e)

  -- Where it does not, nothing is.
  pub fitted_narrow : length out < length text → out ≡ fitted text out
  unfolding fitted
  fitted_narrow h = rw (lt-leb (length text) (length out) h)

-- A refused state stays as it was.
pub narrowed_none : (r : Refusal) → none_applied (refusal_number r) 0 ≡ narrowed (none_applied (refusal_number r) 0)
unfolding narrowed
narrowed_none r = rw (code_positive r)
