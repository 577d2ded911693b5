-- The report of an input (01, "The program `sharerun`"): a positive table, then equations; the run of them, its text, and
-- what is written into a lent output.
use Rattle.std.specs.Prelude.{Bool, cond, List, [], ◌∷◌, ◌++◌, ℕ, leb, eqb, length, drop}
use Rattle.tables.specs.declared.Table.{Table}
use Rattle.tables.specs.declared.Refusal.TheVariants as R
use Rattle.tables.specs.Refusals.{refusal_number, if_accepted}
use Rattle.forms.specs.declared.Extent.TheVariants.{Front}
use Rattle.forms.specs.TableForms.{front_length, read_table}
use Rattle.terms.specs.Checks.{Written}
use Rattle.equation_forms.specs.declared.Left.TheVariants.{Variable}
use Rattle.equation_forms.specs.EquationForms.{equations_in, check_equations}
use Rattle.running.specs.declared.Running.{Running}
use Rattle.running.specs.States.{none_applied, run_from, run_on}
use Rattle.text.specs.declared.Reported.{Reported}
use Rattle.text.specs.Text.{newline, decimal}
use Rattle.text.specs.Lines.{refused}
use Rattle.text.specs.RunTexts.{run_text}

-- ---- The input

-- At most 8192 bytes of input (01 had 4096; 02, request 5).
abbrev pub most_input : ℕ
most_input = 8192

-- The bytes after the table.
abbrev pub after_table : List ℕ → List ℕ
after_table input = drop (front_length input) input

-- ---- The text

-- Of an input that is refused: only the number.
unfoldable pub refused_text : ℕ → List ℕ
refused_text code = refused ++ (decimal code ++ (newline ∷ []))

-- The text of a table that was read and the bytes after it.
unfoldable pub rest_text : Table → List ℕ → List ℕ
rest_text t q =
    if_accepted (check_equations Variable t.l q) (λ r. refused_text (refusal_number r))
    (run_text t (equations_in Variable q))

-- The text of an input: above 8192 bytes is 1 before any other check; then the table, which more may follow; then the
-- equations, which are exactly the rest.
unfoldable pub input_text : List ℕ → List ℕ
input_text input =
    let a = read_table Front input in
    cond (leb (length input) most_input)
    (if_accepted a.answer (λ r. refused_text (refusal_number r)) (rest_text a.table (after_table input)))
    (refused_text (refusal_number R.Torn))

-- ---- The run

-- The run of an input, on the positive side. A refusal has applied none.
unfoldable pub input_run : List ℕ → Running
input_run input =
    let a = read_table Front input in
    cond (leb (length input) most_input)
    (if_accepted a.answer (λ r. none_applied (refusal_number r) 0) (run_on Variable 0 a.table (after_table input)))
    (none_applied (refusal_number R.Torn) 0)

-- ---- What is returned, and what is written

-- Where the text does not fit, an accepted run is refused 9 and has applied none; a refused one, full too, stays as it was.
unfoldable pub narrowed : Running → Running
narrowed s = cond (eqb s.code 0) (none_applied (refusal_number R.Narrow) 0) s

-- The text fits into the output.
abbrev pub fits_in : List ℕ → List ℕ → Bool
fits_in text out = leb (length text) (length out)

-- What is returned of a run and its text: the state of the run, and the length of what was written.
unfoldable pub reported : Running → List ℕ → List ℕ → Reported
reported s text out =
    cond (fits_in text out) (record { state = s; size = length text }) (record { state = narrowed s; size = 0 })

-- The bytes of the output: the text, and past it what they held; where it does not fit nothing is written.
unfoldable pub fitted : List ℕ → List ℕ → List ℕ
fitted text out = cond (fits_in text out) (text ++ drop (length text) out) out

-- What is returned where an input is refused.
abbrev pub refused_report : ℕ → List ℕ → Reported
refused_report code out = reported (none_applied code 0) (refused_text code) out

-- What is returned of a run whose input passed its checks.
abbrev pub run_report : Table → List Written → List ℕ → Reported
run_report t ws out = reported (run_from 0 t 0 ws) (run_text t ws) out

-- What is returned of a table that was read and the bytes after it.
abbrev pub rest_report : Table → List ℕ → List ℕ → Reported
rest_report t q out = reported (run_on Variable 0 t q) (rest_text t q) out

-- What is returned of an input.
abbrev pub report_of : List ℕ → List ℕ → Reported
report_of input out = reported (input_run input) (input_text input) out

-- The bytes of the output afterwards.
abbrev pub report_bytes : List ℕ → List ℕ → List ℕ
report_bytes input out = fitted (input_text input) out
