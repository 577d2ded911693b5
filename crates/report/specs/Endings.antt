-- How a report ends (01, "The program `sharerun`" and "Refusals"): refused before any equation is applied, with every
-- equation applied, or at the first full one.
use Rattle.std.specs.Prelude.{◌≡◌, List, [], ◌∷◌, ◌++◌, ℕ, ◌+◌, ◌≤◌, ◌<◌, length}
use Rattle.model.specs.Tables.{positive}
use Rattle.tables.specs.declared.Table.{Table}
use Rattle.tables.specs.declared.Refusal.{Refusal}
use Rattle.tables.specs.declared.Refusal.TheVariants as R
use Rattle.tables.specs.Refusals.{Accepted, Refused}
use Rattle.tables.specs.Refusals.{refusal_number}
use Rattle.tables.specs.Values.{accepts, refuses}
use Rattle.forms.specs.declared.Extent.TheVariants.{Front}
use Rattle.forms.specs.TableForms.{read_table}
use Rattle.terms.specs.Checks.{Written}
use Rattle.operations.specs.Operations.{written_call}
use Rattle.equation_forms.specs.declared.Left.TheVariants.{Variable}
use Rattle.equation_forms.specs.EquationForms.{equations_in, check_equations}
use Rattle.running.specs.States.{state, none_applied}
use Rattle.text.specs.Text.{line}
use Rattle.text.specs.Lines.{eq, refused, block, first_text}
use Rattle.report.specs.Reports.{most_input, after_table, refused_text, input_text, input_run}

-- ---- The input

-- Why an input is refused before any equation is applied: more than 8192 bytes (1); else a table that does not read; else
-- equations that do not pass their checks.
pub data InputRefused (input : List ℕ) : Refusal → Type 0 where
  long : most_input < length input → InputRefused input R.Torn
  unread : {r : Refusal} → length input ≤ most_input → (read_table Front input).answer ≡ Refused r → InputRefused input r
  unchecked : {r : Refusal} {t : Table} → length input ≤ most_input → read_table Front input ≡ accepts t
      → check_equations Variable t.l (after_table input) ≡ Refused r → InputRefused input r

-- The numbers by which it is refused then: 8 is not among them, nor 9.
abbrev pub early_numbers : List ℕ
early_numbers = 1 ∷ 2 ∷ 3 ∷ 4 ∷ 5 ∷ 6 ∷ 7 ∷ []

-- The whole input passes its checks, and its table reads as t.
pub record InputGood (input : List ℕ) (t : Table) : Type 0 where
  pub few : length input ≤ most_input
  pub reads : read_table Front input ≡ accepts t
  pub checked : check_equations Variable t.l (after_table input) ≡ Accepted

-- The equations of an input.
abbrev pub input_equations : List ℕ → List Written
input_equations input = equations_in Variable (after_table input)

-- ---- The equations

-- The equation w from table t is answered full, with the table as it was.
abbrev pub IsFull : Table → Written → Type 0
IsFull t w = written_call positive t w ≡ refuses R.Full t

-- Equations that are all accepted, each on the table that the last one gave, from the first table to the last.
pub data Applied : Table → List Written → Table → Type 0 where
  no_more : {t : Table} → Applied t [] t
  one_more : {t u v : Table} {w : Written} {ws : List Written} → written_call positive t w ≡ accepts u
      → Applied u ws v → Applied t (w ∷ ws) v

-- ---- The text

-- Of equations that are applied from table t, numbered from k on: of each its number and entries, then the entries.
unfoldable pub applied_text : Table → ℕ → List Written → List ℕ
applied_text t k [] = []
applied_text t k (w ∷ ws) =
    let u = (written_call positive t w).table in
    block eq k u ++ applied_text u (k + 1) ws

-- Of the full equation numbered k: "eq k refused 8".
abbrev pub full_line : ℕ → List ℕ
full_line k = line eq k (32 ∷ refused) 8

-- ---- The end

-- How an input ends. Early: refused, none applied, only "refused" and the number. Through: 0, all equations applied and
-- written. Full: 8, with the table and the number of equations before the full one; these are written, then the line of
-- the full one.
pub data Ending (input : List ℕ) : Type 0 where
  early : {r : Refusal} → InputRefused input r → input_run input ≡ none_applied (refusal_number r) 0
      → input_text input ≡ refused_text (refusal_number r) → Ending input
  through : {t u : Table} → InputGood input t → Applied t (input_equations input) u
      → input_run input ≡ state 0 0 (length (input_equations input)) u
      → input_text input ≡ first_text t ++ applied_text t 1 (input_equations input) → Ending input
  full : {t u : Table} (before : List Written) (w : Written) (after : List Written) → InputGood input t
      → input_equations input ≡ before ++ (w ∷ after) → Applied t before u → IsFull u w
      → input_run input ≡ state 8 0 (length before) u
      → input_text input ≡ first_text t ++ (applied_text t 1 before ++ full_line (length before + 1)) → Ending input
