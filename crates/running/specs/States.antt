-- The running analysis and the run (01, "Refusals" and "Bindings and runs").
use Rattle.std.specs.Prelude.{cond, List, [], ◌∷◌, ℕ, ◌+◌, ltb, length}
use Rattle.tables.specs.declared.Table.{Table}
use Rattle.tables.specs.declared.Answered.{Answered}
use Rattle.tables.specs.Refusals.{refusal_number, answer_number, if_accepted}
use Rattle.tables.specs.Values.{zero_table}
use Rattle.terms.specs.Checks.{Written}
use Rattle.operations.specs.Operations.{side_numbered, written_call}
use Rattle.forms.specs.declared.Extent.TheVariants.{Whole}
use Rattle.forms.specs.TableForms.{read_table, table_form, write_answer, written}
use Rattle.equation_forms.specs.declared.Left.{Left}
use Rattle.equation_forms.specs.EquationForms.{equations_in, check_equations}
use Rattle.byte_calls.specs.ByteCalls.{value_call}
use Rattle.running.specs.declared.Running.{Running}

-- A state: the answer of the call that last wrote it, the side as it was given, the number of accepted equations, the table.
abbrev pub state : ℕ → ℕ → ℕ → Table → Running
state code side applied t = record { code = code; side = side; applied = applied; table = t }

-- ---- The running analysis

-- The state before any equation: that of the table read, or the refusal with a table all zero.
unfoldable pub started : ℕ → List ℕ → Running
started side b = state (answer_number (read_table Whole b).answer) side 0 (read_table Whole b).table

-- The largest count of accepted equations.
abbrev pub most_applied : ℕ
most_applied = 4294967295

-- One more accepted equation; the count stays at its largest number.
unfoldable pub one_more : ℕ → ℕ
one_more k = cond (ltb k most_applied) (k + 1) k

-- What is answered to one equation of either kind, written in bytes.
abbrev pub step_answered : Running → Written → Answered
step_answered s w = value_call (side_numbered s.side) s.table w

-- The number that a step returns.
unfoldable pub step_number : Running → Written → ℕ
step_number s w = answer_number (step_answered s w).answer

-- The state after an answer to an equation: a refusal leaves the whole state as it was; else `code` is 0, one more equation
-- is counted, and the table is the one after it.
unfoldable pub after_answer : Running → Answered → Running
after_answer s a = if_accepted a.answer (λ r. s) (state 0 s.side (one_more s.applied) a.table)

-- The state after one equation.
unfoldable pub advanced : Running → Written → Running
advanced s w = after_answer s (step_answered s w)

-- ---- The run

-- A run that applied none, with a table all zero.
abbrev pub none_applied : ℕ → ℕ → Running
none_applied code side = state code side 0 zero_table

-- The equations in order from table t, k of them before: the first that is refused ends the run, with the table and the
-- number before it.
unfoldable pub run_from : ℕ → Table → ℕ → List Written → Running
run_from side t k [] = state 0 side k t
run_from side t k (w ∷ ws) =
    let a = written_call (side_numbered side) t w in
    if_accepted a.answer (λ r. state (refusal_number r) side k a.table) (run_from side a.table (k + 1) ws)

-- A run of a table that was read and the bytes of equations in either form: all are checked first, and a refusal by then has
-- applied none.
unfoldable pub run_on : Left → ℕ → Table → List ℕ → Running
run_on f side t q =
    if_accepted (check_equations f t.l q) (λ r. none_applied (refusal_number r) side)
    (run_from side t 0 (equations_in f q))

-- A run: the table is read, then all equations are checked; a refusal by then has applied none.
unfoldable pub run_state : Left → ℕ → List ℕ → List ℕ → Running
run_state f side b q =
    let a = read_table Whole b in
    if_accepted a.answer (λ r. none_applied (refusal_number r) side) (run_on f side a.table q)

-- ---- Writing the table of a state

-- The number that is returned: 2, 3, 4 of the table, then 9.
unfoldable pub state_number : Running → List ℕ → ℕ
state_number s out = answer_number (write_answer s.table (length out))

-- The bytes of the output afterwards.
unfoldable pub state_bytes : Running → List ℕ → List ℕ
state_bytes s out = written (write_answer s.table (length out)) (table_form s.table) out
