-- Full, and refused before the first equation. Of sixteen variables X1 to X14 are bound to the constant a, and X15 and
-- X16 are unbound; the table describes these bindings, among many others. X15 = g(X16) is accepted, with an admitted
-- unifier that touches a variable, and X16 = f(X1, ..., X6) needs entry 257. A run of the two ends with the number 8, one
-- equation applied and the table before the full one, which describes the bindings after the first equation. A run of
-- the one equation f(X15, X16) = f(g(X16), f(X1, ..., X6)), in the form with terms, whose walk finds both, ends with the
-- number 8 too, and has applied none. A list of calls goes on after the full one, here with X16 = a. Other runs are
-- refused before the first equation, by a variable that is not there (5), by counts that do not sum (6) and by a table
-- cut short (1): none is applied. The state of each run is computed from bytes that are written out. Growing the 258
-- relevant strings of X1 to X6 would take the checker long; that they need entry 257 follows from their weights
-- (`Weights`), which are computed. Assumes nothing.
use mathlib.Core.Path.{◌≡◌, refl, sym, ap, ◌∙◌}
use mathlib.Core.Bool.{Bool, true, false, ◌&&◌}
use mathlib.Core.List.{List, [], ◌∷◌, ◌++◌, map}
use mathlib.Core.Logic.{◌⊎◌, inl, inr}
use mathlib.Core.Option.{Option, some, none}
use Prim.Native.Nat.{ℕ, zero, suc, ◌<◌}
use native.Mathlib.Omega.{arith}
use lib.Dec.{T, eqb, eqb→eq}
use lib.ListN.{length, take, replicate}
use Rattle.model.specs.Groups.{Bits, nonzero}
use Rattle.model.specs.Strings.{Trits, t0, t1, t*, ones}
use Rattle.model.specs.Growth.{◌>>=◌, fold, Entries, limit}
use Rattle.model.specs.Terms.{Terms, var, head, nil, cons, arity, occurs, occurs_row, variables, apply, apply_row}
use Rattle.model.specs.Tables.{positive, Good, Wide, groups, meets_of, equation_of_sets}
use Rattle.model.specs.Equations.{Equation, equation}
use Rattle.model.specs.Walk.{Sides, both, walk, walk_row}
use Rattle.model.specs.Unification.{walk_entries, unification}
use Rattle.model.specs.Bindings.{Bindings, Touches, Describes, bound, as_bound, apply_all, string_of}
use Rattle.model.specs.Calls.{Event, accepted, refused, Reaches}
use Rattle.model.specs.Marked.{a_constant}
use Rattle.model.proofs.Tests.{and_first, and_second}
use Rattle.model.proofs.OccursCheck.{plain_other}
use Rattle.model.proofs.Computing.{strings, growth, equations, procedures}
use Rattle.model.proofs.Demand3.{equation_reaches}
use Rattle.model.proofs.Example.{gives, gives_admitted, gives_touches, f_of, g_of, sides_of}
use Rattle.tables.specs.declared.Refusal.TheVariants as R
use Rattle.tables.specs.Refusals.{Accepted, Refused}
use Rattle.tables.specs.Values.{table_of, good_width, zero_table, GoodTable}
use Rattle.terms.specs.Checks.{Written, one_term, two_terms}
use Rattle.terms.specs.Checks as C
use Rattle.operations.specs.Operations.{side_numbered}
use Rattle.operations.specs.Outcomes.{groups_of}
use Rattle.equation_forms.specs.declared.Left.TheVariants.{Variable, Term}
use Rattle.equation_forms.specs.EquationForms.{equations_in, check_equations}
use Rattle.running.specs.States.{state, run_state, run_from}
use Rattle.running.proofs.Beginning.{run_goes}
use Rattle.demands.specs.Demand3.{term_read, written_sides, Calls, run_events}
use Rattle.demands.specs.Demand3 as S
use Rattle.demands.specs.Demand2.{Reads, Unread}
use Rattle.demands.proofs.Demand3.{calls_described, run_described}
use Rattle.demands.proofs.Ends.{run_not_read, run_not_checked}
use Rattle.demands.proofs.OnEntries.{tokens_read, term_checks, table_read, equations_read, value_good}
use Rattle.demands.proofs.OnEntries.{value_groups, made_good, value_accepted, value_full, call_refused}
use Rattle.demands.proofs.OnEntries.{call_accepted, run_accepted, run_stopped}
use Rattle.worked_examples.proofs.Weights.{weight, spread, equation_full}

-- ---- The table

-- The strings of m positions with k of them 1 and `*` at the others, 1 before `*`.
abbrev pub some_ones : ℕ → ℕ → Entries
some_ones zero m = replicate m t* ∷ []
some_ones (suc k) zero = []
some_ones (suc k) (suc m) =
    map (λ (s : Trits). t1 ∷ s) (some_ones k m) ++ map (λ (s : Trits). t* ∷ s) (some_ones (suc k) m)

-- `*` at X1 to X6, three 1s among X7 to X14 and `*` at the others, 0 at X15 and X16: the first 43 of the 56 strings.
unfoldable pub family : Entries
family = map (λ (s : Trits). replicate 6 t* ++ s ++ (t0 ∷ t0 ∷ [])) (take 43 (some_ones 3 8))

-- These, and the strings with a single 1 at X15 and at X16.
unfoldable pub start_table : Entries
start_table = family ++ ((replicate 14 t0 ++ (t1 ∷ t0 ∷ [])) ∷ (replicate 14 t0 ++ (t0 ∷ t1 ∷ [])) ∷ [])

-- The form of the table: 16 variables, 45 entries.
abbrev pub table_bytes : List ℕ
table_bytes =
    16 ∷ 0 ∷ 45 ∷ 0
    ∷ 192 ∷ 193 ∷ 192 ∷ 194 ∷ 192 ∷ 196 ∷ 192 ∷ 200 ∷ 192 ∷ 208 ∷ 192 ∷ 224 ∷ 64 ∷ 195 ∷ 64 ∷ 197 ∷ 64 ∷ 201
    ∷ 64 ∷ 209 ∷ 64 ∷ 225 ∷ 64 ∷ 198 ∷ 64 ∷ 202 ∷ 64 ∷ 210 ∷ 64 ∷ 226 ∷ 64 ∷ 204 ∷ 64 ∷ 212 ∷ 64 ∷ 228 ∷ 64 ∷ 216
    ∷ 64 ∷ 232 ∷ 64 ∷ 240 ∷ 128 ∷ 195 ∷ 128 ∷ 197 ∷ 128 ∷ 201 ∷ 128 ∷ 209 ∷ 128 ∷ 225 ∷ 128 ∷ 198 ∷ 128 ∷ 202
    ∷ 128 ∷ 210 ∷ 128 ∷ 226 ∷ 128 ∷ 204 ∷ 128 ∷ 212 ∷ 128 ∷ 228 ∷ 128 ∷ 216 ∷ 128 ∷ 232 ∷ 128 ∷ 240 ∷ 0 ∷ 199
    ∷ 0 ∷ 203 ∷ 0 ∷ 211 ∷ 0 ∷ 227 ∷ 0 ∷ 205 ∷ 0 ∷ 213 ∷ 0 ∷ 229 ∷ 255 ∷ 255 ∷ 255 ∷ 255
    ∷ 192 ∷ 1 ∷ 192 ∷ 2 ∷ 192 ∷ 4 ∷ 192 ∷ 8 ∷ 192 ∷ 16 ∷ 192 ∷ 32 ∷ 64 ∷ 3 ∷ 64 ∷ 5 ∷ 64 ∷ 9 ∷ 64 ∷ 17 ∷ 64 ∷ 33
    ∷ 64 ∷ 6 ∷ 64 ∷ 10 ∷ 64 ∷ 18 ∷ 64 ∷ 34 ∷ 64 ∷ 12 ∷ 64 ∷ 20 ∷ 64 ∷ 36 ∷ 64 ∷ 24 ∷ 64 ∷ 40 ∷ 64 ∷ 48 ∷ 128 ∷ 3
    ∷ 128 ∷ 5 ∷ 128 ∷ 9 ∷ 128 ∷ 17 ∷ 128 ∷ 33 ∷ 128 ∷ 6 ∷ 128 ∷ 10 ∷ 128 ∷ 18 ∷ 128 ∷ 34 ∷ 128 ∷ 12 ∷ 128 ∷ 20
    ∷ 128 ∷ 36 ∷ 128 ∷ 24 ∷ 128 ∷ 40 ∷ 128 ∷ 48 ∷ 0 ∷ 7 ∷ 0 ∷ 11 ∷ 0 ∷ 19 ∷ 0 ∷ 35 ∷ 0 ∷ 13 ∷ 0 ∷ 21 ∷ 0 ∷ 37
    ∷ 0 ∷ 64 ∷ 0 ∷ 128 ∷ []

-- It reads as the table.
pub table_reads : Reads table_bytes (table_of 16 start_table)
unfolding table_read family start_table
table_reads = refl

sixteen_wide : good_width 16 ≡ true
unfolding good_width
sixteen_wide = refl

-- every string has that many positions, as a test
all_wide : ℕ → Entries → Bool
all_wide l [] = true
all_wide l (s ∷ τ) = eqb (length s) l && all_wide l τ

tested_wide : (l : ℕ) (τ : Entries) → T (all_wide l τ) → Wide l τ
unfolding all_wide Wide
tested_wide l [] h = tt
tested_wide l (s ∷ τ) h = (
  eqb→eq (length s) l (and_first (eqb (length s) l) (all_wide l τ) h),
  tested_wide l τ (and_second (eqb (length s) l) (all_wide l τ) h),
)

start_good : Good 16 start_table
unfolding family start_table all_wide
start_good = record { wide = tested_wide 16 start_table tt; few = omega arith }

-- ---- The bindings that it describes

-- X1 to X14 are bound to a.
abbrev ground : Bindings
ground = replicate 14 a_constant

-- X15 and X16 are unbound.
abbrev pub start : Bindings
start = ground ++ (var 15 ∷ var 16 ∷ [])

-- in such bindings the string of a run-time variable has a 1 at most at X15 and X16
abbrev last_two : Bool → Bool → Bits
last_two b c = replicate 14 false ++ (b ∷ c ∷ [])

-- The table describes these bindings.
pub start_described : Describes (groups positive 16 start_table) start
unfolding strings growth family start_table nonzero groups string_of occurs occurs_row
start_described v = go (eqb v 15) (eqb v 16) (eqb→eq v 15) (eqb→eq v 16)
  where
    go : (b c : Bool) → (T b → v ≡ 15) → (T c → v ≡ 16)
        → (nonzero (last_two b c) ≡ false) ⊎ groups positive 16 start_table (last_two b c)
    go false false e f = inl refl
    go true false e f = inr ((refl, tt), tt)
    go false true e f = inr ((refl, tt), tt)
    go true true e f = absurd (let p = e tt in let q = f tt in omega arith)

-- ---- The equations

-- the n variables from i on, as arguments
abbrev row : ℕ → ℕ → Terms
row i zero = nil
row i (suc n) = cons (var i) (row (suc i) n)

-- X15 = g(X16), X16 = f(X1, ..., X6) and X16 = a.
abbrev pub first : Equation
first = record { left = 15; right = g_of (var 16) }

abbrev pub second : Equation
second = record { left = 16; right = head 1 (row 1 6) }

abbrev pub third : Equation
third = record { left = 16; right = a_constant }

-- The table after the first: the family, then the string with 1 at X15 and X16.
unfoldable pub before_full : Entries
before_full = family ++ ((replicate 14 t0 ++ (t1 ∷ t1 ∷ [])) ∷ [])

first_gives : equation positive 16 first start_table ≡ some before_full
unfolding procedures family start_table before_full
first_gives = refl

-- The table after the third: the family.
third_gives : equation positive 16 third before_full ≡ some family
unfolding procedures family before_full
third_gives = refl

-- the positions' weights: by the first the relevant strings of X1 to X6 fall, by the second they rise
abbrev falling : List ℕ
falling = 6 ∷ 5 ∷ 4 ∷ 3 ∷ 2 ∷ 1 ∷ 1024 ∷ 512 ∷ 256 ∷ 128 ∷ 64 ∷ 32 ∷ 16 ∷ 8 ∷ 0 ∷ 0 ∷ []

abbrev rising : List ℕ
rising = 1 ∷ 2 ∷ 3 ∷ 4 ∷ 5 ∷ 6 ∷ 0 ∷ 512 ∷ 768 ∷ 896 ∷ 960 ∷ 992 ∷ 1008 ∷ 1016 ∷ 0 ∷ 0 ∷ []

-- 1 at one of X1 to X6, with each string of the family
relevant_strings : List Trits
relevant_strings = meets_of before_full (ones (variables 16 second.right))

strings_spread : T (spread falling rising 2048 0 relevant_strings)
unfolding procedures family before_full relevant_strings weight spread
strings_spread = tt

-- they are 258
strings_many : limit < length relevant_strings
unfolding procedures family before_full relevant_strings
strings_many = omega arith

-- The second equation needs entry 257.
second_gives : equation positive 16 second before_full ≡ none
unfolding equations equation_of_sets relevant_strings
second_gives =
    equation_full falling rising 2048 0 (variables 16 (var 16)) (variables 16 second.right) before_full strings_spread
    strings_many

-- an equation x = t as two sides
as_sides : (e : Equation) (τ : Entries) (o : Option Entries) → equation positive 16 e τ ≡ o
    → unification positive 16 (sides_of e) τ ≡ o
unfolding ◌>>=◌ fold walk walk_entries unification
as_sides e τ (some ρ) h = rw h
as_sides e τ none h = rw h

first_makes : unification positive 16 (sides_of first) start_table ≡ some before_full
first_makes = as_sides first start_table (some before_full) first_gives

-- The second equation needs entry 257 on the table after the first.
pub second_full : unification positive 16 (sides_of second) before_full ≡ none
second_full = as_sides second before_full none second_gives

third_makes : unification positive 16 (sides_of third) before_full ≡ some family
third_makes = as_sides third before_full (some family) third_gives

before_good : Good 16 before_full
before_good = made_good positive sixteen_wide start_good (sides_of first) first_makes

-- ---- The run that ends full

-- X15 = g(X16) and X16 = f(X1, ..., X6): 2 equations of 9 tokens.
abbrev pub equations_bytes : List ℕ
equations_bytes =
    2 ∷ 0 ∷ 9 ∷ 0 ∷ 15 ∷ 0 ∷ 16 ∷ 0 ∷ 2 ∷ 0 ∷ 7 ∷ 0 ∷ 33 ∷ 128 ∷ 16 ∷ 0
    ∷ 22 ∷ 128 ∷ 1 ∷ 0 ∷ 2 ∷ 0 ∷ 3 ∷ 0 ∷ 4 ∷ 0 ∷ 5 ∷ 0 ∷ 6 ∷ 0 ∷ []

-- the equations as they are written, with the tokens of g(X16) and of f(X1, ..., X6)
abbrev first_written : Written
first_written = one_term 15 (32801 ∷ 16 ∷ [])

abbrev second_written : Written
second_written = one_term 16 (32790 ∷ 1 ∷ 2 ∷ 3 ∷ 4 ∷ 5 ∷ 6 ∷ [])

-- these are the equations of the form
written_are : equations_in Variable equations_bytes ≡ first_written ∷ second_written ∷ []
unfolding equations_read
written_are = refl

-- they pass their checks
checked : check_equations Variable 16 equations_bytes ≡ Accepted
unfolding equations_read
checked = refl

first_reads : C.check_written 16 first_written ≡ C.reads (sides_of first)
unfolding term_checks
first_reads = refl

second_reads : C.check_written 16 second_written ≡ C.reads (sides_of second)
unfolding term_checks
second_reads = refl

-- The run ends with the number 8, one equation applied and the table before the full one.
pub full_run : run_state Variable 0 table_bytes equations_bytes ≡ state 8 0 1 (table_of 16 before_full)
unfolding side_numbered table_of
full_run =
    sym (run_goes Variable 0 table_bytes equations_bytes (sym table_reads) refl checked)
    ∙ ap (run_from 0 (table_of 16 start_table) 0) written_are
    ∙ run_accepted 0 (table_of 16 start_table) 0 first_written (second_written ∷ [])
    (value_accepted positive sixteen_wide start_good first_written first_reads first_makes)
    ∙ run_stopped 0 (table_of 16 before_full) 1 second_written []
    (value_full positive sixteen_wide before_good second_written second_reads second_full)

-- The bindings after the first equation: X15 is bound to g of the run-time variable of X16.
abbrev pub end : Bindings
end = ground ++ (g_of (var 16) ∷ var 16 ∷ [])

-- The model reaches them by an admitted unifier of the one equation that was applied.
pub full_reach : Reaches start (run_events 16 1 (first_written ∷ second_written ∷ [])) end
unfolding run_events written_sides tokens_read term_read bound as_bound apply apply_row apply_all Reaches equations
full_reach =
    let u = g_of (var 16) in (equation_reaches start end 15 u [] (plain_other refl)).1 (gives 15 u, gives_admitted 15 u refl refl, refl)

-- This unifier is not trivial: it touches the run-time variable of X15.
pub full_touches : Touches (gives 15 (g_of (var 16))) 15
full_touches = gives_touches 15 2 (cons (var 16) nil)

-- The table that the run ends with is good, and describes these bindings.
pub full_end : GoodTable (run_state Variable 0 table_bytes equations_bytes).table
    × Describes (groups_of positive (run_state Variable 0 table_bytes equations_bytes).table) end
unfolding side_numbered table_of
full_end =
    run_described 0 Variable table_bytes equations_bytes (table_of 16 start_table) table_reads checked start end
    (rw (value_groups positive sixteen_wide start_good) start_described)
    (rw (full_run, written_are) full_reach)

-- ---- The same as one equation of two terms

-- f(X15, X16) = f(g(X16), f(X1, ..., X6)): 1 equation of 3 and 10 tokens.
abbrev pub terms_bytes : List ℕ
terms_bytes =
    1 ∷ 0 ∷ 13 ∷ 0 ∷ 3 ∷ 0 ∷ 10 ∷ 0 ∷ 18 ∷ 128 ∷ 15 ∷ 0 ∷ 16 ∷ 0 ∷ 18 ∷ 128 ∷ 33 ∷ 128 ∷ 16 ∷ 0
    ∷ 22 ∷ 128 ∷ 1 ∷ 0 ∷ 2 ∷ 0 ∷ 3 ∷ 0 ∷ 4 ∷ 0 ∷ 5 ∷ 0 ∷ 6 ∷ 0 ∷ []

-- the equation as it is written, and its two sides
abbrev both_written : Written
both_written =
    two_terms (32786 ∷ 15 ∷ 16 ∷ []) (32786 ∷ 32801 ∷ 16 ∷ 32790 ∷ 1 ∷ 2 ∷ 3 ∷ 4 ∷ 5 ∷ 6 ∷ [])

abbrev both_sides : Sides
both_sides = record { left = f_of (var 15) (var 16); right = f_of first.right second.right }

both_is : equations_in Term terms_bytes ≡ both_written ∷ []
unfolding equations_read
both_is = refl

both_checked : check_equations Term 16 terms_bytes ≡ Accepted
unfolding equations_read
both_checked = refl

both_reads : C.check_written 16 both_written ≡ C.reads both_sides
unfolding term_checks
both_reads = refl

-- Its walk finds the first equation and then the second, which is full.
both_full : unification positive 16 both_sides start_table ≡ none
unfolding ◌>>=◌ fold both walk walk_row arity walk_entries unification
both_full = rw (first_gives, second_gives)

-- The run ends with the number 8, none applied and the table that was read, though the first equation found was not full.
pub both_run : run_state Term 0 table_bytes terms_bytes ≡ state 8 0 0 (table_of 16 start_table)
unfolding side_numbered table_of
both_run =
    sym (run_goes Term 0 table_bytes terms_bytes (sym table_reads) refl both_checked)
    ∙ ap (run_from 0 (table_of 16 start_table) 0) both_is
    ∙ run_stopped 0 (table_of 16 start_table) 0 both_written []
    (value_full positive sixteen_wide start_good both_written both_reads both_full)

-- ---- The same equations as calls

-- X16 = a
abbrev third_written : Written
third_written = one_term 16 (32800 ∷ [])

third_reads : C.check_written 16 third_written ≡ C.reads (sides_of third)
unfolding term_checks
third_reads = refl

-- What the model is fed of the three calls: the second, which is full, was refused.
abbrev pub calls_events : List Event
calls_events = accepted (sides_of first) ∷ refused ∷ accepted (sides_of third) ∷ []

-- X15 = g(X16) on a table value, X16 = f(X1, ..., X6), which is refused 8, and X16 = a.
pub full_calls : Calls positive (table_of 16 start_table) calls_events (table_of 16 family)
full_calls =
    call_accepted positive sixteen_wide start_good first_written first_makes first_reads
    (call_refused positive (table_of 16 before_full) second_written
    (value_full positive sixteen_wide before_good second_written second_reads second_full)
    (call_accepted positive sixteen_wide before_good third_written third_makes third_reads S.end))

-- The bindings after them: the full equation has left them as they were, and the last gives X16 the constant.
abbrev pub calls_bindings : Bindings
calls_bindings = ground ++ (g_of a_constant ∷ a_constant ∷ [])

-- The model reaches them by an admitted unifier at each accepted call.
pub calls_reach : Reaches start calls_events calls_bindings
unfolding bound as_bound apply apply_row apply_all Reaches equations
calls_reach =
    let u = g_of (var 16) in
    (equation_reaches start calls_bindings 15 u (refused ∷ accepted (sides_of third) ∷ []) (plain_other refl)).1 (
      gives 15 u,
      gives_admitted 15 u refl refl,
      (equation_reaches end calls_bindings 16 a_constant [] (plain_other refl)).1
          (gives 16 a_constant, gives_admitted 16 a_constant refl refl, refl),
    )

-- The last table is good, and describes these bindings.
pub calls_end : GoodTable (table_of 16 family) × Describes (groups_of positive (table_of 16 family)) calls_bindings
calls_end =
    calls_described positive full_calls (value_good positive sixteen_wide start_good) start calls_bindings
    (rw (value_groups positive sixteen_wide start_good) start_described) calls_reach

-- ---- Runs that are refused

-- X15 = g(X16) and X17 = X1: the second has a variable that is not there.
abbrev pub unnamed_bytes : List ℕ
unnamed_bytes = 2 ∷ 0 ∷ 3 ∷ 0 ∷ 15 ∷ 0 ∷ 17 ∷ 0 ∷ 2 ∷ 0 ∷ 1 ∷ 0 ∷ 33 ∷ 128 ∷ 16 ∷ 0 ∷ 1 ∷ 0 ∷ []

unnamed : check_equations Variable 16 unnamed_bytes ≡ Refused R.Name
unfolding equations_read
unnamed = refl

-- The run has applied none, though the first equation alone would be accepted; its number is 5, its table all zero.
pub unnamed_run : run_state Variable 0 table_bytes unnamed_bytes ≡ state 5 0 0 zero_table
unfolding table_of
unnamed_run = run_not_checked Variable 0 table_bytes unnamed_bytes table_reads unnamed

-- X15 = g(X16) twice, with 2 and 3 tokens counted where 4 are said.
abbrev pub uneven_bytes : List ℕ
uneven_bytes = 2 ∷ 0 ∷ 4 ∷ 0 ∷ 15 ∷ 0 ∷ 15 ∷ 0 ∷ 2 ∷ 0 ∷ 3 ∷ 0 ∷ 33 ∷ 128 ∷ 16 ∷ 0 ∷ 33 ∷ 128 ∷ 16 ∷ 0 ∷ []

uneven : check_equations Variable 16 uneven_bytes ≡ Refused R.Term
unfolding equations_read
uneven = refl

-- The run has applied none; its number is 6.
pub uneven_run : run_state Variable 0 table_bytes uneven_bytes ≡ state 6 0 0 zero_table
unfolding table_of
uneven_run = run_not_checked Variable 0 table_bytes uneven_bytes table_reads uneven

-- The table without its last byte.
cut_short : Unread (take 183 table_bytes) R.Torn
unfolding table_read
cut_short = refl

-- The run has applied none, whatever its equations are; its number is 1.
pub cut_run : (q : List ℕ) → run_state Variable 0 (take 183 table_bytes) q ≡ state 1 0 0 zero_table
cut_run q = run_not_read Variable 0 (take 183 table_bytes) q cut_short
