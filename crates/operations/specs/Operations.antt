-- The operations on table values (01, "Refusals"): the table's own 2, 3, 4, of two tables the first's first; then the
-- equation's checks, 10 or 11; then 8. A refusal returns the table as given, of two the first, and one all zero where none came in.
use Rattle.std.specs.Prelude.{◌≡◌, Bool, ◌&&◌, cond, List, map, ℕ, ◌^◌, ltb, eqb, Result, Ok, Err}
use Rattle.std.proofs.Math.Option.{some}
use Rattle.model.specs.Growth.{convert, Entries}
use Rattle.model.specs.Terms.{Term}
use Rattle.model.specs.Tables.{positive, negative, change_side, join, kept, projection}
use Rattle.model.specs.Tables as M
use Rattle.model.specs.Equations.{Equation, equation}
use Rattle.model.specs.Unification.{unification}
use Rattle.words.specs.Words.{set}
use Rattle.tables.specs.declared.Table.{Table}
use Rattle.tables.specs.declared.Refusal.{Refusal}
use Rattle.tables.specs.declared.Refusal.TheVariants as R
use Rattle.tables.specs.declared.Answered.{Answered}
use Rattle.tables.specs.Refusals.{if_accepted}
use Rattle.tables.specs.Values.{good_width, zero_table, entries_of, refuses, made_or_full, check_table}
use Rattle.lists.specs.Comings.{Coming}
use Rattle.lists.specs.WorkingLists.{Holds}
use Rattle.lists.specs.Comings.{Comes}
use Rattle.conversion.specs.Conversion.{all_below}
use Rattle.terms.specs.declared.Equation as E
use Rattle.terms.specs.Checks as C
use Rattle.terms.specs.Checks.{check_equation, check_sides, if_read, reads, Written, one_term, two_terms}
use Rattle.terms.specs.EquationKinds.{Told}
use Rattle.walks.specs.Cursors.{Rest}
use Rattle.operations.specs.declared.Side.{Side}
use Rattle.operations.specs.declared.Side.TheVariants.{Positive, Negative}

-- The side that the enum names.
abbrev pub side_of : Side → M.Side
side_of Positive = positive
side_of Negative = negative

-- The side that a number stands for: 0 is positive, any other number negative.
unfoldable pub side_numbered : ℕ → M.Side
side_numbered n = cond (eqb n 0) positive negative

-- What came of a call on the table value t, in the list that it was lent, is the answer of that call.
abbrev pub CameOf : Table → List ℕ → Coming → (Table → Answered) → Type 0
CameOf t list came call = Comes t.l t list came (call t)

-- Convert groups, given as l and a row of words: 2, then 4 for a bit above l, then 8.
unfoldable pub convert_call : ℕ → List ℕ → Answered
convert_call l ws =
    cond (good_width l)
    (cond (all_below l ws) (made_or_full l zero_table (convert (map (set l) ws))) (refuses R.Stray zero_table))
    (refuses R.Width zero_table)

-- An equation that was handed over, as the procedures need it, or the refusal of its checks.
abbrev pub Given : Type 0
Given = Result E.Equation Refusal

-- What the checks of Xx = the term of the tokens ts come to in code: a term was read, and the value tells that equation; or they
-- refuse.
abbrev pub GivenAs : ℕ → ℕ → List ℕ → Given → Type 0
GivenAs l x ts (Ok q) = (u : Term) × (check_equation l x ts ≡ reads u) × Told l q (record { left = x; right = u })
GivenAs l x ts (Err r) = check_equation l x ts ≡ C.refuses r

-- The equation Xx = the term of the tokens ts: 2, 3, 4; 7; 5 of x; 5 of the tokens; 6; 8.
unfoldable pub equation_call : M.Side → Table → ℕ → List ℕ → Answered
equation_call side t x ts =
    if_accepted (check_table t) (λ r. refuses r t) (if_read (check_equation t.l x ts) (λ r. refuses r t) (λ u.
    made_or_full t.l t (equation side t.l (record { left = x; right = u }) (entries_of t))))

-- The array holds these entries, and the walk of the two rows of tokens, from the front of both, finds these equations.
abbrev pub Starts : ℕ → List ℕ → ℕ → List ℕ → List ℕ → Entries × List Equation → Type 0
Starts l list n left right p = Holds l list n p.0 × Rest l left right 0 0 (some p.1)

-- The terms of the tokens ss and ts set equal: 2, 3, 4; 7; 5, 6 of ss; 5, 6 of ts; 8.
unfoldable pub unify_call : M.Side → Table → List ℕ → List ℕ → Answered
unify_call side t ss ts =
    if_accepted (check_table t) (λ r. refuses r t) (if_read (check_sides t.l ss ts) (λ r. refuses r t) (λ s.
    made_or_full t.l t (unification side t.l s (entries_of t))))

-- The call on an equation of either kind, written in tokens.
unfoldable pub written_call : M.Side → Table → Written → Answered
written_call side t (one_term x ts) = equation_call side t x ts
written_call side t (two_terms ss ts) = unify_call side t ss ts

-- The join of two tables of one side: 2, 3, 4 of the first, then of the second; 10; 8.
unfoldable pub join_call : M.Side → Table → Table → Answered
join_call side t u =
    if_accepted (check_table t) (λ r. refuses r t) (if_accepted (check_table u) (λ r. refuses r t)
    (cond (eqb t.l u.l) (made_or_full t.l t (join side (entries_of t) (entries_of u))) (refuses R.Unlike t)))

-- The set keep has a variable, and none above l.
unfoldable pub good_keep : ℕ → ℕ → Bool
good_keep l keep = ltb 0 keep && ltb keep (2 ^ l)

-- The projection onto the set k.
unfoldable pub projected : M.Side → Table → List Bool → Answered
projected side t k = made_or_full (kept k) t (projection side t.l k (entries_of t))

-- The projection of a table: 2, 3, 4; 11; 8.
unfoldable pub projection_call : M.Side → Table → ℕ → Answered
projection_call side t keep =
    if_accepted (check_table t) (λ r. refuses r t)
    (cond (good_keep t.l keep) (projected side t (set t.l keep)) (refuses R.Keep t))

-- The change of side of a table: 2, 3, 4; 8. The procedure is the same from either side.
unfoldable pub change_side_call : M.Side → Table → Answered
change_side_call side t =
    if_accepted (check_table t) (λ r. refuses r t) (made_or_full t.l t (change_side t.l (entries_of t)))
