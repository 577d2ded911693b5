-- Demand 2 of the calls: how each can answer, and when; and that the answers exclude each other, so that each refusal is given
-- in its condition and in no other.
use Rattle.std.specs.Prelude.{◌≡◌, true, false, List, [], ◌∷◌, map, ◌⊎◌, ◌↔◌, ℕ, T, length}
use Rattle.model.specs.Groups.{Groups, Projected, Joined, Listed}
use Rattle.model.specs.Growth.{limit}
use Rattle.model.specs.Terms.{Term}
use Rattle.model.specs.Tables.{Side, positive, opposite, groups, kept}
use Rattle.model.specs.Questions.{Equal}
use Rattle.model.specs.Equations.{After}
use Rattle.model.specs.Walk.{Sides, walk_sides}
use Rattle.model.specs.Unification.{AfterSides}
use Rattle.model.specs.Full.{ConvertFull, ChangeFull, EquationFull, WalkFull, JoinFull, ProjectionFull}
use Rattle.words.specs.Words.{set}
use Rattle.tables.specs.declared.Table.{Table}
use Rattle.tables.specs.declared.Refusal.{Refusal}
use Rattle.tables.specs.declared.Refusal.TheVariants as R
use Rattle.tables.specs.Refusals.{Accepted, Refused}
use Rattle.tables.specs.declared.Answered.{Answered}
use Rattle.tables.specs.Refusals.{one_of}
use Rattle.tables.specs.Values.{good_width, zero_table, entries_of, accepts, refuses, zero_past, check_table, GoodTable}
use Rattle.conversion.specs.Conversion.{all_below}
use Rattle.terms.specs.Checks as C
use Rattle.operations.specs.Operations.{good_keep, convert_call, equation_call, join_call, projection_call}
use Rattle.operations.specs.Operations.{unify_call, change_side_call}

-- What the type says of every table value: its arrays have 256 words.
pub record TableValue (t : Table) : Type 0 where
  pub cares : length t.care ≡ limit
  pub values : length t.value ≡ limit

-- The groups that a table value stands for.
abbrev pub groups_of : Side → Table → Groups
groups_of side t = groups side t.l (entries_of t)

-- The table u is good, has l variables, and stands for exactly the groups S, none lost and none added.
pub record Becomes (side : Side) (l : ℕ) (S : Groups) (u : Table) : Type 0 where
  pub good : GoodTable u
  pub width : u.l ≡ l
  pub exact : Equal (groups_of side u) S

-- An answer of a call on t. Refused early, by a number in its condition; else, where the call is ready to grow, 8 where some
-- list of the growth rule needs entry 257, and only there; else accepted, with the result.
pub data Outcome (t : Table) (Early : Refusal → Type 0) (Ready : Type 0) (Full : Ready → Type 0)
    (Result : Ready → Table → Type 0) : Answered → Type 0 where
  early : {r : Refusal} → Early r → Outcome t Early Ready Full Result (refuses r t)
  full : (ready : Ready) → Full ready → Outcome t Early Ready Full Result (refuses R.Full t)
  accepted : (ready : Ready) {u : Table} → ¬ (Full ready) → Result ready u → Outcome t Early Ready Full Result (accepts u)

-- Where the call is accepted, the entries past the count of the table that it returns are zero.
abbrev pub ZeroPast : Answered → Type 0
ZeroPast a = a.answer ≡ Accepted → zero_past a.table.n a.table.care a.table.value ≡ true

-- The answers of a call exclude each other: accepted exactly where it is ready and no list is full, 8 exactly where it is ready
-- and one is, any other refusal exactly in its condition; an early refusal has one of the numbers ns, which 8 is not.
pub record Exclusive (ns : List ℕ) (Early : Refusal → Type 0) (Ready : Type 0) (Full : Ready → Type 0)
    (a : Answered) : Type 0 where
  pub accepted_where : (a.answer ≡ Accepted) ↔ ((ready : Ready) × ¬ (Full ready))
  pub full_where : (a.answer ≡ Refused R.Full) ↔ ((ready : Ready) × Full ready)
  pub refused_where : (r : Refusal) → ¬ (r ≡ R.Full) → (a.answer ≡ Refused r) ↔ Early r
  pub numbers : (r : Refusal) → Early r → T (one_of ns r)
  pub never_8 : one_of ns R.Full ≡ false

-- ---- Convert

-- 2 for a bad width; then 4 for a bit above l.
abbrev pub ConvertEarly : ℕ → List ℕ → Refusal → Type 0
ConvertEarly l ws r =
    ((good_width l ≡ false) × (r ≡ R.Width)) ⊎ ((good_width l ≡ true) × (all_below l ws ≡ false) × (r ≡ R.Stray))

-- The width is good, and no word has a bit above l.
abbrev pub ConvertReady : ℕ → List ℕ → Type 0
ConvertReady l ws = (good_width l ≡ true) × (all_below l ws ≡ true)

-- Some string of the row needs entry 257.
abbrev pub ConvertNeeds : ℕ → List ℕ → Type 0
ConvertNeeds l ws = ConvertFull (map (set l) ws)

-- Every answer of the conversion of groups; the groups after it are those of the row. No table value comes in.
abbrev pub ConvertOutcome : ℕ → List ℕ → Type 0
ConvertOutcome l ws =
    Outcome zero_table (ConvertEarly l ws) (ConvertReady l ws) (λ r. ConvertNeeds l ws)
    (λ r. Becomes positive l (Listed l (map (set l) ws)))
    (convert_call l ws)

-- They exclude each other; the early refusals are 2 and 4.
abbrev pub ConvertExclusive : ℕ → List ℕ → Type 0
ConvertExclusive l ws =
    Exclusive (2 ∷ 4 ∷ []) (ConvertEarly l ws) (ConvertReady l ws) (λ r. ConvertNeeds l ws) (convert_call l ws)

-- ---- Equation

-- The table's own refusals; then the equation's.
abbrev pub EquationEarly : Table → ℕ → List ℕ → Refusal → Type 0
EquationEarly t x ts r =
    (check_table t ≡ Refused r) ⊎ (GoodTable t × (C.check_equation t.l x ts ≡ C.refuses r))

-- The table is good and the tokens are a term.
pub record EquationReady (t : Table) (x : ℕ) (ts : List ℕ) : Type 0 where
  pub table : GoodTable t
  pub term : Term
  pub reads : C.check_equation t.l x ts ≡ C.reads term

-- Some list of the equation with the term u needs entry 257.
abbrev pub EquationNeeds : Side → Table → ℕ → Term → Type 0
EquationNeeds side t x u = EquationFull side t.l (record { left = x; right = u }) (entries_of t)

-- Every answer of the equation call; the groups after it are those of the binary definition.
abbrev pub EquationOutcome : Side → Table → ℕ → List ℕ → Type 0
EquationOutcome side t x ts =
    Outcome t (EquationEarly t x ts) (EquationReady t x ts) (λ r. EquationNeeds side t x r.term)
    (λ r. Becomes side t.l (After (record { left = x; right = r.term }) (groups_of side t)))
    (equation_call side t x ts)

-- They exclude each other; the early refusals are 2, 3, 4, 7, 5 and 6.
abbrev pub EquationExclusive : Side → Table → ℕ → List ℕ → Type 0
EquationExclusive side t x ts =
    Exclusive (2 ∷ 3 ∷ 4 ∷ 7 ∷ 5 ∷ 6 ∷ []) (EquationEarly t x ts) (EquationReady t x ts) (λ r. EquationNeeds side t x r.term)
    (equation_call side t x ts)

-- ---- Two terms

-- The table's own refusals; then those of the two terms.
abbrev pub UnifyEarly : Table → List ℕ → List ℕ → Refusal → Type 0
UnifyEarly t ss ts r = (check_table t ≡ Refused r) ⊎ (GoodTable t × (C.check_sides t.l ss ts ≡ C.refuses r))

-- The table is good and the tokens are two terms.
pub record UnifyReady (t : Table) (ss ts : List ℕ) : Type 0 where
  pub table : GoodTable t
  pub sides : Sides
  pub reads : C.check_sides t.l ss ts ≡ C.reads sides

-- The walk of the two terms does not clash, and some list of one of the found equations needs entry 257.
abbrev pub UnifyNeeds : Side → Table → Sides → Type 0
UnifyNeeds side t s = WalkFull side t.l (walk_sides s) (entries_of t)

-- Every answer of the call on two terms; the groups after it are those of the found equations in order, none after a clash.
abbrev pub UnifyOutcome : Side → Table → List ℕ → List ℕ → Type 0
UnifyOutcome side t ss ts =
    Outcome t (UnifyEarly t ss ts) (UnifyReady t ss ts) (λ r. UnifyNeeds side t r.sides)
    (λ r. Becomes side t.l (AfterSides r.sides (groups_of side t)))
    (unify_call side t ss ts)

-- They exclude each other; the early refusals are 2, 3, 4, 7, 5 and 6.
abbrev pub UnifyExclusive : Side → Table → List ℕ → List ℕ → Type 0
UnifyExclusive side t ss ts =
    Exclusive (2 ∷ 3 ∷ 4 ∷ 7 ∷ 5 ∷ 6 ∷ []) (UnifyEarly t ss ts) (UnifyReady t ss ts) (λ r. UnifyNeeds side t r.sides)
    (unify_call side t ss ts)

-- ---- Join

-- The first table's own refusals; the second's; then 10 where the widths differ.
abbrev pub JoinEarly : Table → Table → Refusal → Type 0
JoinEarly t u r =
    (check_table t ≡ Refused r) ⊎ (GoodTable t × (check_table u ≡ Refused r))
    ⊎ (GoodTable t × GoodTable u × ¬ (t.l ≡ u.l) × (r ≡ R.Unlike))

-- Both tables are good, and of one width.
abbrev pub JoinReady : Table → Table → Type 0
JoinReady t u = GoodTable t × GoodTable u × (t.l ≡ u.l)

-- Some list of the join needs entry 257.
abbrev pub JoinNeeds : Side → Table → Table → Type 0
JoinNeeds side t u = JoinFull side (entries_of t) (entries_of u)

-- Every answer of the join call; the groups after it are the union.
abbrev pub JoinOutcome : Side → Table → Table → Type 0
JoinOutcome side t u =
    Outcome t (JoinEarly t u) (JoinReady t u) (λ r. JoinNeeds side t u)
    (λ r. Becomes side t.l (Joined (groups_of side t) (groups_of side u)))
    (join_call side t u)

-- They exclude each other; the early refusals are 2, 3, 4 and 10.
abbrev pub JoinExclusive : Side → Table → Table → Type 0
JoinExclusive side t u =
    Exclusive (2 ∷ 3 ∷ 4 ∷ 10 ∷ []) (JoinEarly t u) (JoinReady t u) (λ r. JoinNeeds side t u) (join_call side t u)

-- ---- Projection

-- The table's own refusals; then 11 for a set with no variable or one above l.
abbrev pub ProjectionEarly : Table → ℕ → Refusal → Type 0
ProjectionEarly t keep r =
    (check_table t ≡ Refused r) ⊎ (GoodTable t × (good_keep t.l keep ≡ false) × (r ≡ R.Keep))

-- The table is good, and so is the set.
abbrev pub ProjectionReady : Table → ℕ → Type 0
ProjectionReady t keep = GoodTable t × (good_keep t.l keep ≡ true)

-- Some list of the projection needs entry 257.
abbrev pub ProjectionNeeds : Side → Table → ℕ → Type 0
ProjectionNeeds side t keep = ProjectionFull side t.l (set t.l keep) (entries_of t)

-- Every answer of the projection call; the groups after it are the projected ones.
abbrev pub ProjectionOutcome : Side → Table → ℕ → Type 0
ProjectionOutcome side t keep =
    Outcome t (ProjectionEarly t keep) (ProjectionReady t keep) (λ r. ProjectionNeeds side t keep)
    (λ r. Becomes side (kept (set t.l keep)) (Projected (set t.l keep) (groups_of side t)))
    (projection_call side t keep)

-- They exclude each other; the early refusals are 2, 3, 4 and 11.
abbrev pub ProjectionExclusive : Side → Table → ℕ → Type 0
ProjectionExclusive side t keep =
    Exclusive (2 ∷ 3 ∷ 4 ∷ 11 ∷ []) (ProjectionEarly t keep) (ProjectionReady t keep) (λ r. ProjectionNeeds side t keep)
    (projection_call side t keep)

-- ---- Change of side

-- The table's own refusals.
abbrev pub ChangeEarly : Table → Refusal → Type 0
ChangeEarly t r = check_table t ≡ Refused r

-- Some list of the change of side needs entry 257.
abbrev pub ChangeNeeds : Table → Type 0
ChangeNeeds t = ChangeFull t.l (entries_of t)

-- Every answer of the change of side; the groups on the other side are the same.
abbrev pub ChangeOutcome : Side → Table → Type 0
ChangeOutcome side t =
    Outcome t (ChangeEarly t) (GoodTable t) (λ r. ChangeNeeds t) (λ r. Becomes (opposite side) t.l (groups_of side t))
    (change_side_call side t)

-- They exclude each other; the early refusals are 2, 3 and 4.
abbrev pub ChangeExclusive : Side → Table → Type 0
ChangeExclusive side t = Exclusive (2 ∷ 3 ∷ 4 ∷ []) (ChangeEarly t) (GoodTable t) (λ r. ChangeNeeds t) (change_side_call side t)
