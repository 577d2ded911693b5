-- Entries past the count are zero in every accepted result (01, "Refusals"). Assumes nothing.
use mathlib.Core.List.{List}
use Prim.Native.Nat.{ℕ}
use Rattle.model.specs.Tables.{Side}
use Rattle.tables.specs.declared.Table.{Table}
use Rattle.tables.specs.declared.Refusal.{Refusal}
use Rattle.tables.specs.declared.Answered.{Answered}
use Rattle.tables.specs.Values.{GoodTable}
use Rattle.tables.proofs.Checking.{good_past}
use Rattle.operations.specs.Operations.{convert_call, equation_call, unify_call, join_call, projection_call}
use Rattle.operations.specs.Operations.{change_side_call}
use Rattle.operations.specs.Outcomes.{TableValue, Outcome, ZeroPast}
use Rattle.operations.proofs.Demand2.{result, convert_outcome, equation_outcome, unify_outcome, join_outcome}
use Rattle.operations.proofs.Demand2.{projection_outcome, change_outcome}

-- a call whose results are good tables
module _ {t : Table} {Early : Refusal → Type 0} {Ready : Type 0} {Full : Ready → Type 0} {Result : Ready → Table → Type 0}
    (good : (ready : Ready) (u : Table) → Result ready u → GoodTable u) where
  good_zero : {a : Answered} → Outcome t Early Ready Full Result a → ZeroPast a
  good_zero outcome h = let m = result outcome h in good_past (good m.0 _ m.1)

-- The table that a conversion of groups makes is zero past its count.
pub convert_past : (l : ℕ) (ws : List ℕ) → ZeroPast (convert_call l ws)
convert_past l ws = good_zero (λ r u b. b.good) (convert_outcome l ws)

-- The table that an equation makes is zero past its count.
pub equation_past : (side : Side) (t : Table) (x : ℕ) (ts : List ℕ) → TableValue t → ZeroPast (equation_call side t x ts)
equation_past side t x ts value = good_zero (λ r u b. b.good) (equation_outcome side t x ts value)

-- The table that a call on two terms makes is zero past its count.
pub unify_past : (side : Side) (t : Table) (ss ts : List ℕ) → TableValue t → ZeroPast (unify_call side t ss ts)
unify_past side t ss ts value = good_zero (λ r u b. b.good) (unify_outcome side t ss ts value)

-- The table that a join makes is zero past its count.
pub join_past : (side : Side) (t u : Table) → TableValue t → TableValue u → ZeroPast (join_call side t u)
join_past side t u vt vu = good_zero (λ r u b. b.good) (join_outcome side t u vt vu)

-- The table that a projection makes is zero past its count.
pub projection_past : (side : Side) (t : Table) (keep : ℕ) → TableValue t → ZeroPast (projection_call side t keep)
projection_past side t keep value = good_zero (λ r u b. b.good) (projection_outcome side t keep value)

-- The table that a change of side makes is zero past its count.
pub change_past : (side : Side) (t : Table) → TableValue t → ZeroPast (change_side_call side t)
change_past side t value = good_zero (λ r u b. b.good) (change_outcome side t value)
