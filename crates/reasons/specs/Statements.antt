-- What a verdict says of groups: each is given exactly in its condition, and the verdicts exclude each other.
use Rattle.std.specs.Prelude.{◌≡◌, false, List, [], ◌∷◌, ◌⊎◌, ◌↔◌, ℕ, T}
use Rattle.model.specs.Groups.{Bits, Groups}
use Rattle.model.specs.Growth.{Entries}
use Rattle.model.specs.Tables.{positive, groups}
use Rattle.model.specs.Equations.{Equation, itself, deeper, plain, kind, WithVariable, WithSome, After}
use Rattle.model.specs.Reasons.{Within, Relevant, MadeUp, Lowest}
use Rattle.words.specs.Words.{set}
use Rattle.tables.specs.declared.Table.{Table}
use Rattle.tables.specs.declared.Refusal.{Refusal}
use Rattle.tables.specs.declared.Refusal.TheVariants as R
use Rattle.tables.specs.Refusals as A
use Rattle.tables.specs.Refusals.{one_of}
use Rattle.tables.specs.Values.{entries_of}
use Rattle.operations.specs.Outcomes.{groups_of, EquationEarly, EquationReady}
use Rattle.reasons.specs.declared.Reason.TheVariants.{NoXEntry, NoTEntry, NotMadeUp, NotThere, NoSolution}
use Rattle.reasons.specs.Verdicts.{Verdict}
use Rattle.reasons.specs.Verdicts.{Kept, Joined, Absent, Refused}
use Rattle.reasons.specs.Verdicts.{verdict_number, check_group, reason_call}

-- ---- The conditions

-- The equation does not touch s: it is x = x, or t does not hold x and s has neither x nor a variable of t.
abbrev pub Untouched : Equation → Bits → Type 0
Untouched e s = (kind e ≡ itself) ⊎ ((kind e ≡ plain) × ¬ (Relevant e s))

-- It touches s: t does not hold x, and s has x or a variable of t.
abbrev pub Touched : Equation → Bits → Type 0
Touched e s = (kind e ≡ plain) × Relevant e s

-- Some group of S inside s has x.
abbrev pub XWithin : Equation → Groups → Bits → Type 0
XWithin e S s = Within S s (WithVariable e.left)

-- Some group of S inside s has a variable of t.
abbrev pub TWithin : Equation → Groups → Bits → Type 0
TWithin e S s = Within S s (WithSome e.right)

-- The condition of each verdict on s, of a positive table with the entries τ: kept, joined with the lowest entries, absent by
-- the first reason that holds. A refusal is none of them.
abbrev pub Where : ℕ → Equation → Entries → Bits → Verdict → Type 0
Where l e τ s Kept = Untouched e s × groups positive l τ s
Where l e τ s (Joined i j) =
    Touched e s × Lowest l τ s (WithVariable e.left) i × Lowest l τ s (WithSome e.right) j × MadeUp e (groups positive l τ) s
Where l e τ s (Absent NoXEntry) = Touched e s × ¬ (XWithin e (groups positive l τ) s)
Where l e τ s (Absent NoTEntry) = Touched e s × XWithin e (groups positive l τ) s × ¬ (TWithin e (groups positive l τ) s)
Where l e τ s (Absent NotMadeUp) =
    Touched e s × XWithin e (groups positive l τ) s × TWithin e (groups positive l τ) s × ¬ (MadeUp e (groups positive l τ) s)
Where l e τ s (Absent NotThere) = Untouched e s × ¬ (groups positive l τ s)
Where l e τ s (Absent NoSolution) = kind e ≡ deeper
Where l e τ s (Refused r) = ⊥

-- s is told to be there: kept or joined.
abbrev pub There : Verdict → Type 0
There Kept = Unit {0}
There (Joined i j) = Unit {0}
There (Absent r) = ⊥
There (Refused r) = ⊥

-- ---- The call on table values

-- How the call is answered: refused in a condition; or it is ready, each verdict is given exactly in its condition, and s is told
-- to be there exactly where it is.
pub data Judged (Early : Refusal → Type 0) (Ready : Type 0) (Condition : Ready → Verdict → Type 0) (In : Ready → Type 0)
    : Verdict → Type 0 where
  early : {r : Refusal} → Early r → Judged Early Ready Condition In (Refused r)
  judged : {v : Verdict} (p : Ready) → ((u : Verdict) → (v ≡ u) ↔ Condition p u) → There v ↔ In p → verdict_number v ≡ 0
      → Judged Early Ready Condition In v

-- The verdicts exclude each other: 0 exactly where the call is ready; then each verdict exactly in its condition, and kept or
-- joined exactly where s is there; each refusal exactly in its condition; a refusal has one of the numbers ns, which 8 is not.
pub record ExclusiveVerdicts (ns : List ℕ) (Early : Refusal → Type 0) (Ready : Type 0) (Condition : Ready → Verdict → Type 0)
    (In : Ready → Type 0) (v : Verdict) : Type 0 where
  pub zero_where : (verdict_number v ≡ 0) ↔ Ready
  pub each_where : (ready : Ready) (u : Verdict) → (v ≡ u) ↔ Condition ready u
  pub there_where : (ready : Ready) → There v ↔ In ready
  pub refused_where : (r : Refusal) → (v ≡ Refused r) ↔ Early r
  pub numbers : (r : Refusal) → Early r → T (one_of ns r)
  pub never_8 : one_of ns R.Full ≡ false

-- The refusals of the equation; then 4 for a bit of s above l, 11 for s = 0.
abbrev pub ReasonEarly : Table → ℕ → List ℕ → ℕ → Refusal → Type 0
ReasonEarly t x ts s r = EquationEarly t x ts r ⊎ (EquationReady t x ts × (check_group t.l s ≡ A.Refused r))

-- The equation was read, and s is a group of l variables.
abbrev pub ReasonReady : Table → ℕ → List ℕ → ℕ → Type 0
ReasonReady t x ts s = EquationReady t x ts × (check_group t.l s ≡ A.Accepted)

-- The condition of each verdict on the group of the word s, of a table value and an equation.
abbrev pub TableWhere : Table → Equation → ℕ → Verdict → Type 0
TableWhere t e s v = Where t.l e (entries_of t) (set t.l s) v

-- The group of the word s is in the groups after the equation, by the binary definition.
abbrev pub InAfter : Table → Equation → ℕ → Type 0
InAfter t e s = After e (groups_of positive t) (set t.l s)

-- How the call on values is answered.
abbrev pub ReasonJudged : Table → ℕ → List ℕ → ℕ → Type 0
ReasonJudged t x ts s =
    Judged (ReasonEarly t x ts s) (ReasonReady t x ts s) (λ p. TableWhere t (record { left = x; right = p.0.term }) s)
    (λ p. InAfter t (record { left = x; right = p.0.term }) s) (reason_call t x ts s)

-- The verdicts exclude each other; the refusals are 2, 3, 4, 7, 5, 6 and 11.
abbrev pub ReasonExclusive : Table → ℕ → List ℕ → ℕ → Type 0
ReasonExclusive t x ts s =
    ExclusiveVerdicts (2 ∷ 3 ∷ 4 ∷ 7 ∷ 5 ∷ 6 ∷ 11 ∷ []) (ReasonEarly t x ts s) (ReasonReady t x ts s)
    (λ p. TableWhere t (record { left = x; right = p.0.term }) s) (λ p. InAfter t (record { left = x; right = p.0.term }) s)
    (reason_call t x ts s)
