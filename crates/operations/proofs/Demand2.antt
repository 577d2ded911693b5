-- Demand 2 of the calls themselves, both sides. Assumes nothing.
use mathlib.Core.Path.{◌≡◌, refl, sym, ◌∙◌, subst}
use mathlib.Core.Bool.{Bool, true, false, cond}
use mathlib.Core.List.{List, [], ◌∷◌, map}
use mathlib.Core.Logic.{inl, inr, ◌↔◌}
use mathlib.Core.Option.{Option, some, none}
use Prim.Native.Nat.{ℕ, ◌^◌, ◌≤◌, ◌<◌}
use native.Mathlib.Omega.{arith}
use borrow.Author.Tests.{ltb-true, eqb-true, eqb-false, lt-ltb, le-leb, ne_eqb}
use lib.Dec.{T, ltb, eqb}
use lib.ListN.{length}
use Rattle.model.specs.Groups.{Bits, Groups, nonzero, cut, Joined}
use Rattle.model.specs.Growth.{Entries, convert}
use Rattle.model.specs.Terms.{Term}
use Rattle.model.specs.Tables.{Side, positive, opposite, Good, groups, kept, change_side, join, projection}
use Rattle.model.specs.Questions.{Equal}
use Rattle.model.specs.Equations.{Equation}
use Rattle.model.specs.Walk.{walk_sides}
use Rattle.model.specs.Unification.{unification}
use Rattle.model.proofs.Fullness as F
use Rattle.model.proofs.Demand2 as D
use Rattle.model.proofs.Unification.{walk_exact, walk_good}
use Rattle.words.specs.Words.{set}
use Rattle.words.proofs.Codec.{set_length, sets_long, set_word_set, nonzero_word}
use Rattle.tables.specs.declared.Table.{Table}
use Rattle.tables.specs.declared.Refusal.{Refusal}
use Rattle.tables.specs.declared.Refusal.TheVariants as R
use Rattle.tables.specs.Refusals.{Answer}
use Rattle.tables.specs.Refusals.{Accepted, Refused}
use Rattle.tables.specs.declared.Answered.{Answered}
use Rattle.tables.specs.Refusals.{if_accepted}
use Rattle.tables.specs.Values.{most_variables, table_of, entries_of, refuses, made_or_full, good_width, check_table, GoodTable}
use Rattle.tables.proofs.Values.{entries_of_table, table_of_good}
use Rattle.tables.proofs.Checking.{width_most, passes_good}
use Rattle.tables.proofs.Tests.{both_true}
use Rattle.conversion.specs.Conversion.{all_below}
use Rattle.terms.specs.Checks as C
use Rattle.operations.specs.Operations.{good_keep, projected, convert_call, equation_call, unify_call, join_call}
use Rattle.operations.specs.Operations.{projection_call, change_side_call}
use Rattle.operations.specs.Outcomes.{TableValue, groups_of, Becomes, Outcome, early, full, accepted, ConvertOutcome}
use Rattle.operations.specs.Outcomes.{EquationOutcome, UnifyOutcome, JoinOutcome, ProjectionOutcome, ChangeOutcome}

-- the table of a good list stands for the list's groups
becomes : (side : Side) (l : ℕ) (S : Groups) (ρ : Entries) → good_width l ≡ true → Good l ρ → Equal (groups side l ρ) S
    → Becomes side l S (table_of l ρ)
unfolding table_of
becomes side l S ρ w g e = record {
  good = table_of_good l ρ w g;
  width = refl;
  exact = subst (λ (τ : Entries). Equal (groups side l τ) S) (sym (entries_of_table l ρ g)) e;
}

-- where the call is ready, the list or the lack of one decides
module _ {t : Table} {Early : Refusal → Type 0} {Ready : Type 0} {Full : Ready → Type 0} {Result : Ready → Table → Type 0}
    (ready : Ready) (l : ℕ) where
  grown : (o : Option Entries) → (o ≡ none) ↔ Full ready → ((ρ : Entries) → o ≡ some ρ → Result ready (table_of l ρ))
      → Outcome t Early Ready Full Result (made_or_full l t o)
  unfolding made_or_full
  grown none f made = full ready (f.0 refl)
  grown (some ρ) f made =
      accepted ready (λ h. let e = f.1 h in absurd (let z : ◌≡◌ {A = ℕ} 0 1 = cc in omega arith)) (made ρ refl)

-- a call goes on only with a good table
module _ {t : Table} {Early : Refusal → Type 0} {Ready : Type 0} {Full : Ready → Type 0} {Result : Ready → Table → Type 0}
    (u : Table) (value : TableValue u) (a : Answered) where
  checked_first : ((r : Refusal) → check_table u ≡ Refused r → Early r)
      → (GoodTable u → Outcome t Early Ready Full Result a)
      → Outcome t Early Ready Full Result (if_accepted (check_table u) (λ r. refuses r t) a)
  unfolding if_accepted
  checked_first f g = go (check_table u) refl
    where
      go : (c : Answer) → check_table u ≡ c → Outcome t Early Ready Full Result (if_accepted c (λ r. refuses r t) a)
      go Accepted e = g (passes_good u value.cares value.values e)
      go (Refused r) e = early (f r e)

-- a call goes on only where a test holds
module _ {t : Table} {Early : Refusal → Type 0} {Ready : Type 0} {Full : Ready → Type 0} {Result : Ready → Table → Type 0}
    (r : Refusal) where
  tested_first : (b : Bool) (a : Answered) → (b ≡ false → Early r) → (b ≡ true → Outcome t Early Ready Full Result a)
      → Outcome t Early Ready Full Result (cond b a (refuses r t))
  tested_first true a f g = g refl
  tested_first false a f g = early (f refl)

-- a call goes on only with what was read
module _ {t : Table} {Early : Refusal → Type 0} {Ready : Type 0} {Full : Ready → Type 0} {Result : Ready → Table → Type 0}
    {A : Type 0} where
  read_first : (o : C.Outcome A) (next : A → Answered) → ((r : Refusal) → o ≡ C.refuses r → Early r)
      → ((a : A) → o ≡ C.reads a → Outcome t Early Ready Full Result (next a))
      → Outcome t Early Ready Full Result (C.if_read o (λ r. refuses r t) next)
  unfolding C.if_read
  read_first (C.reads a) next f g = g a refl
  read_first (C.refuses r) next f g = early (f r refl)

-- The result of an accepted call, from how it can answer.
module _ {t : Table} {Early : Refusal → Type 0} {Ready : Type 0} {Full : Ready → Type 0} {Result : Ready → Table → Type 0} where
  pub result : {a : Answered} → Outcome t Early Ready Full Result a → a.answer ≡ Accepted
      → (ready : Ready) × Result ready a.table
  result (early h) e = absurd (let z : ◌≡◌ {A = ℕ} 0 1 = cc in omega arith)
  result (full ready f) e = absurd (let z : ◌≡◌ {A = ℕ} 0 1 = cc in omega arith)
  result (accepted ready n h) e = (ready, h)

-- ---- Convert

-- Converted groups are exactly those of the row; 2, then 4, then 8 where some string of it needs entry 257.
pub convert_outcome : (l : ℕ) (ws : List ℕ) → ConvertOutcome l ws
unfolding convert_call
convert_outcome l ws =
    tested_first R.Width (good_width l) _ (λ n. inl (n, refl)) (λ w.
    tested_first R.Stray (all_below l ws) _ (λ n. inr (w, n, refl)) (λ h.
    grown (w, h) l (convert (map (set l) ws)) (F.convert_full (map (set l) ws))
    (λ ρ m.
    becomes positive l _ ρ w (D.convert_good l (map (set l) ws) ρ (sets_long l ws) m).0
    (D.convert_exact l (map (set l) ws) ρ (sets_long l ws) m))))

-- ---- Equation

pub equation_outcome : (side : Side) (t : Table) (x : ℕ) (ts : List ℕ) → TableValue t → EquationOutcome side t x ts
unfolding equation_call
equation_outcome side t x ts value =
    let eq : Term → Equation = λ u. record { left = x; right = u } in
    checked_first t value _ (λ r e. inl e) (λ good.
    read_first (C.check_equation t.l x ts) _ (λ r e. inr (good, e)) (λ u e.
    grown (record { table = good; term = u; reads = e }) t.l _ (F.equation_full side t.l (eq u) (entries_of t))
    (λ ρ m.
    becomes side t.l _ ρ good.width (D.equation_good side t.l (eq u) (entries_of t) ρ good.list m)
    (D.equation_exact side t.l (eq u) (entries_of t) ρ good.list m))))

-- ---- Two terms

pub unify_outcome : (side : Side) (t : Table) (ss ts : List ℕ) → TableValue t → UnifyOutcome side t ss ts
unfolding unify_call unification
unify_outcome side t ss ts value =
    checked_first t value _ (λ r e. inl e) (λ good.
    read_first (C.check_sides t.l ss ts) _ (λ r e. inr (good, e)) (λ s e.
    grown (record { table = good; sides = s; reads = e }) t.l _ (F.walk_full side t.l (walk_sides s) (entries_of t))
    (λ ρ m.
    becomes side t.l _ ρ good.width (walk_good side t.l (walk_sides s) (entries_of t) ρ good.list m)
    (walk_exact side t.l (walk_sides s) (entries_of t) ρ good.list m))))

-- ---- Join

pub join_outcome : (side : Side) (t u : Table) → TableValue t → TableValue u → JoinOutcome side t u
unfolding join_call
join_outcome side t u vt vu =
    checked_first t vt _ (λ r e. inl e) (λ good_t.
    checked_first u vu _ (λ r e. inr (inl (good_t, e))) (λ good_u.
    tested_first R.Unlike (eqb t.l u.l) _ (λ n. inr (inr (good_t, good_u, eqb-false t.l u.l n, refl))) (λ e.
    let w = eqb-true t.l u.l e in
    let list : Good t.l (entries_of u) = subst (λ (l : ℕ). Good l (entries_of u)) (sym w) good_u.list in
    grown (good_t, good_u, w) t.l (join side (entries_of t) (entries_of u))
    (F.join_full side (entries_of t) (entries_of u))
    (λ ρ m.
    becomes side t.l _ ρ good_t.width
    (D.join_good side t.l (entries_of t) (entries_of u) ρ good_t.list list m)
    (subst (λ (l : ℕ). Equal (groups side t.l ρ) (Joined (groups_of side t) (groups side l (entries_of u)))) w
    (D.join_exact side t.l (entries_of t) (entries_of u) ρ good_t.list list m))))))

-- ---- Projection

kept_most : (k : Bits) → kept k ≤ length k
unfolding kept cut
kept_most [] = omega arith
kept_most (true ∷ k) = omega (arith, kept_most k)
kept_most (false ∷ k) = omega (arith, kept_most k)

kept_some : (k : Bits) → T (nonzero k) → 0 < kept k
unfolding kept cut nonzero
kept_some [] h = absurd h
kept_some (true ∷ k) h = omega arith
kept_some (false ∷ k) h = kept_some k h

-- A good set keeps 1 to 32 positions of a good width.
pub kept_width : (l keep : ℕ) → good_width l ≡ true → good_keep l keep ≡ true → good_width (kept (set l keep)) ≡ true
unfolding good_width good_keep
kept_width l keep w h =
    let k = set l keep in
    let b = both_true (ltb 0 keep) (ltb keep (2 ^ l)) h in
    let back = set_word_set l keep (ltb-true keep (2 ^ l) b.1) in
    let more = ltb-true 0 keep b.0 in
    let nonempty : nonzero k ≡ true = nonzero_word k ∙ rw (back, ne_eqb keep 0 (λ z. omega arith)) in
    let most = kept_most k in
    let few = width_most l w in
    let long = set_length l keep in
    rw (lt-ltb 0 (kept k) (kept_some k (rw nonempty tt)), le-leb (kept k) most_variables (omega arith))

pub projection_outcome : (side : Side) (t : Table) (keep : ℕ) → TableValue t → ProjectionOutcome side t keep
unfolding projection_call projected
projection_outcome side t keep value =
    let k = set t.l keep in
    let long = set_length t.l keep in
    checked_first t value _ (λ r e. inl e) (λ good.
    tested_first R.Keep (good_keep t.l keep) _ (λ n. inr (good, n, refl)) (λ e.
    grown (good, e) (kept k) (projection side t.l k (entries_of t)) (F.projection_full side t.l k (entries_of t))
    (λ ρ m.
    becomes side (kept k) _ ρ (kept_width t.l keep good.width e)
    (D.projection_good side t.l k (entries_of t) ρ long good.list m)
    (D.projection_exact side t.l k (entries_of t) ρ long good.list m))))

-- ---- Change of side

pub change_outcome : (side : Side) (t : Table) → TableValue t → ChangeOutcome side t
unfolding change_side_call
change_outcome side t value =
    checked_first t value _ (λ r e. e) (λ good.
    grown good t.l (change_side t.l (entries_of t)) (F.change_full t.l (entries_of t))
    (λ ρ e. becomes (opposite side) t.l (groups_of side t) ρ good.width (D.change_good side t.l (entries_of t) ρ e)
    (D.change_exact side t.l (entries_of t) ρ e)))
