-- The answers of each call exclude each other (01, "Refusals": each is given in its condition and in no other). Assumes nothing.
use mathlib.Core.Path.{◌≡◌, refl, sym, ap, ◌∙◌, subst}
use mathlib.Core.Bool.{Bool, true, false}
use mathlib.Core.List.{List, [], ◌∷◌}
use mathlib.Core.Logic.{◌⊎◌, inl, inr, ⊎_elim}
use Prim.Native.Nat.{ℕ}
use native.Mathlib.Omega.{arith}
use lib.Dec.{T}
use Rattle.model.specs.Terms.{Term}
use Rattle.model.specs.Tables.{Side}
use Rattle.model.specs.Walk.{Sides}
use Rattle.tables.specs.declared.Table.{Table}
use Rattle.tables.specs.declared.Refusal.{Refusal}
use Rattle.tables.specs.declared.Refusal.TheVariants as R
use Rattle.tables.specs.Refusals.{Refused}
use Rattle.tables.specs.declared.Answered.{Answered}
use Rattle.tables.specs.Refusals.{member, one_of}
use Rattle.tables.specs.Values.{good_width, check_table, GoodTable}
use Rattle.tables.proofs.Checking.{good_passes}
use Rattle.tables.proofs.Numbers.{within, one_of_more, check_numbers}
use Rattle.conversion.specs.Conversion.{all_below}
use Rattle.terms.specs.Checks as C
use Rattle.terms.proofs.Checking.{equation_numbers, sides_numbers}
use Rattle.operations.specs.Operations.{good_keep}
use Rattle.operations.specs.Outcomes.{TableValue, Outcome, early, full, accepted, Exclusive, ConvertEarly}
use Rattle.operations.specs.Outcomes.{ConvertReady, ConvertExclusive}
use Rattle.operations.specs.Outcomes.{EquationNeeds, EquationExclusive, UnifyNeeds, UnifyExclusive, JoinEarly}
use Rattle.operations.specs.Outcomes.{JoinReady, JoinExclusive, ProjectionExclusive, ChangeExclusive}
use Rattle.operations.proofs.Demand2.{convert_outcome, equation_outcome, unify_outcome, join_outcome}
use Rattle.operations.proofs.Demand2.{projection_outcome, change_outcome}

-- ---- Conditions that exclude each other

-- No early refusal where the call is ready, no two at once, and each has one of the numbers ns.
pub record Conditions (ns : List ℕ) (Early : Refusal → Type 0) (Ready : Type 0) : Type 0 where
  pub apart : (r : Refusal) → Early r → ¬ Ready
  pub one : (r s : Refusal) → Early r → Early s → r ≡ s
  pub numbers : (r : Refusal) → Early r → T (one_of ns r)

module _ {ns : List ℕ} where
  -- one refusal x, in a condition N in which the call does not go on
  pub single : {N P : Type 0} (x : Refusal) → (N → ¬ P) → T (one_of ns x) → Conditions ns (λ r. N × (r ≡ x)) P
  single x f h = record {
    apart = λ r e. f e.0;
    one = λ r s e d. e.1 ∙ sym d.1;
    numbers = λ r e. subst (λ (i : Refusal). T (one_of ns i)) (sym e.1) h;
  }

  -- one test, and the refusal where it fails
  pub test : (b : Bool) (x : Refusal) → T (one_of ns x) → Conditions ns (λ r. (b ≡ false) × (r ≡ x)) (b ≡ true)
  test b x = single x (λ e d. absurd (let z : ◌≡◌ {A = ℕ} 0 1 = cc in omega arith))

  module _ {E F : Refusal → Type 0} {P Q : Type 0} where
    -- one check after another
    pub and_then : Conditions ns E P → Conditions ns F Q → Conditions ns (λ r. E r ⊎ (P × F r)) (P × Q)
    and_then c d = record {
      apart = λ r e h. ⊎_elim (λ k. c.apart r k h.0) (λ k. d.apart r k.1 h.1) e;
      one = one;
      numbers = λ r e. ⊎_elim (c.numbers r) (λ k. d.numbers r k.1) e;
    }
      where
        one : (r s : Refusal) → E r ⊎ (P × F r) → E s ⊎ (P × F s) → r ≡ s
        one r s (inl e) (inl h) = c.one r s e h
        one r s (inl e) (inr h) = absurd (c.apart r e h.0)
        one r s (inr e) (inl h) = absurd (c.apart s h e.0)
        one r s (inr e) (inr h) = d.one r s e.1 h.1

    -- the same conditions, said otherwise
    pub as_said : Conditions ns E P → ((r : Refusal) → F r → E r) → (Q → P) → Conditions ns F Q
    as_said c f g = record {
      apart = λ r e h. c.apart r (f r e) (g h);
      one = λ r s e h. c.one r s (f r e) (f s h);
      numbers = λ r e. c.numbers r (f r e);
    }

  -- the check of a table value
  pub table_conditions : (t : Table) → T (within (2 ∷ 3 ∷ 4 ∷ []) ns)
      → Conditions ns (λ r. check_table t ≡ Refused r) (GoodTable t)
  table_conditions t w = record {
    apart = λ r e g. let p = good_passes t g in absurd (let z : ◌≡◌ {A = ℕ} 0 1 = cc in omega arith);
    one = λ r s e d. cc;
    numbers = λ r e. one_of_more (2 ∷ 3 ∷ 4 ∷ []) ns r w (check_numbers t r e);
  }

  -- checks that read something, and refuse by 7, 5 or 6
  checks_conditions : {A : Type 0} (o : C.Outcome A) → T (within (7 ∷ 5 ∷ 6 ∷ []) ns)
      → ((r : Refusal) → o ≡ C.refuses r → T (one_of (7 ∷ 5 ∷ 6 ∷ []) r))
      → Conditions ns (λ r. o ≡ C.refuses r) ((a : A) × (o ≡ C.reads a))
  checks_conditions o w numbered = record {
    apart = λ r e g. let p = g.1 in absurd (let z : ◌≡◌ {A = ℕ} 0 1 = cc in omega arith);
    one = λ r s e d. cc;
    numbers = λ r e. one_of_more (7 ∷ 5 ∷ 6 ∷ []) ns r w (numbered r e);
  }

  -- those of an equation
  pub term_conditions : (l x : ℕ) (ts : List ℕ) → T (within (7 ∷ 5 ∷ 6 ∷ []) ns)
      → Conditions ns (λ r. C.check_equation l x ts ≡ C.refuses r) ((u : Term) × (C.check_equation l x ts ≡ C.reads u))
  term_conditions l x ts w = checks_conditions (C.check_equation l x ts) w (equation_numbers l x ts)

  -- those of two terms
  pub sides_conditions : (l : ℕ) (ss ts : List ℕ) → T (within (7 ∷ 5 ∷ 6 ∷ []) ns)
      → Conditions ns (λ r. C.check_sides l ss ts ≡ C.refuses r) ((s : Sides) × (C.check_sides l ss ts ≡ C.reads s))
  sides_conditions l ss ts w = checks_conditions (C.check_sides l ss ts) w (sides_numbers l ss ts)

-- ---- The law

module _ {t : Table} {Early : Refusal → Type 0} {Ready : Type 0} {Full : Ready → Type 0} {Result : Ready → Table → Type 0}
    (ns : List ℕ) where
  -- The answers of a call exclude each other where its conditions do and 8 is not an early number.
  pub exclusive : Conditions ns Early Ready → one_of ns R.Full ≡ false → ((p q : Ready) → Full p → Full q)
      → {a : Answered} → Outcome t Early Ready Full Result a → Exclusive ns Early Ready Full a
  exclusive c late same (early {r} e) = record {
    accepted_where = (
      λ h. absurd (let z : ◌≡◌ {A = ℕ} 0 1 = cc in omega arith),
      λ h. absurd (c.apart r e h.0),
    );
    full_where = (
      λ h.
          let is : r ≡ R.Full = cc in
          absurd (subst (λ (b : Bool). T b) late (subst (λ (i : Refusal). T (one_of ns i)) is (c.numbers r e))),
      λ h. absurd (c.apart r e h.0),
    );
    refused_where = λ s n. (
      λ h. subst (λ (i : Refusal). Early i) (let is : r ≡ s = cc in is) e,
      λ h. ap Refused (c.one r s e h),
    );
    numbers = c.numbers;
    never_8 = late;
  }
  exclusive c late same (full ready f) = record {
    accepted_where = (
      λ h. absurd (let z : ◌≡◌ {A = ℕ} 0 1 = cc in omega arith),
      λ h. absurd (h.1 (same ready h.0 f)),
    );
    full_where = (λ h. (ready, f), λ h. refl);
    refused_where = λ s n. (λ h. absurd (n (let is : s ≡ R.Full = cc in is)), λ h. absurd (c.apart s h ready));
    numbers = c.numbers;
    never_8 = late;
  }
  exclusive c late same (accepted ready f k) = record {
    accepted_where = (λ h. (ready, f), λ h. refl);
    full_where = (
      λ h. absurd (let z : ◌≡◌ {A = ℕ} 0 1 = cc in omega arith),
      λ h. absurd (f (same h.0 ready h.1)),
    );
    refused_where = λ s n. (
      λ h. absurd (let z : ◌≡◌ {A = ℕ} 0 1 = cc in omega arith),
      λ h. absurd (c.apart s h ready),
    );
    numbers = c.numbers;
    never_8 = late;
  }

-- ---- The calls

-- The conditions of a call with a table value and one test of its own.
pub tested : {ns : List ℕ} (t : Table) (b : Bool) (x : Refusal) → T (within (2 ∷ 3 ∷ 4 ∷ []) ns) → T (one_of ns x)
    → Conditions ns (λ r. (check_table t ≡ Refused r) ⊎ (GoodTable t × (b ≡ false) × (r ≡ x))) (GoodTable t × (b ≡ true))
tested t b x w h =
    as_said (and_then (table_conditions t w) (test b x h)) (λ r. ⊎_elim inl (λ e. inr (e.0, (e.1, e.2)))) (λ e. e)

-- The conditions of a call with two tables of one width.
pub paired : {ns : List ℕ} (t u : Table) → T (within (2 ∷ 3 ∷ 4 ∷ []) ns) → T (one_of ns R.Unlike)
    → Conditions ns (JoinEarly t u) (JoinReady t u)
paired t u w h =
    as_said
    (and_then (table_conditions t w)
    (and_then (table_conditions u w) (single {N = ¬ (t.l ≡ u.l)} {P = t.l ≡ u.l} R.Unlike (λ n e. n e) h)))
    (λ r. ⊎_elim inl (⊎_elim (λ e. inr (e.0, inl e.1)) (λ e. inr (e.0, inr (e.1, (e.2, e.3))))))
    (λ e. (e.0, (e.1, e.2)))

-- The conditions of the conversion.
pub convert_conditions : {ns : List ℕ} (l : ℕ) (ws : List ℕ) → T (one_of ns R.Width) → T (one_of ns R.Stray)
    → Conditions ns (ConvertEarly l ws) (ConvertReady l ws)
convert_conditions l ws w h =
    as_said (and_then (test (good_width l) R.Width w) (test (all_below l ws) R.Stray h))
    (λ r. ⊎_elim inl (λ e. inr (e.0, (e.1, e.2)))) (λ e. e)

-- The answers of the conversion exclude each other.
pub convert_exclusive : (l : ℕ) (ws : List ℕ) → ConvertExclusive l ws
unfolding one_of member
convert_exclusive l ws =
    exclusive (2 ∷ 4 ∷ []) (convert_conditions l ws tt tt) refl (λ p q f. f) (convert_outcome l ws)

-- The answers of the equation exclude each other.
pub equation_exclusive : (side : Side) (t : Table) (x : ℕ) (ts : List ℕ) → TableValue t → EquationExclusive side t x ts
unfolding one_of member within
equation_exclusive side t x ts value =
    exclusive (2 ∷ 3 ∷ 4 ∷ 7 ∷ 5 ∷ 6 ∷ [])
    (as_said (and_then (table_conditions t tt) (term_conditions t.l x ts tt)) (λ r e. e)
    (λ e. (e.table, (e.term, e.reads))))
    refl
    (λ p q f. subst (λ (u : Term). EquationNeeds side t x u) (let is : p.term ≡ q.term = cc in is) f)
    (equation_outcome side t x ts value)

-- The answers of the call on two terms exclude each other.
pub unify_exclusive : (side : Side) (t : Table) (ss ts : List ℕ) → TableValue t → UnifyExclusive side t ss ts
unfolding one_of member within
unify_exclusive side t ss ts value =
    exclusive (2 ∷ 3 ∷ 4 ∷ 7 ∷ 5 ∷ 6 ∷ [])
    (as_said (and_then (table_conditions t tt) (sides_conditions t.l ss ts tt)) (λ r e. e)
    (λ e. (e.table, (e.sides, e.reads))))
    refl
    (λ p q f. subst (λ (s : Sides). UnifyNeeds side t s) (let is : p.sides ≡ q.sides = cc in is) f)
    (unify_outcome side t ss ts value)

-- The answers of the join exclude each other.
pub join_exclusive : (side : Side) (t u : Table) → TableValue t → TableValue u → JoinExclusive side t u
unfolding one_of member within
join_exclusive side t u vt vu =
    exclusive (2 ∷ 3 ∷ 4 ∷ 10 ∷ []) (paired t u tt tt) refl (λ p q f. f) (join_outcome side t u vt vu)

-- The answers of the projection exclude each other.
pub projection_exclusive : (side : Side) (t : Table) (keep : ℕ) → TableValue t → ProjectionExclusive side t keep
unfolding one_of member within
projection_exclusive side t keep value =
    exclusive (2 ∷ 3 ∷ 4 ∷ 11 ∷ []) (tested t (good_keep t.l keep) R.Keep tt tt) refl (λ p q f. f)
    (projection_outcome side t keep value)

-- The answers of the change of side exclude each other.
pub change_exclusive : (side : Side) (t : Table) → TableValue t → ChangeExclusive side t
unfolding one_of member within
change_exclusive side t value =
    exclusive (2 ∷ 3 ∷ 4 ∷ []) (table_conditions t tt) refl (λ p q f. f) (change_outcome side t value)
