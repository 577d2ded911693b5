-- The verdicts of the call exclude each other, and none is 8 (02, request 7). Assumes nothing.
use mathlib.Core.Path.{◌≡◌, refl, sym, ap, ◌∙◌, subst}
use mathlib.Core.Bool.{false}
use mathlib.Core.List.{List, [], ◌∷◌}
use mathlib.Core.Logic.{inl, inr}
use Prim.Native.Nat.{ℕ, ◌^◌}
use native.Mathlib.Omega.{arith}
use borrow.Author.Tests.{ne_eqb}
use lib.Dec.{T, ltb}
use Rattle.model.specs.Groups.{Group}
use Rattle.model.specs.Terms.{Term}
use Rattle.model.specs.Equations.{Equation}
use Rattle.words.specs.Words.{set, set_word}
use Rattle.words.proofs.Codec.{set_length, set_word_set, nonzero_word}
use Rattle.tables.specs.declared.Table.{Table}
use Rattle.tables.specs.declared.Refusal.{Refusal}
use Rattle.tables.specs.declared.Refusal.TheVariants as R
use Rattle.tables.specs.Refusals.{Answer}
use Rattle.tables.specs.Refusals as A
use Rattle.tables.specs.Refusals.{if_accepted, member, one_of, Numbered}
use Rattle.tables.specs.Values.{entries_of, check_table, GoodTable}
use Rattle.tables.proofs.Checking.{passes_good}
use Rattle.tables.proofs.Numbers.{within, one_of_more, refusal_some, refused_numbered, accepted_numbered, test_numbered}
use Rattle.terms.specs.Checks as C
use Rattle.operations.specs.Outcomes.{TableValue, EquationReady}
use Rattle.operations.proofs.Exclusive.{Conditions, and_then, as_said, table_conditions, term_conditions}
use Rattle.reasons.specs.Verdicts.{Verdict}
use Rattle.reasons.specs.Verdicts.{Refused}
use Rattle.reasons.specs.Verdicts.{verdict_number, check_group, group_call, reason_call, verdict}
use Rattle.reasons.specs.Statements.{Judged, early, judged, ExclusiveVerdicts, ReasonEarly, ReasonReady}
use Rattle.reasons.specs.Statements.{TableWhere, InAfter, ReasonJudged, ReasonExclusive}
use Rattle.reasons.proofs.Verdicts.{group_below}
use Rattle.reasons.proofs.Exact.{verdict_accepted, verdict_exact, there_exact}

-- ---- The checks of a group

pub group_numbers : (l s : ℕ) → Numbered (4 ∷ 11 ∷ []) (check_group l s)
unfolding check_group one_of member
group_numbers l s =
    let ns : List ℕ = 4 ∷ 11 ∷ [] in
    test_numbered ns (ltb s (2 ^ l)) _ _
    (test_numbered ns (ltb 0 s) _ _ (accepted_numbered ns) (refused_numbered ns R.Keep tt)) (refused_numbered ns R.Stray tt)

pub group_conditions : {ns : List ℕ} (l s : ℕ) → T (within (4 ∷ 11 ∷ []) ns)
    → Conditions ns (λ r. check_group l s ≡ A.Refused r) (check_group l s ≡ A.Accepted)
group_conditions {ns} l s w = record {
  apart = λ r e h. absurd (let z : ◌≡◌ {A = ℕ} 0 1 = cc in omega arith);
  one = λ r q e h. cc;
  numbers = λ r e. one_of_more (4 ∷ 11 ∷ []) ns r w (group_numbers l s r e);
}

-- a word that passes is a group of l variables
checked_group : (l s : ℕ) → check_group l s ≡ A.Accepted → Group l (set l s)
checked_group l s e =
    let b = group_below l s e in
    let n : set_word (set l s) ≡ s = set_word_set l s b.0 in
    (set_length l s, rw (nonzero_word (set l s), n, ne_eqb s 0 (λ z. omega (arith, b.1, z))) tt)

-- ---- The law

module _ {Early : Refusal → Type 0} {Ready : Type 0} {Condition : Ready → Verdict → Type 0} {In : Ready → Type 0}
    (ns : List ℕ) (c : Conditions ns Early Ready) (late : one_of ns R.Full ≡ false)
    (same : (p q : Ready) (u : Verdict) → Condition p u → Condition q u) (same_in : (p q : Ready) → In p → In q) where
  -- The verdicts of a call exclude each other where its conditions do and 8 is not one of its numbers.
  pub exclusive_verdicts : {v : Verdict} → Judged Early Ready Condition In v → ExclusiveVerdicts ns Early Ready Condition In v
  exclusive_verdicts (early {r} e) = record {
    zero_where = (λ h. refusal_some r h, λ p. absurd (c.apart r e p));
    each_where = λ p. absurd (c.apart r e p);
    there_where = λ p. absurd (c.apart r e p);
    refused_where = λ q. (
      λ h. subst (λ (i : Refusal). Early i) (let is : r ≡ q = cc in is) e,
      λ h. ap Refused (c.one r q e h),
    );
    numbers = c.numbers;
    never_8 = late;
  }
  exclusive_verdicts (judged {v} p f g z) = record {
    zero_where = (λ h. p, λ h. z);
    each_where = λ q u. (λ h. same p q u ((f u).0 h), λ k. (f u).1 (same q p u k));
    there_where = λ q. (λ h. same_in p q (g.0 h), λ k. g.1 (same_in q p k));
    refused_where = λ r. (
      λ h. refusal_some r (sym (ap verdict_number h) ∙ z),
      λ h. absurd (c.apart r h p),
    );
    numbers = c.numbers;
    never_8 = late;
  }

-- ---- The call on table values

-- How the call is answered.
pub reason_judged : (t : Table) (x : ℕ) (ts : List ℕ) (s : ℕ) → TableValue t → ReasonJudged t x ts s
unfolding reason_call group_call if_accepted C.if_read
reason_judged t x ts s value = checked (check_table t) refl
  where
    Told : Verdict → Type 0
    Told v =
        Judged (ReasonEarly t x ts s) (ReasonReady t x ts s) (λ p. TableWhere t (record { left = x; right = p.0.term }) s)
        (λ p. InAfter t (record { left = x; right = p.0.term }) s) v

    grouped : (p : EquationReady t x ts) (a : Answer) → check_group t.l s ≡ a
        → Told (if_accepted a Refused (verdict t.l (record { left = x; right = p.term }) (entries_of t) (set t.l s)))
    grouped p (A.Refused r) e = early (inr (p, e))
    grouped p A.Accepted e =
        let g = checked_group t.l s e in
        let q : Equation = record { left = x; right = p.term } in
        judged (p, e) (verdict_exact t.l q (entries_of t) (set t.l s) g)
        (there_exact t.l q (entries_of t) (set t.l s) g) (verdict_accepted t.l q (entries_of t) (set t.l s) g)

    read : GoodTable t → (o : C.Outcome Term) → C.check_equation t.l x ts ≡ o
        → Told (C.if_read o Refused (λ u. group_call t (record { left = x; right = u }) s))
    read good (C.refuses r) e = early (inl (inr (good, e)))
    read good (C.reads u) e = grouped (record { table = good; term = u; reads = e }) (check_group t.l s) refl

    checked : (a : Answer) → check_table t ≡ a
        → Told (if_accepted a Refused
        (C.if_read (C.check_equation t.l x ts) Refused (λ u. group_call t (record { left = x; right = u }) s)))
    checked (A.Refused r) e = early (inl (inl e))
    checked A.Accepted e =
        read (passes_good t value.cares value.values e) (C.check_equation t.l x ts) refl

-- The verdicts of the call exclude each other.
pub reason_exclusive : (t : Table) (x : ℕ) (ts : List ℕ) (s : ℕ) → TableValue t → ReasonExclusive t x ts s
unfolding one_of member within
reason_exclusive t x ts s value =
    exclusive_verdicts (2 ∷ 3 ∷ 4 ∷ 7 ∷ 5 ∷ 6 ∷ 11 ∷ [])
    (as_said
    (and_then
    (as_said (and_then (table_conditions t tt) (term_conditions t.l x ts tt)) (λ r e. e)
    (λ (e : EquationReady t x ts). (e.table, (e.term, e.reads))))
    (group_conditions t.l s tt))
    (λ r e. e) (λ p. p))
    refl
    (λ p q u k.
    subst (λ (w : Term). TableWhere t (record { left = x; right = w }) s u) (let is : p.0.term ≡ q.0.term = cc in is) k)
    (λ p q k. subst (λ (w : Term). InAfter t (record { left = x; right = w }) s) (let is : p.0.term ≡ q.0.term = cc in is) k)
    (reason_judged t x ts s value)
