-- What holds after a call's checks: of a good table, of an equation that was read, of a set to project on. Assumes nothing.
use mathlib.Core.Path.{◌≡◌, refl, ap, subst}
use mathlib.Core.Bool.{Bool, true, false, ◌&&◌, cond}
use mathlib.Core.List.{List}
use Prim.Native.Nat.{ℕ, ◌-◌, ◌^◌, ◌≤◌, ◌<◌}
use native.Mathlib.Omega.{arith}
use borrow.Author.Tests.{ltb-true, leb-true}
use lib.Dec.{ltb, leb}
use lib.ListN.{length}
use Rattle.model.specs.Growth.{Entries}
use Rattle.model.specs.Terms.{Term, variables}
use Rattle.model.specs.Tokens.{Tokens, named}
use Rattle.model.proofs.Reader.{whole_exact}
use Rattle.words.specs.Words.{set_word}
use Rattle.tables.specs.declared.Table.{Table}
use Rattle.tables.specs.declared.Refusal.{Refusal}
use Rattle.tables.specs.declared.Refusal.TheVariants as R
use Rattle.tables.specs.Refusals as N
use Rattle.lists.specs.WorkingLists.{Holds}
use Rattle.tables.specs.Lists.{Stores}
use Rattle.tables.specs.Values.{GoodTable, entries_of}
use Rattle.tables.proofs.Checking.{good_holds, width_most}
use Rattle.tables.proofs.Tests.{both_true, below_full}
use Rattle.terms.specs.Checks.{Variables}
use Rattle.terms.specs.Checks as C
use Rattle.terms.specs.EquationKinds.{Counted}
use Rattle.terms.specs.Checks.{check_equation, check_term, checked, check_answer}
use Rattle.terms.proofs.EquationKinds.{bit_of, bit_word}
use Rattle.terms.proofs.Checking.{checked_reads, read_whole}
use Rattle.operations.specs.Operations.{good_keep}

-- ---- A good table

module _ {t : Table} (g : GoodTable t) where
  pub good_few : t.n ≤ 256
  good_few = let h = good_holds g in omega (arith, h.count, h.good.few)

  pub good_wide : t.l ≤ 32
  good_wide = omega (arith, width_most t.l g.width)

  -- the working list of its arrays
  pub good_list : {list : List ℕ}
      → ((l : ℕ) (τ : Entries) → l ≤ 32 → Stores l t.care t.value t.n τ → Holds l list t.n τ)
      → Holds t.l list t.n (entries_of t)
  good_list loads = loads _ _ good_wide (good_holds g)

-- a list of strings of l positions, for another name of l
pub held_as : {k l : ℕ} {list : List ℕ} {n : ℕ} {τ : Entries} → k ≡ l → Holds k list n τ → Holds l list n τ
held_as {list = list} {n = n} {τ = τ} e h = subst (λ (l : ℕ). Holds l list n τ) e h

-- ---- The equation's checks

-- the variable x is 1 to l, and the tokens are a term whose variables are the set m
pub record Read (l x : ℕ) (ts : List ℕ) (m : ℕ) : Type 0 where
  pub term : Term
  pub is : check_equation l x ts ≡ C.reads term
  pub whole : check_term l ts ≡ C.reads term
  pub word : m ≡ set_word (variables l term)
  pub left : named l x ≡ true
  pub low : 0 < x
  pub high : x ≤ l

-- where the two tests before the term's fail, the outcome is a refusal
read_tests : (b c : Bool) (o : C.Outcome Term) (u : Term)
    → cond b (cond c o (C.refuses R.Name)) (C.refuses R.Long) ≡ C.reads u → (c ≡ true) × (o ≡ C.reads u)
read_tests true true o u e = (refl, e)
read_tests true false o u e = absurd (let z : ◌≡◌ {A = ℕ} 0 1 = cc in omega arith)
read_tests false c o u e = absurd (let z : ◌≡◌ {A = ℕ} 0 1 = cc in omega arith)

pub read_equation : (l x : ℕ) (ts : List ℕ) (m : ℕ) → checked l (check_equation l x ts) ≡ Variables m → Read l x ts m
unfolding check_equation
read_equation l x ts m e =
    let o = checked_reads l m (check_equation l x ts) e in
    let n = read_tests (leb (length ts) C.most_tokens) (named l x) (check_term l ts) o.0 o.1 in
    let b = both_true (ltb 0 x) (leb x l) n.0 in
    record {
      term = o.0;
      is = o.1;
      whole = n.1;
      word = o.2;
      left = n.0;
      low = ltb-true 0 x b.0;
      high = leb-true x l b.1;
    }

-- What the sets and the tokens of an equation that was read come to.
pub read_counted : {l x : ℕ} {ts : List ℕ} {m : ℕ} → l ≤ 32 → Tokens ts → (r : Read l x ts m)
    → Counted l (bit_of x) m (length ts) (record { left = x; right = r.term })
read_counted {l} {x} {ts} few tokens r = record {
  named = rw r.left tt;
  left_set = bit_word l x few (rw r.left tt);
  right_set = r.word;
  count = ap length ((whole_exact l ts r.term tokens).0 (read_whole l ts r.term r.whole)).1;
}

-- ---- The checks of two terms

-- accepted: they were read
pub answer_reads : {A : Type 0} (o : C.Outcome A) → check_answer o ≡ N.Accepted → (a : A) × (o ≡ C.reads a)
unfolding check_answer
answer_reads (C.reads a) e = (a, refl)
answer_reads (C.refuses r) e = absurd (let z : ◌≡◌ {A = ℕ} 0 1 = cc in omega arith)

pub answer_refuses : {A : Type 0} {r : Refusal} (o : C.Outcome A) → check_answer o ≡ N.Refused r → o ≡ C.refuses r
unfolding check_answer
answer_refuses (C.reads a) e = absurd (let z : ◌≡◌ {A = ℕ} 0 1 = cc in omega arith)
answer_refuses (C.refuses r) e = cc

-- ---- The set of a projection

pub keep_test : (l keep full : ℕ) → full ≡ 2 ^ l - 1 → (ltb 0 keep && leb keep full) ≡ good_keep l keep
unfolding good_keep
keep_test l keep full e = ap (λ (b : Bool). ltb 0 keep && b) (below_full l keep full e)

pub keep_below : (l keep : ℕ) → good_keep l keep ≡ true → keep < 2 ^ l
unfolding good_keep
keep_below l keep h = ltb-true keep (2 ^ l) (both_true (ltb 0 keep) (ltb keep (2 ^ l)) h).1
