-- Each question is answered yes exactly where its statement over groups holds. Assumes nothing.
use mathlib.Core.Path.{◌≡◌, refl, sym, ◌∙◌, subst}
use mathlib.Core.Bool.{Bool, true, false, cond}
use mathlib.Core.Logic.{inl, inr, ◌↔◌}
use Prim.Native.Nat.{ℕ}
use borrow.Author.Tests.{eqb-true, eqb-false}
use lib.Dec.{T, eqb}
use Rattle.model.specs.Growth.{Entries}
use Rattle.model.specs.Tables.{Side, positive, groups}
use Rattle.model.specs.Tokens.{named}
use Rattle.model.specs.Questions.{Equal, Ground, Independent, equal, ground, independent}
use Rattle.model.proofs.Questions.{equal_exact, ground_exact, independent_exact}
use Rattle.words.specs.Words.{set}
use Rattle.tables.specs.declared.Table.{Table}
use Rattle.tables.specs.declared.Refusal.{Refusal}
use Rattle.tables.specs.declared.Refusal.TheVariants as R
use Rattle.tables.specs.Refusals.{Answer}
use Rattle.tables.specs.Refusals as A
use Rattle.tables.specs.Refusals.{if_accepted}
use Rattle.tables.specs.Values.{entries_of, check_table, GoodTable}
use Rattle.tables.proofs.Checking.{passes_good}
use Rattle.covering.proofs.Inclusion.{equal_within}
use Rattle.operations.specs.Outcomes.{TableValue, groups_of, JoinEarly, JoinReady}
use Rattle.questions.specs.Replies.{Reply}
use Rattle.questions.specs.Replies.{Refused}
use Rattle.questions.specs.Replies.{replies, good_sets, equal_call, ground_call, independent_call}
use Rattle.questions.specs.Statements.{Replied, early, yes, no, EqualReplied, GroundEarly, GroundReady, GroundReplied}
use Rattle.questions.specs.Statements.{IndependentEarly, IndependentReady, IndependentReplied}

-- the test decides the statement
module _ {Early : Refusal → Type 0} {Ready Statement : Type 0} where
  decided : Ready → (b : Bool) → T b ↔ Statement → Replied Early Ready Statement (replies b)
  unfolding replies
  decided ready true e = yes ready (e.0 tt)
  decided ready false e = no ready (λ h. e.1 h)

  -- a question goes on only with a good table
  checked_first : (t : Table) → TableValue t → (q : Reply) → ((r : Refusal) → check_table t ≡ A.Refused r → Early r)
      → (GoodTable t → Replied Early Ready Statement q)
      → Replied Early Ready Statement (if_accepted (check_table t) Refused q)
  unfolding if_accepted
  checked_first t value q f g = go (check_table t) refl
    where
      go : (c : Answer) → check_table t ≡ c → Replied Early Ready Statement (if_accepted c Refused q)
      go A.Accepted e = g (passes_good t value.cares value.values e)
      go (A.Refused r) e = early (f r e)

-- The test of equality is the same for both sides.
pub equal_sides : (side : Side) (l : ℕ) (τ ρ : Entries) → equal positive l τ ρ ≡ equal side l τ ρ
equal_sides side l τ ρ = sym (equal_within positive l τ ρ) ∙ equal_within side l τ ρ

pub equal_replied : (side : Side) (t u : Table) → TableValue t → TableValue u → EqualReplied side t u
unfolding equal_call
equal_replied side t u vt vu =
    checked_first t vt _ (λ r e. inl e) (λ good_t.
    checked_first u vu _ (λ r e. inr (inl (good_t, e))) (λ good_u. go good_t good_u (eqb t.l u.l) refl))
  where
    go : GoodTable t → GoodTable u → (b : Bool) → eqb t.l u.l ≡ b
        → Replied (JoinEarly t u) (JoinReady t u) (Equal (groups_of side t) (groups_of side u))
        (cond b (replies (equal positive t.l (entries_of t) (entries_of u))) (Refused R.Unlike))
    go good_t good_u true e =
        let w = eqb-true t.l u.l e in
        decided (good_t, good_u, w) (equal positive t.l (entries_of t) (entries_of u))
        (rw (equal_sides side t.l (entries_of t) (entries_of u))
        (subst
        (λ (l : ℕ). T (equal side t.l (entries_of t) (entries_of u)) ↔ Equal (groups_of side t) (groups side l (entries_of u)))
        w (equal_exact side t.l (entries_of t) (entries_of u))))
    go good_t good_u false e = early (inr (inr (good_t, good_u, eqb-false t.l u.l e, refl)))

pub ground_replied : (side : Side) (t : Table) (x : ℕ) → TableValue t → GroundReplied side t x
unfolding ground_call
ground_replied side t x value = checked_first t value _ (λ r e. inl e) (λ good. go good (named t.l x) refl)
  where
    go : GoodTable t → (b : Bool) → named t.l x ≡ b
        → Replied (GroundEarly t x) (GroundReady t x) (Ground (groups_of side t) x)
        (cond b (replies (ground side t.l (entries_of t) x)) (Refused R.Name))
    go good true e = decided (good, e) (ground side t.l (entries_of t) x) (ground_exact side t.l (entries_of t) x)
    go good false e = early (inr (good, e, refl))

pub independent_replied : (side : Side) (t : Table) (a b : ℕ) → TableValue t → IndependentReplied side t a b
unfolding independent_call
independent_replied side t a b value = checked_first t value _ (λ r e. inl e) (λ good. go good (good_sets t.l a b) refl)
  where
    go : GoodTable t → (c : Bool) → good_sets t.l a b ≡ c
        → Replied (IndependentEarly t a b) (IndependentReady t a b)
        (Independent (groups_of side t) (set t.l a) (set t.l b))
        (cond c (replies (independent side t.l (entries_of t) (set t.l a) (set t.l b))) (Refused R.Name))
    go good true e = decided (good, e) _ (independent_exact side t.l (entries_of t) (set t.l a) (set t.l b))
    go good false e = early (inr (good, e, refl))
