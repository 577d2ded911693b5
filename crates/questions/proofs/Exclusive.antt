-- The replies of each question exclude each other, and none is 8 (01, "Questions" and "Refusals"). Assumes nothing.
use mathlib.Core.Path.{◌≡◌, refl, ap, subst}
use mathlib.Core.Bool.{false}
use mathlib.Core.List.{List, [], ◌∷◌}
use Prim.Native.Nat.{ℕ}
use native.Mathlib.Omega.{arith}
use Rattle.model.specs.Tables.{Side}
use Rattle.model.specs.Tokens.{named}
use Rattle.tables.specs.declared.Table.{Table}
use Rattle.tables.specs.declared.Refusal.{Refusal}
use Rattle.tables.specs.declared.Refusal.TheVariants as R
use Rattle.tables.specs.Refusals.{member, one_of}
use Rattle.tables.proofs.Numbers.{within}
use Rattle.operations.specs.Outcomes.{TableValue}
use Rattle.operations.proofs.Exclusive.{Conditions, tested, paired}
use Rattle.questions.specs.Replies.{Reply}
use Rattle.questions.specs.Replies.{Refused}
use Rattle.questions.specs.Replies.{good_sets}
use Rattle.questions.specs.Statements.{Replied, early, yes, no, ExclusiveReplies, EqualExclusive, GroundExclusive}
use Rattle.questions.specs.Statements.{IndependentExclusive}
use Rattle.questions.proofs.Exact.{equal_replied, ground_replied, independent_replied}

module _ {Early : Refusal → Type 0} {Ready Statement : Type 0} (ns : List ℕ) where
  -- The replies of a question exclude each other where its conditions do and 8 is not one of its numbers.
  pub replies_exclusive : Conditions ns Early Ready → one_of ns R.Full ≡ false → {q : Reply}
      → Replied Early Ready Statement q → ExclusiveReplies ns Early Ready Statement q
  replies_exclusive c late (early {r} e) = record {
    yes_where = (
      λ h. absurd (let z : ◌≡◌ {A = ℕ} 0 1 = cc in omega arith),
      λ h. absurd (c.apart r e h.0),
    );
    no_where = (
      λ h. absurd (let z : ◌≡◌ {A = ℕ} 0 1 = cc in omega arith),
      λ h. absurd (c.apart r e h.0),
    );
    refused_where = λ s. (
      λ h. subst (λ (i : Refusal). Early i) (let is : r ≡ s = cc in is) e,
      λ h. ap Refused (c.one r s e h),
    );
    numbers = c.numbers;
    never_8 = late;
  }
  replies_exclusive c late (yes ready k) = record {
    yes_where = (λ h. (ready, k), λ h. refl);
    no_where = (λ h. absurd (let z : ◌≡◌ {A = ℕ} 0 1 = cc in omega arith), λ h. absurd (h.1 k));
    refused_where = λ s. (
      λ h. absurd (let z : ◌≡◌ {A = ℕ} 0 1 = cc in omega arith),
      λ h. absurd (c.apart s h ready),
    );
    numbers = c.numbers;
    never_8 = late;
  }
  replies_exclusive c late (no ready k) = record {
    yes_where = (λ h. absurd (let z : ◌≡◌ {A = ℕ} 0 1 = cc in omega arith), λ h. absurd (k h.1));
    no_where = (λ h. (ready, k), λ h. refl);
    refused_where = λ s. (
      λ h. absurd (let z : ◌≡◌ {A = ℕ} 0 1 = cc in omega arith),
      λ h. absurd (c.apart s h ready),
    );
    numbers = c.numbers;
    never_8 = late;
  }

-- The replies to the question of equality exclude each other, for either side.
pub equal_exclusive : (side : Side) (t u : Table) → TableValue t → TableValue u → EqualExclusive side t u
unfolding one_of member within
equal_exclusive side t u vt vu =
    replies_exclusive (2 ∷ 3 ∷ 4 ∷ 10 ∷ []) (paired t u tt tt) refl (equal_replied side t u vt vu)

-- The replies to the question of groundness exclude each other.
pub ground_exclusive : (side : Side) (t : Table) (x : ℕ) → TableValue t → GroundExclusive side t x
unfolding one_of member within
ground_exclusive side t x value =
    replies_exclusive (2 ∷ 3 ∷ 4 ∷ 5 ∷ []) (tested t (named t.l x) R.Name tt tt) refl (ground_replied side t x value)

-- The replies to the question of independence exclude each other.
pub independent_exclusive : (side : Side) (t : Table) (a b : ℕ) → TableValue t → IndependentExclusive side t a b
unfolding one_of member within
independent_exclusive side t a b value =
    replies_exclusive (2 ∷ 3 ∷ 4 ∷ 5 ∷ []) (tested t (good_sets t.l a b) R.Name tt tt) refl
    (independent_replied side t a b value)
