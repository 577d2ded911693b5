-- From a table to the goals on its program variables, of the calls on table values and on bytes: what an accepted question says
-- of the terms, and which bindings the table of an accepted call describes. Assumes nothing.
use mathlib.Core.Path.{◌≡◌, refl, sym, ap, subst, ◌∙◌}
use mathlib.Core.Bool.{Bool, true, false, cond}
use mathlib.Core.List.{List, map}
use mathlib.Core.Logic.{◌⊎◌, ◌↔◌}
use Prim.Native.Nat.{ℕ}
use native.Mathlib.Omega.{arith}
use borrow.Author.Tests.{eqb-true}
use lib.Dec.{T, eqb}
use Rattle.model.specs.Groups.{cut, Joined, Projected, Among, Listed}
use Rattle.model.specs.Tables.{Side, positive, opposite, groups}
use Rattle.model.specs.Tokens.{named}
use Rattle.model.specs.Questions.{Equal, Independent, equal, ground, independent}
use Rattle.model.specs.Bindings.{Bindings, Describes}
use Rattle.model.specs.Goals.{ShareNone, NoVariable}
use Rattle.model.proofs.Questions.{groups_test, equal_exact, ground_exact, independent_exact}
use Rattle.model.proofs.Describing.{independent_shares_none, ground_no_variable, describes_equal, describes_joined}
use Rattle.model.proofs.Describing.{describes_listed, describes_projected, shares_none_independent, no_variable_ground}
use Rattle.model.proofs.Describing.{same_described_equal}
use Rattle.words.specs.Words.{set}
use Rattle.words.proofs.Codec.{sets_long}
use Rattle.tables.specs.declared.Table.{Table}
use Rattle.tables.specs.declared.Refusal.{Refusal}
use Rattle.tables.specs.declared.Refusal.TheVariants as R
use Rattle.tables.specs.Refusals.{Answer}
use Rattle.tables.specs.Refusals.{Accepted, Refused}
use Rattle.tables.specs.declared.Answered.{Answered}
use Rattle.tables.specs.Refusals.{if_accepted}
use Rattle.tables.specs.Values.{entries_of, accepts, check_table}
use Rattle.operations.specs.Operations.{convert_call, join_call, projection_call, change_side_call}
use Rattle.operations.specs.Outcomes.{TableValue, groups_of, Outcome}
use Rattle.operations.proofs.Demand2.{result, convert_outcome, join_outcome, projection_outcome, change_outcome}
use Rattle.questions.specs.Replies.{Reply}
use Rattle.questions.specs.Replies as Q
use Rattle.questions.specs.Replies.{Yes, No}
use Rattle.questions.specs.Replies.{replies, good_sets, equal_call, ground_call, independent_call}
use Rattle.questions.proofs.Exact.{equal_sides}
use Rattle.forms.specs.declared.Layout.TheVariants.{Plain}
use Rattle.forms.specs.declared.Extent.TheVariants.{Front}
use Rattle.forms.specs.TableForms.{read_table}
use Rattle.byte_calls.specs.ByteCalls.{change_side_bytes, join_bytes, projection_bytes, equal_bytes, ground_bytes}
use Rattle.byte_calls.specs.ByteCalls.{independent_bytes}
use Rattle.byte_calls.specs.Outputs.{output_answer, output_bytes}
use Rattle.demands.specs.HandedOn.{Writes}
use Rattle.demands.specs.Demand2.{Reads}
use Rattle.demands.proofs.ByBytes.{change_side_by_bytes, projection_by_bytes, join_by_bytes, equal_by_bytes}
use Rattle.demands.proofs.ByBytes.{ground_by_bytes, independent_by_bytes}
use Rattle.demands.proofs.HandedBack.{answer_is}
use Rattle.demands.proofs.Demand2.{read_value}
use Rattle.demands.proofs.ReadsBack.{output_accepted, convert_reads, change_side_reads, join_reads}
use Rattle.demands.proofs.ReadsBack.{projection_reads}

-- ---- Questions that are answered

-- a table's own check goes first
checked_reply : (c : Answer) (q : Reply) (y : Bool) → if_accepted c Q.Refused q ≡ replies y → q ≡ replies y
unfolding if_accepted replies
checked_reply Accepted q y e = e
checked_reply (Refused r) q true e = absurd (let z : ◌≡◌ {A = ℕ} 0 1 = cc in omega arith)
checked_reply (Refused r) q false e = absurd (let z : ◌≡◌ {A = ℕ} 0 1 = cc in omega arith)

-- then the question's own test
tested_reply : (c b y : Bool) (r : Refusal) → cond c (replies b) (Q.Refused r) ≡ replies y → (c ≡ true) × (b ≡ y)
unfolding replies
tested_reply true true true r e = (refl, refl)
tested_reply true true false r e = absurd (let z : ◌≡◌ {A = ℕ} 0 1 = cc in omega arith)
tested_reply true false true r e = absurd (let z : ◌≡◌ {A = ℕ} 0 1 = cc in omega arith)
tested_reply true false false r e = (refl, refl)
tested_reply false b true r e = absurd (let z : ◌≡◌ {A = ℕ} 0 1 = cc in omega arith)
tested_reply false b false r e = absurd (let z : ◌≡◌ {A = ℕ} 0 1 = cc in omega arith)

module _ (side : Side) (t : Table) where
  -- ---- Independent

  module _ (a b : ℕ) where
    -- what the question tests
    abbrev apart : Bool
    apart = independent side t.l (entries_of t) (set t.l a) (set t.l b)

    -- a reply is the test's answer
    independent_reply : (y : Bool) → independent_call side t a b ≡ replies y → apart ≡ y
    unfolding independent_call
    independent_reply y e = (tested_reply (good_sets t.l a b) apart y R.Name (checked_reply (check_table t) _ y e)).1

    -- it holds exactly where no group meets both sets
    independent_test : T apart ↔ Independent (groups_of side t) (set t.l a) (set t.l b)
    independent_test = independent_exact side t.l (entries_of t) (set t.l a) (set t.l b)

    -- Where two sets of program variables are said to be independent, goals on them share no run-time variable.
    pub independent_goals : (θ : Bindings) → independent_call side t a b ≡ Yes → Describes (groups_of side t) θ
        → ShareNone θ (set t.l a) (set t.l b)
    unfolding replies
    independent_goals θ e d =
        independent_shares_none (groups_of side t) θ d (set t.l a) (set t.l b)
        (independent_test.0 (rw (independent_reply true e) tt))

    -- Where they are said not to be, the table does not rule out that goals on them share: not for all bindings that it
    -- describes do they share none.
    pub independent_no : independent_call side t a b ≡ No
        → ¬ ((θ : Bindings) → Describes (groups_of side t) θ → ShareNone θ (set t.l a) (set t.l b))
    unfolding replies
    independent_no e f =
        rw (independent_reply false e) at
        (independent_test.1 (shares_none_independent (groups_of side t) (set t.l a) (set t.l b) f))

  -- ---- Ground

  module _ (x : ℕ) where
    -- a reply is the test's answer
    ground_reply : (y : Bool) → ground_call side t x ≡ replies y → ground side t.l (entries_of t) x ≡ y
    unfolding ground_call
    ground_reply y e = (tested_reply (named t.l x) _ y R.Name (checked_reply (check_table t) _ y e)).1

    -- Where a program variable is said to be ground, its term has no run-time variable.
    pub ground_goal : (θ : Bindings) → ground_call side t x ≡ Yes → Describes (groups_of side t) θ → NoVariable θ x
    unfolding replies
    ground_goal θ e d =
        ground_no_variable (groups_of side t) θ d x
        ((ground_exact side t.l (entries_of t) x).0 (rw (ground_reply true e) tt))

    -- Where it is said not to be, not for all bindings that the table describes has its term none.
    pub ground_no : ground_call side t x ≡ No → ¬ ((θ : Bindings) → Describes (groups_of side t) θ → NoVariable θ x)
    unfolding replies
    ground_no e f =
        rw (ground_reply false e) at
        ((ground_exact side t.l (entries_of t) x).1 (no_variable_ground (groups_of side t) x f))

  -- ---- Equal

  module _ (u : Table) where
    -- where there is a reply the widths are the same, and it is the test's answer
    equal_reply : (y : Bool) → equal_call t u ≡ replies y
        → (t.l ≡ u.l) × (equal side t.l (entries_of t) (entries_of u) ≡ y)
    unfolding equal_call
    equal_reply y e =
        let r = tested_reply (eqb t.l u.l) _ y R.Unlike
        (checked_reply (check_table u) _ y (checked_reply (check_table t) _ y e)) in
        (eqb-true t.l u.l r.0, sym (equal_sides side t.l (entries_of t) (entries_of u)) ∙ r.1)

    -- it holds exactly where the groups are the same
    equal_test : t.l ≡ u.l
        → T (equal side t.l (entries_of t) (entries_of u)) ↔ Equal (groups_of side t) (groups_of side u)
    equal_test w =
        subst
        (λ (l : ℕ). T (equal side t.l (entries_of t) (entries_of u)) ↔ Equal (groups_of side t) (groups side l (entries_of u)))
        w (equal_exact side t.l (entries_of t) (entries_of u))

    -- Where two tables are said to be equal, they describe the same bindings, read as tables of either side.
    pub equal_describes : (θ : Bindings) → equal_call t u ≡ Yes → Describes (groups_of side t) θ ↔ Describes (groups_of side u) θ
    unfolding replies
    equal_describes θ e =
        let r = equal_reply true e in
        describes_equal (groups_of side t) (groups_of side u) θ ((equal_test r.0).0 (rw r.1 tt))

    -- Where they are said not to be, not all bindings are described by both or by neither.
    pub equal_no : equal_call t u ≡ No
        → ¬ ((θ : Bindings) → Describes (groups_of side t) θ ↔ Describes (groups_of side u) θ)
    unfolding replies
    equal_no e f =
        let r = equal_reply false e in
        rw r.1 at
        ((equal_test r.0).1
        (same_described_equal (groups_of side t) (groups_of side u) (λ g h. ((groups_test side t.l (entries_of t) g).0 h).0.1)
        (λ g h. ((groups_test side u.l (entries_of u) g).0 h).0.1) f))

-- ---- Calls that are accepted

-- what an accepted call has made
made : {t : Table} {Early : Refusal → Type 0} {Ready : Type 0} {Full : Ready → Type 0} {Result : Ready → Table → Type 0}
    {a : Answered} → Outcome t Early Ready Full Result a → (w : Table) → a ≡ accepts w → (r : Ready) × Result r w
made {Result = Result} outcome w e =
    let m = result outcome (ap (λ (y : Answered). y.answer) e) in
    (m.0, subst (Result m.0) (ap (λ (y : Answered). y.table) e) m.1)

module _ (side : Side) (t : Table) (value : TableValue t) (w : Table) (θ : Bindings) where
  -- The table of an accepted join describes all bindings that either table describes.
  pub join_describes : (u : Table) → TableValue u → join_call side t u ≡ accepts w
      → Describes (groups_of side t) θ ⊎ Describes (groups_of side u) θ → Describes (groups_of side w) θ
  join_describes u value_u e d =
      let got = (made (join_outcome side t u value value_u) w e).1 in
      (describes_equal (groups_of side w) (Joined (groups_of side t) (groups_of side u)) θ got.exact).1
      (describes_joined (groups_of side t) (groups_of side u) θ d)

  -- The table of an accepted projection describes the terms of the kept variables, in rising order.
  pub projection_describes : (keep : ℕ) → projection_call side t keep ≡ accepts w → Describes (groups_of side t) θ
      → Describes (groups_of side w) (cut (set t.l keep) θ)
  projection_describes keep e d =
      let k = set t.l keep in
      let got = (made (projection_outcome side t keep value) w e).1 in
      (describes_equal (groups_of side w) (Projected k (groups_of side t)) (cut k θ) got.exact).1
      (describes_projected k (groups_of side t) θ d)

  -- The table of an accepted change of side describes, on the other side, just the bindings that the table given describes.
  pub change_describes : change_side_call side t ≡ accepts w
      → Describes (groups_of side t) θ ↔ Describes (groups_of (opposite side) w) θ
  change_describes e =
      let got = (made (change_outcome side t value) w e).1 in
      describes_equal (groups_of side t) (groups_of (opposite side) w) θ (λ g. ((got.exact g).1, (got.exact g).0))

module _ (l : ℕ) (ws : List ℕ) (w : Table) (θ : Bindings) where
  -- The table of an accepted conversion describes just the bindings for which the string of each run-time variable is all zero
  -- or one of the groups given.
  pub convert_describes : convert_call l ws ≡ accepts w
      → Describes (Among (map (set l) ws)) θ ↔ Describes (groups_of positive w) θ
  convert_describes e =
      let gs = map (set l) ws in
      let same = describes_equal (groups_of positive w) (Listed l gs) θ (made (convert_outcome l ws) w e).1.exact in
      let row = describes_listed l gs (sets_long l ws) θ in
      (λ d. same.1 (row.1 d), λ d. row.0 (same.0 d))

-- ---- The calls on bytes

-- A call whose written form reads back as its table has accepted with just the table that its output reads as.
pub written_is : (a : Answered) (out : List ℕ) (w : Table)
    → (output_answer a out ≡ Accepted → read_table Front (output_bytes a out) ≡ accepts a.table) → Writes a out w → a ≡ accepts w
written_is a out w back h =
    let went = answer_is Plain a out Accepted h.zero in
    let same : a.table ≡ w = ap (λ (y : Answered). y.table) (sym (back went) ∙ h.reads) in
    λ i. record { answer = output_accepted Plain a out went i; table = same i }

module _ (side : Side) (b : List ℕ) {t : Table} (read : Reads b t) (θ : Bindings) where
  -- The question on bytes: goals on sets that are said to be independent share no run-time variable.
  pub independent_bytes_goals : (first second : ℕ) → independent_bytes side b first second ≡ Yes
      → Describes (groups_of side t) θ → ShareNone θ (set t.l first) (set t.l second)
  independent_bytes_goals first second e =
      independent_goals side t first second θ (sym (independent_by_bytes side b read first second) ∙ e)

  -- The question on bytes: the term of a variable that is said to be ground has no run-time variable.
  pub ground_bytes_goal : (x : ℕ) → ground_bytes side b x ≡ Yes → Describes (groups_of side t) θ → NoVariable θ x
  ground_bytes_goal x e = ground_goal side t x θ (sym (ground_by_bytes side b read x) ∙ e)

  -- The question on bytes: tables that are said to be equal describe the same bindings.
  pub equal_bytes_describes : (c : List ℕ) {u : Table} → Reads c u → equal_bytes b c ≡ Yes
      → Describes (groups_of side t) θ ↔ Describes (groups_of side u) θ
  equal_bytes_describes c {u} also e = equal_describes side t u θ (sym (equal_by_bytes b c read also) ∙ e)

  module _ (out : List ℕ) (w : Table) where
    -- The join on bytes: what its output reads as describes all bindings that either table describes.
    pub join_bytes_describes : (c : List ℕ) {u : Table} → Reads c u → Writes (join_bytes side b c) out w
        → Describes (groups_of side t) θ ⊎ Describes (groups_of side u) θ → Describes (groups_of side w) θ
    join_bytes_describes c {u} also h =
        join_describes side t (read_value b read) w θ u (read_value c also)
        (sym (join_by_bytes side b c read also) ∙ written_is (join_bytes side b c) out w (join_reads side b c out) h)

    -- The projection on bytes: what its output reads as describes the terms of the kept variables.
    pub projection_bytes_describes : (keep : ℕ) → Writes (projection_bytes side b keep) out w
        → Describes (groups_of side t) θ → Describes (groups_of side w) (cut (set t.l keep) θ)
    projection_bytes_describes keep h =
        projection_describes side t (read_value b read) w θ keep
        (sym (projection_by_bytes side b read keep)
        ∙ written_is (projection_bytes side b keep) out w (projection_reads side b keep out) h)

    -- The change of side on bytes: what its output reads as describes the same bindings on the other side.
    pub change_side_bytes_describes : Writes (change_side_bytes side b) out w
        → Describes (groups_of side t) θ ↔ Describes (groups_of (opposite side) w) θ
    change_side_bytes_describes h =
        change_describes side t (read_value b read) w θ
        (sym (change_side_by_bytes side b read) ∙ written_is (change_side_bytes side b) out w (change_side_reads side b out) h)

-- The conversion into an output: what it reads as describes just the bindings whose strings are all zero or among the groups.
pub convert_bytes_describes : (l : ℕ) (ws out : List ℕ) (w : Table) (θ : Bindings) → Writes (convert_call l ws) out w
    → Describes (Among (map (set l) ws)) θ ↔ Describes (groups_of positive w) θ
convert_bytes_describes l ws out w θ h =
    convert_describes l ws w θ (written_is (convert_call l ws) out w (convert_reads l ws out) h)
