-- What a call on bytes is: where its bytes read as tables, the call on those tables, so that all that is proved of the calls on
-- table values holds of it; where they do not read, a refusal by the reader's number. Assumes nothing.
use mathlib.Core.Path.{◌≡◌, refl, sym, ap, ◌∙◌}
use mathlib.Core.List.{List}
use mathlib.Core.Logic.{◌⊎◌, inl, inr}
use Prim.Native.Nat.{ℕ}
use native.Mathlib.Omega.{arith}
use Rattle.model.specs.Tables.{Side}
use Rattle.tables.specs.declared.Table.{Table}
use Rattle.tables.specs.declared.Refusal.{Refusal}
use Rattle.tables.specs.Refusals.{Answer}
use Rattle.tables.specs.Refusals.{Accepted, Refused}
use Rattle.tables.specs.declared.Answered.{Answered}
use Rattle.tables.specs.Values.{zero_table, refuses, GoodTable}
use Rattle.tables.proofs.Checking.{good_passes}
use Rattle.terms.specs.Checks.{Written, one_term, two_terms}
use Rattle.operations.specs.Operations.{written_call, join_call, projection_call, change_side_call}
use Rattle.questions.specs.Replies.{Reply}
use Rattle.questions.specs.Replies as Q
use Rattle.questions.specs.Replies.{equal_call, ground_call, independent_call}
use Rattle.byte_calls.specs.ByteCalls.{written_tokens, value_call, refuses_zero, after_read, change_side_bytes}
use Rattle.byte_calls.specs.ByteCalls.{equation_bytes, unify_bytes, written_bytes, join_bytes, projection_bytes}
use Rattle.byte_calls.specs.ByteCalls.{equal_bytes, ground_bytes, independent_bytes}
use Rattle.byte_calls.proofs.AfterChecks.{read_accepted, read_refused, check_all_bytes, bytes_passed, bytes_refused}
use Rattle.demands.specs.Demand2.{Reads, Unread}

-- ---- Any call, any question

module _ {A : Type 0} (b : List ℕ) where
  -- A call or a question whose bytes read goes on with the table that they read as.
  pub call_by_bytes : {t : Table} → Reads b t → (stop : Refusal → A) (next : Table → A) → after_read b stop next ≡ next t
  call_by_bytes e stop next = sym (read_accepted b (sym e) stop next refl)

  -- One whose bytes do not read stops with the reader's refusal.
  pub call_unread : {r : Refusal} → Unread b r → (stop : Refusal → A) (next : Table → A) → after_read b stop next ≡ stop r
  call_unread e stop next = sym (read_refused b (sym e) stop next refl)

-- ---- The calls on one table

-- Either kind of equation on bytes reads the table and goes on with the call on what was read.
pub one_reading : (side : Side) (b : List ℕ) (w : Written)
    → written_bytes side b w ≡ after_read b refuses_zero (λ t. value_call side t w)
unfolding written_bytes equation_bytes unify_bytes value_call
one_reading side b (one_term x term) = refl
one_reading side b (two_terms left right) = refl

module _ (side : Side) (b : List ℕ) {t : Table} (e : Reads b t) where
  -- The change of side on bytes is that of the table that they read as.
  pub change_side_by_bytes : change_side_bytes side b ≡ change_side_call side t
  unfolding change_side_bytes
  change_side_by_bytes = call_by_bytes b e refuses_zero (change_side_call side)

  -- The equation on bytes, x = t or two terms, is that of the table that they read as, with its terms as bytes.
  pub equation_by_bytes : (w : Written) → written_bytes side b w ≡ value_call side t w
  equation_by_bytes w = one_reading side b w ∙ call_by_bytes b e refuses_zero (λ u. value_call side u w)

  -- The projection on bytes is that of the table that they read as.
  pub projection_by_bytes : (keep : ℕ) → projection_bytes side b keep ≡ projection_call side t keep
  unfolding projection_bytes
  projection_by_bytes keep = call_by_bytes b e refuses_zero (λ u. projection_call side u keep)

  -- The question whether a variable is ground, on bytes, is that of the table that they read as.
  pub ground_by_bytes : (x : ℕ) → ground_bytes side b x ≡ ground_call side t x
  unfolding ground_bytes
  ground_by_bytes x = call_by_bytes b e Q.Refused (λ u. ground_call side u x)

  -- The question whether two sets are independent, on bytes, is that of the table that they read as.
  pub independent_by_bytes : (first second : ℕ) → independent_bytes side b first second ≡ independent_call side t first second
  unfolding independent_bytes
  independent_by_bytes first second = call_by_bytes b e Q.Refused (λ u. independent_call side u first second)

module _ (side : Side) (b : List ℕ) {r : Refusal} (e : Unread b r) where
  -- The change of side is refused by the reader's number where its bytes do not read.
  pub change_side_unread : change_side_bytes side b ≡ refuses r zero_table
  unfolding change_side_bytes
  change_side_unread = call_unread b e refuses_zero (change_side_call side)

  -- So is the equation, x = t or two terms.
  pub equation_unread : (w : Written) → written_bytes side b w ≡ refuses r zero_table
  equation_unread w = one_reading side b w ∙ call_unread b e refuses_zero (λ u. value_call side u w)

  -- So is the projection.
  pub projection_unread : (keep : ℕ) → projection_bytes side b keep ≡ refuses r zero_table
  unfolding projection_bytes
  projection_unread keep = call_unread b e refuses_zero (λ u. projection_call side u keep)

  -- So is the question whether a variable is ground.
  pub ground_unread : (x : ℕ) → ground_bytes side b x ≡ Q.Refused r
  unfolding ground_bytes
  ground_unread x = call_unread b e Q.Refused (λ u. ground_call side u x)

  -- So is the question whether two sets are independent.
  pub independent_unread : (first second : ℕ) → independent_bytes side b first second ≡ Q.Refused r
  unfolding independent_bytes
  independent_unread first second = call_unread b e Q.Refused (λ u. independent_call side u first second)

-- ---- The calls on two tables: the first is read first

module _ (side : Side) (b c : List ℕ) where
  -- the join once the first table is read
  abbrev join_second : Table → Answered
  join_second t = after_read c refuses_zero (join_call side t)

  -- The join on bytes is that of the two tables that they read as.
  pub join_by_bytes : {t u : Table} → Reads b t → Reads c u → join_bytes side b c ≡ join_call side t u
  unfolding join_bytes
  join_by_bytes {t} e f = call_by_bytes b e refuses_zero join_second ∙ call_by_bytes c f refuses_zero (join_call side t)

  -- The join is refused by the reader's number where its first table does not read, whatever the second is.
  pub join_first_unread : {r : Refusal} → Unread b r → join_bytes side b c ≡ refuses r zero_table
  unfolding join_bytes
  join_first_unread e = call_unread b e refuses_zero join_second

  -- And where its first table reads and the second does not.
  pub join_second_unread : {t : Table} {r : Refusal} → Reads b t → Unread c r → join_bytes side b c ≡ refuses r zero_table
  unfolding join_bytes
  join_second_unread {t} e f = call_by_bytes b e refuses_zero join_second ∙ call_unread c f refuses_zero (join_call side t)

module _ (b c : List ℕ) where
  -- the question once the first table is read
  abbrev equal_second : Table → Reply
  equal_second t = after_read c Q.Refused (equal_call t)

  -- The question whether two tables are equal, on bytes, is that of the two tables that they read as.
  pub equal_by_bytes : {t u : Table} → Reads b t → Reads c u → equal_bytes b c ≡ equal_call t u
  unfolding equal_bytes
  equal_by_bytes {t} e f = call_by_bytes b e Q.Refused equal_second ∙ call_by_bytes c f Q.Refused (equal_call t)

  -- It is refused by the reader's number where its first table does not read, whatever the second is.
  pub equal_first_unread : {r : Refusal} → Unread b r → equal_bytes b c ≡ Q.Refused r
  unfolding equal_bytes
  equal_first_unread e = call_unread b e Q.Refused equal_second

  -- And where its first table reads and the second does not.
  pub equal_second_unread : {t : Table} {r : Refusal} → Reads b t → Unread c r → equal_bytes b c ≡ Q.Refused r
  unfolding equal_bytes
  equal_second_unread {t} e f = call_by_bytes b e Q.Refused equal_second ∙ call_unread c f Q.Refused (equal_call t)

-- ---- Terms as bytes

module _ (side : Side) (t : Table) (w : Written) where
  -- the call on the tokens of the bytes
  abbrev on_tokens : Answered
  on_tokens = written_call side t (written_tokens w)

  -- It is the equation on the tokens, or it is refused, with the table as given.
  abbrev pub TokensOrRefused : Type 0
  TokensOrRefused = (value_call side t w ≡ on_tokens) ⊎ ((r : Refusal) × (value_call side t w ≡ refuses r t))

  module _ (good : GoodTable t) where
    -- An equation with its terms as bytes, on a good table, is one of these.
    pub tokens_or_refused : TokensOrRefused
    tokens_or_refused = go (check_all_bytes w) refl
      where
        go : (a : Answer) → check_all_bytes w ≡ a → TokensOrRefused
        go Accepted e = inl (bytes_passed side t w e)
        go (Refused r) e = inr (r, sym (bytes_refused side t w (good_passes t good) e))

    -- An accepted equation with its terms as bytes is the equation on the tokens.
    pub bytes_accepted : (value_call side t w).answer ≡ Accepted → value_call side t w ≡ on_tokens
    bytes_accepted a = go tokens_or_refused
      where
        go : TokensOrRefused → value_call side t w ≡ on_tokens
        go (inl e) = e
        go (inr (r, e)) =
            let clash : Refused r ≡ Accepted = ap (λ (y : Answered). y.answer) (sym e) ∙ a in
            absurd (let z : ◌≡◌ {A = ℕ} 0 1 = cc in omega arith)
