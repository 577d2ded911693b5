-- What a call on bytes is after each of its checks: refused, or the call on what was read. Assumes nothing.
use mathlib.Core.Path.{◌≡◌, refl, sym, ap, subst, ◌∙◌}
use mathlib.Core.Bool.{cond}
use mathlib.Core.List.{List, [], ◌∷◌}
use Prim.Native.Nat.{ℕ, ◌+◌, ◌/◌, ◌%◌, ◌≤◌}
use native.Mathlib.Omega.{arith}
use borrow.Author.Tests.{leb-true}
use lib.Dec.{leb, eqb}
use lib.ListN.{length, take}
use lib.Seq.{take_at}
use Rattle.std.specs.Prelude.{Ok, Err}
use Rattle.model.specs.Tables.{Side}
use Rattle.tables.specs.declared.Table.{Table}
use Rattle.tables.specs.declared.Refusal.{Refusal}
use Rattle.tables.specs.declared.Refusal.TheVariants as R
use Rattle.tables.specs.Refusals.{Answer}
use Rattle.tables.specs.Refusals.{Accepted, Refused}
use Rattle.tables.specs.declared.Answered.{Answered}
use Rattle.tables.specs.Refusals.{if_accepted, member, one_of, Numbered}
use Rattle.tables.specs.Values.{refuses, check_table, GoodTable}
use Rattle.tables.proofs.Numbers.{refused_numbered, accepted_numbered, test_numbered}
use Rattle.lists.specs.Comings as Came
use Rattle.lists.specs.Comings.{Comes, turned}
use Rattle.terms.specs.Checks.{most_tokens, Written, one_term, two_terms}
use Rattle.operations.specs.Operations.{equation_call, unify_call, written_call}
use Rattle.reasons.specs.Verdicts as J
use Rattle.reasons.specs.Verdicts.{reason_call}
use Rattle.codec.specs.Numbers.{numbers, with_zeros}
use Rattle.codec.proofs.Laws.{length_words}
use Rattle.forms.specs.declared.Extent.TheVariants.{Whole}
use Rattle.forms.specs.TableForms.{read_table}
use Rattle.forms.specs.declared.Layout.TheVariants.{Plain}
use Rattle.forms.proofs.Tests.{held}
use Rattle.forms.proofs.Reading.{read_good}
use Rattle.byte_calls.specs.ByteCalls.{check_bytes, check_both_bytes, tokens_of, term_call, terms_call, written_tokens}
use Rattle.byte_calls.specs.ByteCalls.{value_call, term_reason, after_read}

-- ---- After a table was read

module _ {A : Type 0} (b : List ℕ) {a : Answered} (is : a ≡ read_table Whole b) (stop : Refusal → A) (next : Table → A) where
  answer_read : {x : Answer} → a.answer ≡ x → (read_table Whole b).answer ≡ x
  answer_read e = ap (λ (y : Answered). y.answer) (sym is) ∙ e

  pub read_refused : {r : Refusal} → a.answer ≡ Refused r → stop r ≡ after_read b stop next
  unfolding after_read if_accepted
  read_refused e = rw (answer_read e)

  pub read_accepted : a.answer ≡ Accepted → next a.table ≡ after_read b stop next
  unfolding after_read if_accepted
  read_accepted e = rw (answer_read e) (ap (λ (y : Answered). next y.table) is)

-- What the reader answers is what comes after it, by its answer.
module _ {A : Type 0} (stop : Refusal → A) where
  stops_by : (a : Answer) (t : Table) {r : Refusal} (y : A) → if_accepted a Err (Ok t) ≡ Err r → stop r ≡ if_accepted a stop y
  unfolding if_accepted
  stops_by Accepted t y e = absurd (let z : ◌≡◌ {A = ℕ} 0 1 = cc in omega arith)
  stops_by (Refused s) t {r} y e = let same : s ≡ r = cc in ap stop (sym same)

  goes_on_by : (a : Answer) (t : Table) {u : Table} (next : Table → A) → if_accepted a Err (Ok t) ≡ Ok u
      → next u ≡ if_accepted a stop (next t)
  unfolding if_accepted
  goes_on_by Accepted t {u} next e = let same : t ≡ u = cc in ap next (sym same)
  goes_on_by (Refused s) t next e = absurd (let z : ◌≡◌ {A = ℕ} 0 1 = cc in omega arith)

-- What the reader answers, as one value.
module _ (b : List ℕ) {a : Answered} (is : a ≡ read_table Whole b) where
  pub whole_refused : {r : Refusal} → a.answer ≡ Refused r → Err r ≡ after_read b Err Ok
  unfolding after_read if_accepted
  whole_refused e = rw (sym is, e)

  pub whole_read : a.answer ≡ Accepted → Ok a.table ≡ after_read b Err Ok
  unfolding after_read if_accepted
  whole_read e = rw (sym is, e)

-- What comes after the table, where it was read as one value.
module _ {A : Type 0} (b : List ℕ) (stop : Refusal → A) (next : Table → A) where
  pub whole_stops : {r : Refusal} → Err r ≡ after_read b Err Ok → stop r ≡ after_read b stop next
  unfolding after_read
  whole_stops e = stops_by stop _ _ _ (sym e)

  pub whole_goes_on : {t : Table} → Ok t ≡ after_read b Err Ok → next t ≡ after_read b stop next
  unfolding after_read
  whole_goes_on e = goes_on_by stop _ _ next (sym e)

accepted_by : (a : Answer) (t : Table) {u : Table} → if_accepted a Err (Ok t) ≡ Ok u → (a ≡ Accepted) × (t ≡ u)
unfolding if_accepted
accepted_by Accepted t {u} e = let same : t ≡ u = cc in (refl, same)
accepted_by (Refused s) t e = absurd (let z : ◌≡◌ {A = ℕ} 0 1 = cc in omega arith)

-- The table that was read is good.
pub read_table_good : (b : List ℕ) {t : Table} → Ok t ≡ after_read b Err Ok → GoodTable t
unfolding after_read
read_table_good b {t} e =
    let p = accepted_by (read_table Whole b).answer (read_table Whole b).table (sym e) in
    (read_good Plain Whole b t (λ i. record { answer = p.0 i; table = p.1 i })).0

-- ---- An equation as bytes

-- How the bytes of an equation are answered before its tokens are looked at.
unfoldable pub check_all_bytes : Written → Answer
check_all_bytes (one_term x b) = check_bytes b
check_all_bytes (two_terms b c) = check_both_bytes b c

-- They are refused by 7 or 1.
pub bytes_numbers : (w : Written) → Numbered (7 ∷ 1 ∷ []) (check_all_bytes w)
unfolding check_all_bytes check_bytes check_both_bytes one_of member
bytes_numbers (one_term x b) =
    let ns : List ℕ = 7 ∷ 1 ∷ [] in
    test_numbered ns (leb (length b / 2) most_tokens) _ _
    (test_numbered ns (eqb (length b % 2) 0) _ _ (accepted_numbered ns) (refused_numbered ns R.Torn tt))
    (refused_numbered ns R.Long tt)
bytes_numbers (two_terms b c) =
    let ns : List ℕ = 7 ∷ 1 ∷ [] in
    test_numbered ns (leb (length b / 2 + length c / 2) most_tokens) _ _
    (test_numbered ns (eqb (length b % 2) 0) _ _
    (test_numbered ns (eqb (length c % 2) 0) _ _ (accepted_numbered ns) (refused_numbered ns R.Torn tt))
    (refused_numbered ns R.Torn tt))
    (refused_numbered ns R.Long tt)

-- a table is checked once
checked_once : (y : Answer) (stop : Refusal → Answered) (a : Answered)
    → if_accepted y stop (if_accepted y stop a) ≡ if_accepted y stop a
unfolding if_accepted
checked_once Accepted stop a = refl
checked_once (Refused r) stop a = refl

-- An equation whose bytes pass is the equation on their tokens.
pub bytes_passed : (side : Side) (t : Table) (w : Written) → check_all_bytes w ≡ Accepted
    → value_call side t w ≡ written_call side t (written_tokens w)
unfolding check_all_bytes value_call term_call terms_call written_call written_tokens equation_call unify_call if_accepted
bytes_passed side t (one_term x b) e = rw e (checked_once (check_table t) (λ r. refuses r t) _)
bytes_passed side t (two_terms b c) e = rw e (checked_once (check_table t) (λ r. refuses r t) _)

-- The same of each kind.
pub term_passed : (side : Side) (t : Table) (x : ℕ) (term : List ℕ) → check_bytes term ≡ Accepted
    → term_call side t x term ≡ equation_call side t x (tokens_of term)
unfolding check_all_bytes value_call written_call written_tokens
term_passed side t x term e = bytes_passed side t (one_term x term) e

pub terms_passed : (side : Side) (t : Table) (left right : List ℕ) → check_both_bytes left right ≡ Accepted
    → terms_call side t left right ≡ unify_call side t (tokens_of left) (tokens_of right)
unfolding check_all_bytes value_call written_call written_tokens
terms_passed side t left right e = bytes_passed side t (two_terms left right) e

-- One whose bytes do not pass is refused, on a table that passes its own check.
pub bytes_refused : (side : Side) (t : Table) (w : Written) {r : Refusal} → check_table t ≡ Accepted
    → check_all_bytes w ≡ Refused r → refuses r t ≡ value_call side t w
unfolding check_all_bytes value_call term_call terms_call if_accepted
bytes_refused side t (one_term x b) good e = rw (good, e)
bytes_refused side t (two_terms b c) good e = rw (good, e)

-- ---- A term as bytes, in the code

-- an answer that refuses came as its refusal
pub turned_as : {l : ℕ} {t : Table} {list : List ℕ} {r : Refusal} {a : Answered} → refuses r t ≡ a
    → Comes l t list (Came.Refused r) a
turned_as {l} {t} {list} {r} e = subst (Comes l t list (Came.Refused r)) e (turned r)

-- so many tokens, where the first test is passed
few_tokens : (n : ℕ) (a : Answer) → cond (leb n most_tokens) a (Refused R.Long) ≡ Accepted → n ≤ most_tokens
few_tokens n a e =
    let clash : ◌≡◌ {A = Answer} (Refused R.Long) Accepted → ⊥ = λ f. absurd (let z : ◌≡◌ {A = ℕ} 0 1 = cc in omega arith) in
    leb-true n most_tokens (held (leb n most_tokens) a _ Accepted e clash).0

pub bytes_few : (b : List ℕ) → check_bytes b ≡ Accepted → length b / 2 ≤ most_tokens
unfolding check_bytes
bytes_few b e = few_tokens (length b / 2) _ e

-- the code takes the tokens from the array, of any room k, that they were read into
pub tokens_taken : (k : ℕ) (b : List ℕ) {row : List ℕ} → row ≡ with_zeros k (numbers (length b / 2) b)
    → take (length b / 2) row ≡ tokens_of b
unfolding tokens_of with_zeros
tokens_taken k b filled =
    rw filled (take_at (numbers (length b / 2) b) _ (length b / 2) (length_words 2 (length b / 2) b))

module _ (side : Side) (t : Table) (x : ℕ) (b : List ℕ) where
  pub term_table_refused : {r : Refusal} → check_table t ≡ Refused r → refuses r t ≡ term_call side t x b
  unfolding term_call if_accepted
  term_table_refused e = rw e

  pub term_bytes_refused : {r : Refusal} → check_table t ≡ Accepted → check_bytes b ≡ Refused r
      → refuses r t ≡ term_call side t x b
  unfolding check_all_bytes value_call
  term_bytes_refused good e = bytes_refused side t (one_term x b) good e

-- ---- Two terms as bytes, in the code

pub both_bytes_few : (b c : List ℕ) → check_both_bytes b c ≡ Accepted → length b / 2 + length c / 2 ≤ most_tokens
unfolding check_both_bytes
both_bytes_few b c e = few_tokens (length b / 2 + length c / 2) _ e

module _ (side : Side) (t : Table) (b c : List ℕ) where
  pub terms_table_refused : {r : Refusal} → check_table t ≡ Refused r → refuses r t ≡ terms_call side t b c
  unfolding terms_call if_accepted
  terms_table_refused e = rw e

  pub terms_bytes_refused : {r : Refusal} → check_table t ≡ Accepted → check_both_bytes b c ≡ Refused r
      → refuses r t ≡ terms_call side t b c
  unfolding check_all_bytes value_call
  terms_bytes_refused good e = bytes_refused side t (two_terms b c) good e

-- ---- A group after an equation whose term is bytes, in the code

module _ (t : Table) (x : ℕ) (b : List ℕ) (s : ℕ) where
  pub reason_bytes_refused : {r : Refusal} → check_bytes b ≡ Refused r → J.Refused r ≡ term_reason t x b s
  unfolding term_reason if_accepted
  reason_bytes_refused e = rw e

  pub reason_bytes_accepted : check_bytes b ≡ Accepted → {row : List ℕ}
      → row ≡ with_zeros most_tokens (numbers (length b / 2) b)
      → reason_call t x (take (length b / 2) row) s ≡ term_reason t x b s
  unfolding term_reason if_accepted
  reason_bytes_accepted e filled = rw e (ap (λ (ts : List ℕ). reason_call t x ts s) (tokens_taken most_tokens b filled))
