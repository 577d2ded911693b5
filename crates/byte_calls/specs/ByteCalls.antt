-- The calls on byte buffers (01, "Written form" and "Refusals"): the first table's checks, the second's, the equation's or the
-- question's own, then 8.
use Rattle.std.specs.Prelude.{cond, List, ℕ, ◌+◌, ◌/◌, ◌%◌, leb, eqb, length}
use Rattle.model.specs.Tables.{Side}
use Rattle.tables.specs.declared.Table.{Table}
use Rattle.tables.specs.declared.Refusal.{Refusal}
use Rattle.tables.specs.declared.Refusal.TheVariants as R
use Rattle.tables.specs.Refusals.{Answer}
use Rattle.tables.specs.Refusals.{Accepted, Refused}
use Rattle.tables.specs.declared.Answered.{Answered}
use Rattle.tables.specs.Refusals.{if_accepted}
use Rattle.tables.specs.Values.{zero_table, refuses, check_table}
use Rattle.terms.specs.Checks.{most_tokens, Written, one_term, two_terms}
use Rattle.operations.specs.Operations.{equation_call, unify_call, join_call, projection_call, change_side_call}
use Rattle.questions.specs.Replies.{Reply}
use Rattle.questions.specs.Replies as Q
use Rattle.questions.specs.Replies.{equal_call, ground_call, independent_call}
use Rattle.reasons.specs.Verdicts.{Verdict}
use Rattle.reasons.specs.Verdicts as J
use Rattle.reasons.specs.Verdicts.{reason_call}
use Rattle.codec.specs.Numbers.{numbers}
use Rattle.forms.specs.declared.Extent.TheVariants.{Whole}
use Rattle.forms.specs.TableForms.{read_table}

-- ---- A term as bytes

-- 7 where half the length, rounded down, is above 1024; 1 where the length is odd.
unfoldable pub check_bytes : List ℕ → Answer
check_bytes b =
    cond (leb (length b / 2) most_tokens) (cond (eqb (length b % 2) 0) Accepted (Refused R.Torn)) (Refused R.Long)

-- The tokens that are written.
unfoldable pub tokens_of : List ℕ → List ℕ
tokens_of b = numbers (length b / 2) b

-- An equation with its term as bytes, on a table value: 2, 3, 4 of the table; 7, 1 of the bytes; then as on tokens.
unfoldable pub term_call : Side → Table → ℕ → List ℕ → Answered
term_call side t x b =
    if_accepted (check_table t) (λ r. refuses r t) (if_accepted (check_bytes b) (λ r. refuses r t)
    (equation_call side t x (tokens_of b)))

-- The group s after an equation with its term as bytes, on a table value: 7, 1 of the bytes; then as on tokens.
unfoldable pub term_reason : Table → ℕ → List ℕ → ℕ → Verdict
term_reason t x b s = if_accepted (check_bytes b) J.Refused (reason_call t x (tokens_of b) s)

-- ---- Two terms as bytes

-- 7 where the halves of the two lengths, each rounded down, are together above 1024; 1 where the left length is odd, then the
-- right.
unfoldable pub check_both_bytes : List ℕ → List ℕ → Answer
check_both_bytes b c =
    cond (leb (length b / 2 + length c / 2) most_tokens)
    (cond (eqb (length b % 2) 0) (cond (eqb (length c % 2) 0) Accepted (Refused R.Torn)) (Refused R.Torn))
    (Refused R.Long)

-- Two terms as bytes set equal, on a table value: 2, 3, 4 of the table; 7, 1, 1 of the bytes; then as on tokens.
unfoldable pub terms_call : Side → Table → List ℕ → List ℕ → Answered
terms_call side t b c =
    if_accepted (check_table t) (λ r. refuses r t) (if_accepted (check_both_bytes b c) (λ r. refuses r t)
    (unify_call side t (tokens_of b) (tokens_of c)))

-- ---- Either kind

-- An equation that is written in bytes, in tokens.
unfoldable pub written_tokens : Written → Written
written_tokens (one_term x b) = one_term x (tokens_of b)
written_tokens (two_terms b c) = two_terms (tokens_of b) (tokens_of c)

-- The call on an equation of either kind, written in bytes, on a table value.
unfoldable pub value_call : Side → Table → Written → Answered
value_call side t (one_term x b) = term_call side t x b
value_call side t (two_terms b c) = terms_call side t b c

-- ---- Tables as bytes

-- Where the bytes read as a table it goes on with that, else it stops with what is made of the refusal.
unfoldable pub after_read : {A : Type 0} → List ℕ → (Refusal → A) → (Table → A) → A
after_read b stop next = if_accepted (read_table Whole b).answer stop (next (read_table Whole b).table)

-- Refused where no table value came in.
abbrev pub refuses_zero : Refusal → Answered
refuses_zero r = refuses r zero_table

-- Change of side.
unfoldable pub change_side_bytes : Side → List ℕ → Answered
change_side_bytes side b = after_read b refuses_zero (change_side_call side)

-- One equation.
unfoldable pub equation_bytes : Side → List ℕ → ℕ → List ℕ → Answered
equation_bytes side b x term = after_read b refuses_zero (λ t. term_call side t x term)

-- Two terms set equal.
unfoldable pub unify_bytes : Side → List ℕ → List ℕ → List ℕ → Answered
unify_bytes side b left right = after_read b refuses_zero (λ t. terms_call side t left right)

-- Either kind.
unfoldable pub written_bytes : Side → List ℕ → Written → Answered
written_bytes side b (one_term x term) = equation_bytes side b x term
written_bytes side b (two_terms left right) = unify_bytes side b left right

-- Join.
unfoldable pub join_bytes : Side → List ℕ → List ℕ → Answered
join_bytes side b c = after_read b refuses_zero (λ t. after_read c refuses_zero (join_call side t))

-- Projection.
unfoldable pub projection_bytes : Side → List ℕ → ℕ → Answered
projection_bytes side b keep = after_read b refuses_zero (λ t. projection_call side t keep)

-- Are two tables equal in groups?
unfoldable pub equal_bytes : List ℕ → List ℕ → Reply
equal_bytes b c = after_read b Q.Refused (λ t. after_read c Q.Refused (equal_call t))

-- Is a variable ground?
unfoldable pub ground_bytes : Side → List ℕ → ℕ → Reply
ground_bytes side b x = after_read b Q.Refused (λ t. ground_call side t x)

-- Are two sets of variables independent?
unfoldable pub independent_bytes : Side → List ℕ → ℕ → ℕ → Reply
independent_bytes side b first second = after_read b Q.Refused (λ t. independent_call side t first second)

-- Is a group there after an equation, and why?
unfoldable pub reason_bytes : List ℕ → ℕ → List ℕ → ℕ → Verdict
reason_bytes b x term s = after_read b J.Refused (λ t. term_reason t x term s)
