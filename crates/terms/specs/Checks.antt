-- The checks of an equation handed over by itself (01, "Terms" and "Refusals"; 02, request 2).
use Rattle.std.specs.Prelude.{Bool, true, not, ◌&&◌, ◌||◌, cond, List, [], ◌∷◌, ℕ, ◌+◌, ◌-◌, ◌^◌, leb, length, Some, None}
use Rattle.std.specs.Prelude.{Result, Ok, Err}
use Rattle.std.specs.Prelude as P
use Rattle.std.proofs.Math.Option.{Option, some, none}
use Rattle.std.specs.Int.Bits.{bit_or}
use Rattle.model.specs.Terms.{Term, var, variables}
use Rattle.model.specs.Tokens.{is_variable, named, Read, read_row, read_within, read_term, whole_term}
use Rattle.model.specs.Walk.{Sides}
use Rattle.words.specs.Words.{set_word}
use Rattle.tables.specs.declared.Refusal.{Refusal}
use Rattle.tables.specs.declared.Refusal.TheVariants as R
use Rattle.tables.specs.Refusals.{Answer}
use Rattle.tables.specs.Refusals as A

-- ---- The reader

-- How many tokens were used.
unfoldable pub used : {A : Type 0} → Option (Read A) → P.Option ℕ
used none = None
used (some r) = Some r.used

-- By the term at the front, where one is read.
unfoldable pub parsed : ℕ → List ℕ → P.Option ℕ
parsed l ts = used (read_term l ts)

-- By a row of so many terms at the front, where one is read.
unfoldable pub parsed_row : ℕ → ℕ → List ℕ → P.Option ℕ
parsed_row l count ts = used (read_row (read_within (length ts) l) count ts)

-- ---- The tokens

-- A head, or a variable from 1 to l.
unfoldable pub token_named : ℕ → ℕ → Bool
token_named l t = not (is_variable t) || named l t

-- No variable among the tokens is other than 1 to l.
unfoldable pub all_named : ℕ → List ℕ → Bool
all_named l [] = true
all_named l (t ∷ ts) = token_named l t && all_named l ts

-- The word of the variables among the tokens, bit i - 1 for Xi.
unfoldable pub word_of : List ℕ → ℕ
word_of [] = 0
word_of (t ∷ ts) = cond (is_variable t) (bit_or (2 ^ (t - 1)) (word_of ts)) (word_of ts)

-- ---- The checks

-- What was read, or the refusal.
pub data Outcome (A : Type 0) : Type 0 where
  reads : A → Outcome A
  refuses : Refusal → Outcome A

-- Where something was read it goes on with that, else it stops with what is made of the refusal.
unfoldable pub if_read : {A B : Type 0} → Outcome A → (Refusal → B) → (A → B) → B
if_read (reads a) stop next = next a
if_read (refuses r) stop next = stop r

-- The one whole term, or 6.
unfoldable pub term_or_6 : Option Term → Outcome Term
term_or_6 (some t) = reads t
term_or_6 none = refuses R.Term

-- One whole term: 5 for a variable not 1 to l anywhere among the tokens, then 6.
unfoldable pub check_term : ℕ → List ℕ → Outcome Term
check_term l ts = cond (all_named l ts) (term_or_6 (whole_term l ts)) (refuses R.Name)

-- The most tokens of an equation.
abbrev pub most_tokens : ℕ
most_tokens = 1024

-- The term of an equation: more than 1024 tokens (7), the left variable (5), tokens in order (5), whole term (6).
unfoldable pub check_equation : ℕ → ℕ → List ℕ → Outcome Term
check_equation l x ts =
    cond (leb (length ts) most_tokens) (cond (named l x) (check_term l ts) (refuses R.Name)) (refuses R.Long)

-- The terms of an equation of two: more than 1024 tokens together (7), then the left side (5, 6), then the right (5, 6).
unfoldable pub check_sides : ℕ → List ℕ → List ℕ → Outcome Sides
check_sides l ss ts =
    cond (leb (length ss + length ts) most_tokens)
    (if_read (check_term l ss) refuses (λ s. if_read (check_term l ts) refuses (λ t. reads (record { left = s; right = t }))))
    (refuses R.Long)

-- An equation as it is written, in tokens or in bytes: a variable and a term, or two terms.
pub data Written : Type 0 where
  one_term : ℕ → List ℕ → Written
  two_terms : List ℕ → List ℕ → Written

-- The two sides of an equation that is written in tokens; a variable on the left is a term too.
unfoldable pub check_written : ℕ → Written → Outcome Sides
check_written l (one_term x ts) = if_read (check_equation l x ts) refuses (λ t. reads (record { left = var x; right = t }))
check_written l (two_terms ss ts) = check_sides l ss ts

-- ---- What the code answers

-- Only whether the checks are passed.
unfoldable pub check_answer : {A : Type 0} → Outcome A → Answer
check_answer (reads a) = A.Accepted
check_answer (refuses r) = A.Refused r

-- What the checks of a term say: the set of its variables, or the refusal. In the code that is a `Result<u32, Refusal>`.
abbrev pub Checked : Type 0
Checked = Result ℕ Refusal

pattern abbrev pub Variables : ℕ → Checked
Variables w = Ok w

pattern abbrev pub Refused : Refusal → Checked
Refused r = Err r

-- Of a term that was read, the word of its variables.
unfoldable pub checked : ℕ → Outcome Term → Checked
checked l (reads t) = Variables (set_word (variables l t))
checked l (refuses r) = Refused r
