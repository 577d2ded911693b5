-- The two written forms of equations. With variables on the left (01, "Written form" and "Refusals"): sizes e and m, e left
-- variables, e token counts, m tokens. With terms on the left (02, request 2): sizes e and m, e left counts, e right counts,
-- m tokens, left side then right side of each equation. So both have two arrays of e numbers, and differ in what the first
-- says.
use Rattle.std.specs.Prelude.{◌≡◌, ◌&&◌, cond, List, [], ◌∷◌, ℕ, ◌+◌, ◌*◌, ◌/◌, ◌≤◌, ◌<◌, leb, eqb, length, take, drop}
use Rattle.tables.specs.declared.Refusal.TheVariants as R
use Rattle.tables.specs.Refusals.{Answer}
use Rattle.tables.specs.Refusals.{Accepted, Refused}
use Rattle.terms.specs.Checks.{if_read, Written, one_term, two_terms, check_written, most_tokens}
use Rattle.codec.specs.Numbers.{number_at, numbers, sum}
use Rattle.equation_forms.specs.declared.Cursor.{Cursor}
use Rattle.equation_forms.specs.declared.Left.{Left}
use Rattle.equation_forms.specs.declared.Left.TheVariants.{Variable, Term}
use Rattle.forms.specs.TableForms.{sized, first_size, second_size}

-- At most 64 equations.
abbrev pub most_equations : ℕ
most_equations = 64

-- The length of the form of e equations with m tokens.
abbrev pub equations_length : ℕ → ℕ → ℕ
equations_length e m = 4 + 4 * e + 2 * m

-- The first array: e left variables, or e left counts.
abbrev pub lefts : ℕ → List ℕ → List ℕ
lefts e b = numbers e (drop 4 b)

-- The second array: e token counts, of the right sides.
abbrev pub counts : ℕ → List ℕ → List ℕ
counts e b = numbers e (drop (4 + 2 * e) b)

-- The m tokens of e equations.
abbrev pub all_tokens : ℕ → ℕ → List ℕ → List ℕ
all_tokens e m b = numbers m (drop (4 + 4 * e) b)

-- How many tokens an equation has, by its numbers in the two arrays.
abbrev pub span : Left → ℕ → ℕ → ℕ
span Variable x c = c
span Term a c = a + c

-- How many each of the equations has.
unfoldable pub spans : Left → List ℕ → List ℕ → List ℕ
spans f [] cs = []
spans f (x ∷ xs) [] = []
spans f (x ∷ xs) (c ∷ cs) = span f x c ∷ spans f xs cs

-- The equation that is written, by its numbers in the two arrays and its tokens, which begin the row.
abbrev pub equation_of : Left → ℕ → ℕ → List ℕ → Written
equation_of Variable x c ts = one_term x (take c ts)
equation_of Term a c ts = two_terms (take a ts) (take c (drop a ts))

-- The tokens given out to the equations in order.
unfoldable pub share_out : Left → List ℕ → List ℕ → List ℕ → List Written
share_out f [] cs ts = []
share_out f (x ∷ xs) [] ts = []
share_out f (x ∷ xs) (c ∷ cs) ts = equation_of f x c ts ∷ share_out f xs cs (drop (span f x c) ts)

-- The e equations with m tokens that are written.
unfoldable pub equations_of : Left → ℕ → ℕ → List ℕ → List Written
equations_of f e m b = share_out f (lefts e b) (counts e b) (all_tokens e m b)

-- The equations of a form, by its sizes.
abbrev pub equations_in : Left → List ℕ → List Written
equations_in f b = equations_of f (first_size b) (second_size b) b

-- ---- The checks

-- Equation by equation: the first that is refused ends it. One with a variable on the left: the variable (5), tokens in
-- order (5), whole term (6); of two terms: the left side (5, 6), then the right (5, 6).
unfoldable pub check_each : ℕ → List Written → Answer
check_each l [] = Accepted
check_each l (w ∷ ws) = if_read (check_written l w) Refused (λ s. check_each l ws)

-- How many tokens the e equations have together: the true sum of the counts, of both arrays where both are counts.
abbrev pub tokens_counted : Left → ℕ → List ℕ → ℕ
tokens_counted f e b = sum (spans f (lefts e b) (counts e b))

-- The checks of e equations with m tokens: 7, length (1), sum (6), then equation by equation.
unfoldable pub check_sized : Left → ℕ → ℕ → ℕ → List ℕ → Answer
check_sized f l e m b =
    cond (leb e most_equations && leb m most_tokens)
    (cond (eqb (length b) (equations_length e m))
    (cond (eqb (tokens_counted f e b) m) (check_each l (equations_of f e m b)) (Refused R.Term))
    (Refused R.Torn))
    (Refused R.Long)

-- The checks of equations about l variables: sizes present (1), then as they say.
unfoldable pub check_equations : Left → ℕ → List ℕ → Answer
check_equations f l b = cond (sized b) (check_sized f l (first_size b) (second_size b) b) (Refused R.Torn)

-- ---- The walk

-- What the checks of the sizes ensure of a form, before any of its equations is looked at.
pub record GoodSizes (f : Left) (b : List ℕ) : Type 0 where
  pub few : first_size b ≤ most_equations
  pub short : second_size b ≤ most_tokens
  pub long : length b ≡ equations_length (first_size b) (second_size b)
  pub whole : tokens_counted f (first_size b) b ≡ second_size b

-- The place before the first equation.
abbrev pub start : List ℕ → Cursor
start b = record { e = first_size b; k = 0; at = 0 }

-- There is an equation at the place.
abbrev pub Here : Cursor → Type 0
Here c = c.k < c.e

-- The place is after the last one.
abbrev pub Past : Cursor → Type 0
Past c = c.e ≤ c.k

-- The number of the equation at the place in the first array: its left variable, or the number of its left tokens.
abbrev pub left_at : Cursor → List ℕ → ℕ
left_at c b = number_at b (4 + 2 * c.k)

-- Its number in the second array: the number of its right tokens.
abbrev pub count_at : Cursor → List ℕ → ℕ
count_at c b = number_at b (4 + 2 * c.e + 2 * c.k)

-- The number of all its tokens.
abbrev pub span_at : Left → Cursor → List ℕ → ℕ
span_at f c b = span f (left_at c b) (count_at c b)

-- The bytes of its tokens.
abbrev pub tokens_at : Left → Cursor → List ℕ → List ℕ
tokens_at f c b = take (2 * span_at f c b) (drop (4 + 4 * c.e + 2 * c.at) b)

-- The equation itself.
abbrev pub this : Left → Cursor → List ℕ → Written
this f c b = equation_of f (left_at c b) (count_at c b) (numbers (length (tokens_at f c b) / 2) (tokens_at f c b))

-- The place after it.
abbrev pub after : Left → Cursor → List ℕ → Cursor
after f c b = record { e = c.e; k = c.k + 1; at = c.at + span_at f c b }

-- The equations from the place on.
unfoldable pub rest : Left → Cursor → List ℕ → List Written
rest f c b =
    share_out f (drop c.k (lefts c.e b)) (drop c.k (counts c.e b))
    (drop c.at (all_tokens c.e (second_size b) b))

-- The place is one of a form whose sizes are good: the tokens before it and those counted from it on are all the tokens.
pub record On (f : Left) (c : Cursor) (b : List ℕ) : Type 0 where
  pub sizes : GoodSizes f b
  pub all : c.e ≡ first_size b
  pub within : c.k ≤ c.e
  pub tokens : c.at + sum (spans f (drop c.k (lefts c.e b)) (drop c.k (counts c.e b))) ≡ second_size b
