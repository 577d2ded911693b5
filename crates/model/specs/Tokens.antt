-- A term as a row of 16-bit tokens, and its reader (01, "Terms").
use Rattle.std.specs.Prelude.{Bool, ◌&&◌, cond, List, [], ◌∷◌, ◌++◌, ℕ, zero, suc, ◌+◌, ◌*◌, ◌/◌, ◌%◌, ◌<◌, T, ltb, leb, eqb, length, drop}
use Rattle.std.proofs.Math.Option.{Option, some, none}
use Rattle.model.specs.Growth.{◌>>=◌}
use Rattle.model.specs.Terms.{Term, Terms, var, head, nil, cons, arity}

-- Every token has 16 bits.
unfoldable pub Tokens : List ℕ → Type 0
Tokens [] = Unit {0}
Tokens (t ∷ ts) = (t < 65536) × Tokens ts

-- The first token with the top bit 1.
abbrev pub first_head : ℕ
first_head = 32768

-- Top bit 0: a variable.
abbrev pub is_variable : ℕ → Bool
is_variable t = ltb t first_head

-- The variable number is 1 to l.
abbrev pub named : ℕ → ℕ → Bool
named l t = ltb 0 t && leb t l

-- How many arities bits 0 to 3 can say.
abbrev pub arities : ℕ
arities = 16

-- How many symbols bits 4 to 14 can say.
abbrev pub symbols : ℕ
symbols = 2048

-- Top bit 1: a head, arity in bits 0 to 3.
abbrev pub arity_of : ℕ → ℕ
arity_of t = t % arities

-- And its symbol in bits 4 to 14.
abbrev pub symbol_of : ℕ → ℕ
symbol_of t = t / arities % symbols

-- A term can be written as tokens: variable numbers from 1 to l, symbols of 11 bits, at most 15 arguments.
unfoldable mutual
  pub Writable : ℕ → Term → Type 0
  Writable l (var n) = (n < first_head) × T (named l n)
  Writable l (head f ts) = (f < symbols) × (arity ts < arities) × WritableRow l ts

  pub WritableRow : ℕ → Terms → Type 0
  WritableRow l nil = Unit {0}
  WritableRow l (cons t ts) = Writable l t × WritableRow l ts

-- The tokens of a term, of a row of terms.
unfoldable mutual
  pub tokens : Term → List ℕ
  tokens (var n) = n ∷ []
  tokens (head f ts) = (first_head + f * arities + arity ts) ∷ tokens_row ts

  pub tokens_row : Terms → List ℕ
  tokens_row nil = []
  tokens_row (cons t ts) = tokens t ++ tokens_row ts

-- What was read, and how many tokens it used.
pub record Read (A : Type 0) : Type 0 where
  pub value : A
  pub used : ℕ

-- A row is so many terms, one after another: after each the reader goes on with the rest of the tokens.
unfoldable pub read_row : (List ℕ → Option (Read Term)) → ℕ → List ℕ → Option (Read Terms)
read_row read zero ts = some (record { value = nil; used = 0 })
read_row read (suc k) ts = do
  t ← read ts
  r ← read_row read k (drop t.used ts)
  some (record { value = cons t.value r.value; used = t.used + r.used })

-- A head is followed by its row of arguments.
unfoldable pub under_head : ℕ → Option (Read Terms) → Option (Read Term)
under_head f row = do
  r ← row
  some (record { value = head f r.value; used = suc r.used })

-- The term at the front of the tokens, at most d heads deep: a variable token alone, or a head with its arguments.
unfoldable pub read_within : ℕ → ℕ → List ℕ → Option (Read Term)
read_within zero l ts = none
read_within (suc d) l [] = none
read_within (suc d) l (t ∷ ts) =
    cond (is_variable t)
    (cond (named l t) (some (record { value = var t; used = 1 })) none)
    (under_head (symbol_of t) (read_row (read_within d l) (arity_of t) ts))

-- The term at the front of the tokens: no term is deeper than its tokens are many.
unfoldable pub read_term : ℕ → List ℕ → Option (Read Term)
read_term l ts = read_within (length ts) l ts

-- The one whole term that the tokens are.
unfoldable pub whole_term : ℕ → List ℕ → Option Term
whole_term l ts = do
  t ← read_term l ts
  cond (eqb t.used (length ts)) (some t.value) none
