-- Two rows of tokens with a cursor in each, and what the walk finds from there on (02, request 2).
use Rattle.std.specs.Prelude.{◌≡◌, Bool, true, false, List, [], ◌∷◌, ◌++◌, ℕ, ◌+◌, ◌≤◌, ◌<◌, length, drop}
use Rattle.std.proofs.Math.Option.{some, none}
use Rattle.model.specs.Growth.{◌>>=◌}
use Rattle.model.specs.Terms.{Terms, arity}
use Rattle.model.specs.Tokens.{WritableRow, tokens_row}
use Rattle.model.specs.Equations.{Equation}
use Rattle.model.specs.Walk.{Walked, walk_row}
use Rattle.terms.specs.declared.Equation as E
use Rattle.terms.specs.Checks.{word_of}
use Rattle.terms.specs.EquationKinds.{Told}
use Rattle.walks.specs.declared.Found.{Found}
use Rattle.walks.specs.declared.Found.TheVariants as F

-- The k terms from i on, about at most 32 variables, end at e, and w is the word of the variables among their tokens.
pub record Across (l : ℕ) (s : List ℕ) (i k e w : ℕ) : Type 0 where
  pub few : l ≤ 32
  pub terms : Terms
  pub after : List ℕ
  pub is : drop i s ≡ tokens_row terms ++ after
  pub writable : WritableRow l terms
  pub count : arity terms ≡ k
  pub end : e ≡ i + length (tokens_row terms)
  pub set : w ≡ word_of (tokens_row terms)

-- What is left of both rows, from i and from j on, is two rows of as many terms about at most 32 variables, whose walk
-- gives o.
pub record Rest (l : ℕ) (left right : List ℕ) (i j : ℕ) (o : Walked) : Type 0 where
  pub few : l ≤ 32
  pub ss : Terms
  pub ts : Terms
  pub left_is : drop i left ≡ tokens_row ss
  pub right_is : drop j right ≡ tokens_row ts
  pub left_writable : WritableRow l ss
  pub right_writable : WritableRow l ts
  pub same : arity ss ≡ arity ts
  pub walks : walk_row ss ts ≡ o

-- An equation, and then what the walk finds after it.
unfoldable pub found : Equation → Walked → Walked
found e o = do
  es ← o
  some (e ∷ es)

-- The cursors a and b are past i and j, and within the rows.
pub record Onward (left right : List ℕ) (i j a b : ℕ) : Type 0 where
  pub further : i + j < a + b
  pub inside : (a ≤ length left) × (b ≤ length right)

-- What is found next, where the walk from i and j on gives o.
pub data Next (l : ℕ) (left right : List ℕ) (i j : ℕ) (o : Walked) : Found → Type 0 where
  at_end : o ≡ some [] → Next l left right i j o F.End
  at_clash : o ≡ none → Next l left right i j o F.Clash
  at_equation : {q : E.Equation} {a b : ℕ} (e : Equation) (p : Walked) → Told l q e → Onward left right i j a b
      → Rest l left right a b p
      → o ≡ found e p
      → Next l left right i j o (F.Equation q a b)

-- The walk clashes.
unfoldable pub clash : Walked → Bool
clash none = true
clash (some es) = false
