-- The kind of an equation, by the words of its two sets and the number of tokens of its term. Assumes nothing.
use mathlib.Core.Path.{◌≡◌, refl, sym, ap, ap₂, ◌∙◌}
use mathlib.Core.Bool.{Bool, true, false, not, cond}
use Prim.Native.Nat.{ℕ, ◌-◌, ◌*◌, ◌%◌, ◌^◌, ◌≤◌}
use native.Mathlib.Omega.{arith}
use borrow.Author.Tests.{eq-eqb, ne_eqb}
use lib.Bits.{bit_and}
use lib.Dec.{T, eqb}
use lib.ListN.{length}
use Rattle.model.specs.Terms.{Term, Terms, var, head, nil, cons, occurs, occurs_row, variables}
use Rattle.model.specs.Tokens.{named, tokens, tokens_row}
use Rattle.model.specs.Equations.{Equation, itself, deeper, plain, holding, kind}
use Rattle.model.proofs.Tests.{true_of}
use Rattle.model.proofs.Variables.{variables_meet}
use Rattle.words.specs.Words.{set_word}
use Rattle.words.proofs.Codec.{apart_words}
use Rattle.words.proofs.Positions.{one_shl}
use Rattle.terms.specs.EquationKinds.{Counted}
use Rattle.terms.proofs.TokenScans.{named_is}
use Rattle.terms.proofs.Reader.{one_variable}

-- The bit of a variable in a word of 32, as the code makes it,
abbrev pub bit_of : ℕ → ℕ
bit_of x = (1 * 2 ^ (x - 1)) % 2 ^ 32

-- is the set of that variable alone.
pub bit_word : (l x : ℕ) → l ≤ 32 → T (named l x) → bit_of x ≡ set_word (variables l (var x))
unfolding variables
bit_word l x few n =
    let h = true_of (named l x) n in
    let k = named_is l x h in
    one_shl (x - 1) 32 (omega (arith, k.0, k.1)) ∙ sym (one_variable l x h)

-- a row of terms that holds a variable has a token
row_token : (x : ℕ) (ts : Terms) → T (occurs_row x ts) → ¬ (length (tokens_row ts) ≡ 0)
unfolding occurs_row tokens tokens_row
row_token x nil h e = h
row_token x (cons (var n) ts) h e = omega arith
row_token x (cons (head f us) ts) h e = omega arith

module _ {l left right count : ℕ} {e : Equation} (c : Counted l left right count e) where
  -- the words share a bit exactly where the left variable occurs in the term
  apart_is : eqb (bit_and left right) 0 ≡ not (occurs e.left e.right)
  apart_is =
      let n = named_is l e.left (true_of _ c.named) in
      ap₂ (λ (a b : ℕ). eqb (bit_and a b) 0) c.left_set c.right_set
      ∙ apart_words (variables l (var e.left)) (variables l e.right)
      ∙ ap not (variables_meet l e.left e.right n.0 n.1)

  -- No bit in common: the term does not hold the left variable.
  pub plain_told : bit_and left right ≡ 0 → plain ≡ kind e
  unfolding kind
  plain_told z = go (occurs e.left e.right) (sym (eq-eqb (bit_and left right) 0 z) ∙ apart_is)
    where
      go : (b : Bool) → true ≡ not b → plain ≡ cond b (holding e.right) plain
      go true p = absurd (let z : ◌≡◌ {A = ℕ} 0 1 = cc in omega arith)
      go false p = refl

  module _ (shared : ¬ (bit_and left right ≡ 0)) where
    held : T (occurs e.left e.right)
    held = go (occurs e.left e.right) (sym (ne_eqb (bit_and left right) 0 shared) ∙ apart_is)
      where
        go : (b : Bool) → false ≡ not b → T b
        go true p = tt
        go false p = absurd (let z : ◌≡◌ {A = ℕ} 0 1 = cc in omega arith)

    -- A term of one token that holds it is the variable,
    pub itself_told : count ≡ 1 → itself ≡ kind e
    unfolding kind holding occurs tokens
    itself_told k = rw (true_of (occurs e.left e.right) held) (go e.right held (sym c.count ∙ k))
      where
        go : (t : Term) → T (occurs e.left t) → length (tokens t) ≡ 1 → itself ≡ holding t
        go (var y) h k = refl
        go (head f ts) h k = absurd (row_token e.left ts h (omega arith))

    -- and any other holds it deeper.
    pub deeper_told : ¬ (count ≡ 1) → deeper ≡ kind e
    unfolding kind holding tokens
    deeper_told n = rw (true_of (occurs e.left e.right) held) (go e.right (λ k. n (c.count ∙ k)))
      where
        go : (t : Term) → ¬ (length (tokens t) ≡ 1) → deeper ≡ holding t
        go (var y) n = absurd (n refl)
        go (head f ts) n = refl
