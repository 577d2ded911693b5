-- The scans of the tokens: their names, and the word of their variables. Assumes nothing.
use mathlib.Core.Path.{◌≡◌, refl, sym, ap, ◌∙◌}
use mathlib.Core.Bool.{Bool, true, false, not, ◌&&◌, ◌||◌, cond, and_assoc, and-true}
use mathlib.Core.List.{List, [], ◌∷◌, ◌++◌}
use Prim.Native.Nat.{ℕ, zero, suc, ◌+◌, ◌-◌, ◌*◌, ◌%◌, ◌^◌, ◌≤◌, ◌<◌}
use native.Mathlib.Nat.{not-suc-le-zero, le_of_suc-le-suc}
use native.Mathlib.Numerals.{add-one}
use native.Mathlib.Omega.{arith}
use borrow.Author.Tests.{ltb-true, ltb-false, leb-true, lt-ltb, le-ltb, le-leb, lt-leb}
use lib.Bits.{bit_or, or_zero_r}
use lib.Dec.{ltb, leb}
use lib.ListN.{length, get_or, drop, drop_of_length-le}
use lib.Seq.{drop-cons}
use Rattle.model.specs.Tokens.{first_head, is_variable, named}
use Rattle.words.proofs.Positions.{one_shl}
use Rattle.tables.proofs.Tests.{both_true}
use Rattle.terms.specs.Checks.{token_named, all_named, word_of}
use Rattle.terms.proofs.Sets.{or_assoc}

-- ---- Names

pub named_is : (l t : ℕ) → named l t ≡ true → (0 < t) × (t ≤ l)
named_is l t h = let b = both_true (ltb 0 t) (leb t l) h in (ltb-true 0 t b.0, leb-true t l b.1)

-- the code's test of a token
test_named : (l t : ℕ) → token_named l t ≡ (leb first_head t || named l t)
unfolding token_named
test_named l t = ap (λ (b : Bool). b || named l t) (go (is_variable t) refl)
  where
    go : (b : Bool) → is_variable t ≡ b → not b ≡ leb first_head t
    go true e = sym (lt-leb first_head t (ltb-true t first_head e))
    go false e = sym (le-leb first_head t (ltb-false t first_head e))

module _ (l : ℕ) (ts : List ℕ) where
  -- one token more
  pub named_turn : (good : Bool) (i : ℕ) → i < length ts → all_named l ts ≡ (good && all_named l (drop i ts))
      → all_named l ts ≡ ((good && (leb first_head (get_or ts i 0) || named l (get_or ts i 0))) && all_named l (drop (i + 1) ts))
  unfolding all_named
  named_turn good i lt so_far =
      so_far
      ∙ ap (λ (r : List ℕ). good && all_named l r) (drop-cons ts i 0 lt)
      ∙ sym (and_assoc good (token_named l (get_or ts i 0)) (all_named l (drop (suc i) ts)))
      ∙ rw (test_named l (get_or ts i 0), add-one)

  pub named_end : (good : Bool) (i : ℕ) → length ts ≤ i → all_named l ts ≡ (good && all_named l (drop i ts))
      → good ≡ all_named l ts
  unfolding all_named
  named_end good i h so_far = sym (so_far ∙ ap (λ (r : List ℕ). good && all_named l r) (drop_of_length-le ts h) ∙ and-true good)

-- a variable among tokens that are all named
pub variable_at : (l : ℕ) (ts : List ℕ) (i : ℕ) → (l ≤ 32) × (all_named l ts ≡ true) → i < length ts
    → get_or ts i 0 < first_head → (0 < get_or ts i 0) × (get_or ts i 0 - 1 < 32)
unfolding all_named token_named
variable_at l [] i p lt v = absurd (not-suc-le-zero lt)
variable_at l (t ∷ ts) zero p lt v =
    let n = named_is l t (rw (lt-ltb t first_head v) at (both_true (token_named l t) (all_named l ts) p.1).0) in
    (n.0, omega arith)
variable_at l (t ∷ ts) (suc i) p lt v =
    variable_at l ts i (p.0, (both_true (token_named l t) (all_named l ts) p.1).1) (le_of_suc-le-suc lt) v

-- ---- The word of the variables

pub word_append : (s r : List ℕ) → word_of (s ++ r) ≡ bit_or (word_of s) (word_of r)
unfolding word_of
word_append [] r = refl
word_append (t ∷ s) r = go (is_variable t) (word_append s r)
  where
    go : (b : Bool) → word_of (s ++ r) ≡ bit_or (word_of s) (word_of r)
        → cond b (bit_or (2 ^ (t - 1)) (word_of (s ++ r))) (word_of (s ++ r))
        ≡ bit_or (cond b (bit_or (2 ^ (t - 1)) (word_of s)) (word_of s)) (word_of r)
    go true e = rw e (sym (or_assoc (2 ^ (t - 1)) (word_of s) (word_of r)))
    go false e = e

module _ (ts : List ℕ) (set i : ℕ) (so_far : word_of ts ≡ bit_or set (word_of (drop i ts))) where
  -- one token more, a variable
  pub word_variable : (l : ℕ) → (l ≤ 32) × (all_named l ts ≡ true) → i < length ts → get_or ts i 0 < first_head
      → word_of ts ≡ bit_or (bit_or set ((1 * 2 ^ (get_or ts i 0 - 1)) % 2 ^ 32)) (word_of (drop (i + 1) ts))
  unfolding word_of
  word_variable l p lt v =
      so_far
      ∙ ap (λ (r : List ℕ). bit_or set (word_of r)) (drop-cons ts i 0 lt)
      ∙ rw (lt-ltb (get_or ts i 0) first_head v, one_shl (get_or ts i 0 - 1) 32 (variable_at l ts i p lt v).1, add-one)
      (sym (or_assoc set (2 ^ (get_or ts i 0 - 1)) (word_of (drop (suc i) ts))))

  -- one token more, a head
  pub word_head : i < length ts → first_head ≤ get_or ts i 0 → word_of ts ≡ bit_or set (word_of (drop (i + 1) ts))
  unfolding word_of
  word_head lt v =
      so_far
      ∙ ap (λ (r : List ℕ). bit_or set (word_of r)) (drop-cons ts i 0 lt)
      ∙ rw (le-ltb (get_or ts i 0) first_head v, add-one)

  pub word_end : length ts ≤ i → set ≡ word_of ts
  unfolding word_of
  word_end h = sym (so_far ∙ ap (λ (r : List ℕ). bit_or set (word_of r)) (drop_of_length-le ts h) ∙ or_zero_r set)
