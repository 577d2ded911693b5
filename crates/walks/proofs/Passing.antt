-- Passing over terms token by token. Assumes nothing.
use mathlib.Core.Path.{◌≡◌, refl, sym, ap, ◌∙◌}
use mathlib.Core.Bool.{true}
use mathlib.Core.List.{List, [], ◌∷◌, ◌++◌, append_assoc}
use Prim.Native.Nat.{ℕ, zero, suc, ◌+◌, ◌-◌, ◌*◌, ◌%◌, ◌^◌, ◌≤◌, ◌<◌}
use native.Mathlib.Nat.{suc-ne-zero}
use native.Mathlib.Numerals.{add-one}
use native.Mathlib.Omega.{arith}
use borrow.Author.Tests.{lt-ltb, le-ltb}
use lib.Bits.{bit_or, or_zero_r}
use lib.ListN.{length, get_or, drop, length-append, length-drop}
use Rattle.model.specs.Terms.{Term, Terms, var, head, nil, cons, arity, occurs, occurs_row, set_of}
use Rattle.model.specs.Tokens.{first_head, arities, named, Writable, WritableRow, tokens, tokens_row}
use Rattle.model.proofs.Tests.{true_of}
use Rattle.words.specs.Words.{set_word}
use Rattle.words.proofs.Positions.{one_shl}
use Rattle.terms.specs.Checks.{word_of}
use Rattle.terms.proofs.Sets.{or_assoc}
use Rattle.terms.proofs.Sets as sets
use Rattle.terms.proofs.TokenScans.{named_is, word_append}
use Rattle.terms.proofs.Reader.{one_variable}
use Rattle.walks.specs.Cursors.{Across}

-- ---- Rows of terms

-- one row after another
unfoldable pub join : Terms → Terms → Terms
join nil us = us
join (cons t ts) us = cons t (join ts us)

pub tokens_join : (ts us : Terms) → tokens_row (join ts us) ≡ tokens_row ts ++ tokens_row us
unfolding join tokens_row
tokens_join nil us = refl
tokens_join (cons t ts) us =
    ap (λ (r : List ℕ). tokens t ++ r) (tokens_join ts us) ∙ sym (append_assoc (tokens t) (tokens_row ts) (tokens_row us))

pub writable_join : (l : ℕ) (ts us : Terms) → WritableRow l ts → WritableRow l us → WritableRow l (join ts us)
unfolding join WritableRow
writable_join l nil us w v = v
writable_join l (cons t ts) us w v = (w.0, writable_join l ts us w.1 v)

pub arity_join : (ts us : Terms) → arity (join ts us) ≡ arity ts + arity us
unfolding join arity
arity_join nil us = omega arith
arity_join (cons t ts) us = omega (arith, arity_join ts us)

-- every term has a token
mutual
  unfolding tokens tokens_row arity

  pub term_tokens : (t : Term) → 1 ≤ length (tokens t)
  term_tokens (var n) = omega arith
  term_tokens (head f ts) = omega arith

  pub row_tokens : (ts : Terms) → arity ts ≤ length (tokens_row ts)
  row_tokens nil = omega arith
  row_tokens (cons t ts) = omega (arith, term_tokens t, row_tokens ts, length-append (tokens t) (tokens_row ts))

-- ---- The word of the variables among the tokens of a term

-- a variable alone
variable_word : (n : ℕ) (r : List ℕ) → n < first_head → word_of (n ∷ r) ≡ bit_or (2 ^ (n - 1)) (word_of r)
unfolding word_of
variable_word n r h = rw (lt-ltb n first_head h)

-- a head has none
head_word : (n : ℕ) (r : List ℕ) → first_head ≤ n → word_of (n ∷ r) ≡ word_of r
unfolding word_of
head_word n r h = rw (le-ltb n first_head h)

mutual
  unfolding tokens tokens_row Writable WritableRow word_of occurs occurs_row

  -- it is that of the set of those that occur
  pub term_word : (l : ℕ) (t : Term) → Writable l t → word_of (tokens t) ≡ set_word (set_of l (λ i. occurs i t))
  term_word l (var n) w =
      variable_word n [] w.0 ∙ or_zero_r (2 ^ (n - 1)) ∙ sym (one_variable l n (true_of (named l n) w.1))
  term_word l (head f ts) w =
      head_word (first_head + f * arities + arity ts) (tokens_row ts) (omega arith) ∙ row_word l ts w.2

  row_word : (l : ℕ) (ts : Terms) → WritableRow l ts → word_of (tokens_row ts) ≡ set_word (set_of l (λ i. occurs_row i ts))
  row_word l nil w = sym (sets.none l (λ i. occurs_row i nil) (λ i. refl))
  row_word l (cons t ts) w =
      word_append (tokens t) (tokens_row ts)
      ∙ rw (term_word l t w.0, row_word l ts w.1)
      (sym (sets.either l (λ i. occurs i t) (λ i. occurs_row i ts)))

-- ---- The first token

-- what is left at i begins with n
pub record First (s : List ℕ) (i n : ℕ) (r : List ℕ) : Type 0 where
  pub inside : i < length s
  pub token : get_or s i 0 ≡ n
  pub rest : drop (i + 1) s ≡ r

pub first : (s : List ℕ) (i n : ℕ) (r : List ℕ) → drop i s ≡ n ∷ r → First s i n r
first s i n r e = let g = go s i e in record { inside = g.0; token = g.1; rest = rw (add-one i) g.2 }
  where
    go : (s : List ℕ) (i : ℕ) → drop i s ≡ n ∷ r → (i < length s) × (get_or s i 0 ≡ n) × (drop (suc i) s ≡ r)
    go [] zero e = absurd (suc-ne-zero _ (sym (ap length e)))
    go [] (suc i) e = absurd (suc-ne-zero _ (sym (ap length e)))
    go (t ∷ s) zero e = (omega arith, cc, cc)
    go (t ∷ s) (suc i) e = let g = go s i e in (omega (arith, g.0), g.1, g.2)

-- a variable of at most 32 has its bit in a word
pub bit_inside : (l n : ℕ) → l ≤ 32 → named l n ≡ true → (0 < n) × (n - 1 < 32)
bit_inside l n few h = let k = named_is l n h in (k.0, omega (arith, k.1, k.0))

-- ---- One token of a row of terms

-- k terms are left from i on, and w has the variables of `set` and theirs
pub record Left (l : ℕ) (s : List ℕ) (i k set e w : ℕ) : Type 0 where
  pub v : ℕ
  pub across : Across l s i k e v
  pub so_far : w ≡ bit_or set v

pub left_start : {l : ℕ} {s : List ℕ} {i k e w : ℕ} → Across l s i k e w → Left l s i k 0 e w
left_start {w = w} a = record { v = w; across = a; so_far = refl }

module _ {l : ℕ} {s : List ℕ} {i k set e w : ℕ} (r : Left l s i k set e w) where
  -- as many tokens are left as terms
  pub left_inside : k ≤ length s - i
  left_inside = let a = r.across in omega (
    arith,
    row_tokens a.terms,
    a.count,
    length-append (tokens_row a.terms) a.after,
    sym (ap length a.is) ∙ length-drop i s,
  )

  pub left_end : k ≡ 0 → (i ≡ e) × (set ≡ w)
  unfolding tokens_row arity word_of
  left_end h = let a = r.across in go a.terms a.count a.end a.set
    where
      go : (ts : Terms) → arity ts ≡ k → e ≡ i + length (tokens_row ts) → r.v ≡ word_of (tokens_row ts)
          → (i ≡ e) × (set ≡ w)
      go nil c q z = (omega arith, sym (r.so_far ∙ rw z (or_zero_r set)))
      go (cons t ts) c q z = absurd (omega arith)

  module _ (h : 0 < k) where
    -- a variable
    module _ (lt : get_or s i 0 < first_head) where
      left_named : named l (get_or s i 0) ≡ true
      unfolding tokens tokens_row arity WritableRow Writable
      left_named = let a = r.across in go a.terms a.is a.writable a.count
        where
          go : (ts : Terms) → drop i s ≡ tokens_row ts ++ r.across.after → WritableRow l ts → arity ts ≡ k
              → named l (get_or s i 0) ≡ true
          go nil p y c = absurd (omega arith)
          go (cons (var n) ts) p y c = rw (first s i n _ p).token (true_of (named l n) y.0.1)
          go (cons (head g us) ts) p y c = absurd (omega (arith, (first s i _ _ p).token))

      pub left_bit : (0 < get_or s i 0) × (get_or s i 0 - 1 < 32)
      left_bit = bit_inside l _ r.across.few left_named

      pub left_variable : Left l s (i + 1) (k - 1) (bit_or set ((1 * 2 ^ (get_or s i 0 - 1)) % 2 ^ 32)) e w
      unfolding tokens tokens_row arity WritableRow Writable
      left_variable = let a = r.across in go a.terms a.is a.writable a.count a.end a.set
        where
          go : (ts : Terms) → drop i s ≡ tokens_row ts ++ r.across.after → WritableRow l ts → arity ts ≡ k
              → e ≡ i + length (tokens_row ts)
              → r.v ≡ word_of (tokens_row ts)
              → Left l s (i + 1) (k - 1) (bit_or set ((1 * 2 ^ (get_or s i 0 - 1)) % 2 ^ 32)) e w
          go nil p y c q z = absurd (omega arith)
          go (cons (head g us) ts) p y c q z = absurd (omega (arith, (first s i _ _ p).token))
          go (cons (var n) ts) p y c q z =
              let f = first s i n (tokens_row ts ++ r.across.after) p in
              let b = left_bit in
              record {
                v = word_of (tokens_row ts);
                across = record {
                  few = r.across.few;
                  terms = ts;
                  after = r.across.after;
                  is = f.rest;
                  writable = y.1;
                  count = omega arith;
                  end = omega arith;
                  set = refl;
                };
                so_far =
                    r.so_far
                    ∙ ap (bit_or set) (z ∙ variable_word n (tokens_row ts) y.0.0)
                    ∙ rw (one_shl (get_or s i 0 - 1) 32 b.1, f.token)
                    (sym (or_assoc set (2 ^ (n - 1)) (word_of (tokens_row ts))));
              }

    -- a head
    pub left_head : first_head ≤ get_or s i 0 → Left l s (i + 1) (k - 1 + get_or s i 0 % arities) set e w
    unfolding tokens tokens_row arity WritableRow Writable
    left_head ge = let a = r.across in go a.terms a.is a.writable a.count a.end a.set
      where
        go : (ts : Terms) → drop i s ≡ tokens_row ts ++ r.across.after → WritableRow l ts → arity ts ≡ k
            → e ≡ i + length (tokens_row ts)
            → r.v ≡ word_of (tokens_row ts)
            → Left l s (i + 1) (k - 1 + get_or s i 0 % arities) set e w
        go nil p y c q z = absurd (omega arith)
        go (cons (var n) ts) p y c q z = absurd (omega (arith, (first s i _ _ p).token, y.0.0))
        go (cons (head g us) ts) p y c q z =
            let n = first_head + g * arities + arity us in
            let f = first s i n ((tokens_row us ++ tokens_row ts) ++ r.across.after) p in
            let m : get_or s i 0 % arities ≡ arity us = rw f.token (omega (arith, y.0.1)) in
            record {
              v = r.v;
              across = record {
                few = r.across.few;
                terms = join us ts;
                after = r.across.after;
                is = rw (tokens_join us ts) f.rest;
                writable = writable_join l us ts y.0.2 y.1;
                count = omega (arith, arity_join us ts);
                end = rw (tokens_join us ts) (omega arith);
                set =
                    z ∙ head_word n (tokens_row us ++ tokens_row ts) (omega arith)
                    ∙ ap word_of (sym (tokens_join us ts));
              };
              so_far = r.so_far;
            }
