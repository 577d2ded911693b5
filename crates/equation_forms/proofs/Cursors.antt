-- The walk over the equations of a form: a place, what stands at it, and what is left from it on. Assumes nothing.
use mathlib.Core.Path.{◌≡◌, refl, sym, ap, ap₂, ◌∙◌}
use mathlib.Core.List.{List, [], ◌∷◌}
use Prim.Native.Nat.{ℕ, zero, suc, ◌+◌, ◌-◌, ◌*◌, ◌/◌, ◌≤◌}
use native.Mathlib.Omega.{arith}
use lib.ListN.{length, take, drop, length-drop, drop_of_length-le}
use lib.Seq.{take-nil, take-take, drop-drop, length-take-le}
use Rattle.terms.specs.Checks.{Written, one_term, two_terms, most_tokens}
use Rattle.codec.specs.Numbers.{numbers, sum}
use Rattle.codec.proofs.Laws.{length_words, words_from, words_drop, words_take}
use Rattle.equation_forms.specs.declared.Cursor.{Cursor}
use Rattle.equation_forms.specs.declared.Left.{Left}
use Rattle.equation_forms.specs.declared.Left.TheVariants.{Variable, Term}
use Rattle.forms.specs.TableForms.{second_size}
use Rattle.equation_forms.specs.EquationForms.{lefts, counts, all_tokens, span, spans, equation_of, share_out, equations_of}
use Rattle.equation_forms.specs.EquationForms.{equations_in, GoodSizes, On, start, Here, Past, left_at, count_at, span_at}
use Rattle.equation_forms.specs.EquationForms.{tokens_at, this, after, rest}

-- ---- The tokens of one equation

-- those after the first a of a + c
last_tokens : (a c : ℕ) (ts : List ℕ) → take c (drop a (take (a + c) ts)) ≡ take c (drop a ts)
last_tokens zero c ts = let e : 0 + c ≡ c = omega arith in rw e (take-take c c ts (omega arith))
last_tokens (suc a) c [] = rw (take-nil (suc a + c))
last_tokens (suc a) c (t ∷ ts) = let e : suc a + c ≡ suc (a + c) = omega arith in rw e (last_tokens a c ts)

-- An equation is made of its own tokens, whatever follows them.
pub own_tokens : (f : Left) (x c : ℕ) (ts : List ℕ) → equation_of f x c (take (span f x c) ts) ≡ equation_of f x c ts
own_tokens Variable x c ts = ap (one_term x) (take-take c c ts (omega arith))
own_tokens Term a c ts = ap₂ two_terms (take-take a (a + c) ts (omega arith)) (last_tokens a c ts)

-- ---- The walk

-- The place before the first equation is one of the form.
pub on_start : {f : Left} {b : List ℕ} → GoodSizes f b → On f (start b) b
on_start s = record { sizes = s; all = refl; within = omega arith; tokens = omega (arith, s.whole) }

-- All equations are left at it.
pub rest_start : (f : Left) (b : List ℕ) → rest f (start b) b ≡ equations_in f b
unfolding rest equations_of
rest_start f b = refl

module _ {f : Left} {c : Cursor} {b : List ℕ} (on : On f c b) where
  -- None is left after the last one.
  pub rest_none : Past c → rest f c b ≡ []
  unfolding rest share_out
  rest_none past =
      ap (λ (r : List ℕ). share_out f r (drop c.k (counts c.e b)) (drop c.at (all_tokens c.e (second_size b) b)))
      (drop_of_length-le (lefts c.e b) {i = c.k} (omega (arith, past, length_words 2 c.e (drop 4 b))))

  module _ (here : Here c) where
    lefts_from : drop c.k (lefts c.e b) ≡ left_at c b ∷ drop (c.k + 1) (lefts c.e b)
    lefts_from = words_from 2 c.e 4 c.k b here

    counts_from : drop c.k (counts c.e b) ≡ count_at c b ∷ drop (c.k + 1) (counts c.e b)
    counts_from = words_from 2 c.e (4 + 2 * c.e) c.k b here

    on_tokens : c.at + span_at f c b + sum (spans f (drop (c.k + 1) (lefts c.e b)) (drop (c.k + 1) (counts c.e b)))
        ≡ second_size b
    unfolding sum spans
    on_tokens = let s = rw (lefts_from, counts_from) at on.tokens in omega (arith, s)

    -- The tokens of the equation are among those of the form.
    pub tokens_within : c.at + span_at f c b ≤ second_size b
    tokens_within = omega (arith, on_tokens)

    -- Their bytes are among its bytes.
    pub tokens_room : 4 + 4 * c.e + 2 * c.at + 2 * span_at f c b ≤ length b
    tokens_room = omega (arith, tokens_within, on.all, on.sizes.long)

    -- The place after the equation is one of the form.
    pub on_next : On f (after f c b) b
    on_next = record { sizes = on.sizes; all = on.all; within = omega (arith, here); tokens = on_tokens }

    -- Two bytes a token.
    pub tokens_long : length (tokens_at f c b) ≡ 2 * span_at f c b
    tokens_long =
        length-take-le (2 * span_at f c b) _ (omega (arith, tokens_room, length-drop (4 + 4 * c.e + 2 * c.at) b))

    -- Not too many tokens.
    pub tokens_few : length (tokens_at f c b) / 2 ≤ most_tokens
    tokens_few = omega (arith, tokens_long, tokens_within, on.sizes.short)

    -- the tokens that are given out to the equation are those of its bytes
    tokens_here : take (span_at f c b) (drop c.at (all_tokens c.e (second_size b) b))
        ≡ numbers (length (tokens_at f c b) / 2) (tokens_at f c b)
    tokens_here =
        let n = span_at f c b in
        let half : length (tokens_at f c b) / 2 ≡ n = omega (arith, tokens_long) in
        rw half
        (ap (take n) (words_drop 2 c.at (second_size b) (drop (4 + 4 * c.e) b) (omega (arith, tokens_within)))
        ∙ words_take 2 n (second_size b - c.at) (drop (2 * c.at) (drop (4 + 4 * c.e) b)) (omega (arith, tokens_within))
        (omega (arith, tokens_room, length-drop (4 + 4 * c.e) b, length-drop (2 * c.at) (drop (4 + 4 * c.e) b)))
        ∙ ap (λ (r : List ℕ). numbers n (take (2 * n) r)) (drop-drop (2 * c.at) (4 + 4 * c.e) b))

    -- What is left at the place is its equation, and what is left after it.
    pub rest_next : rest f c b ≡ this f c b ∷ rest f (after f c b) b
    unfolding rest share_out
    rest_next =
        let all = all_tokens c.e (second_size b) b in
        rw (lefts_from, counts_from)
        (ap₂ {C = List Written} (λ w r. w ∷ r)
        (sym (own_tokens f (left_at c b) (count_at c b) (drop c.at all))
        ∙ ap (equation_of f (left_at c b) (count_at c b)) tokens_here)
        (ap (share_out f (drop (c.k + 1) (lefts c.e b)) (drop (c.k + 1) (counts c.e b)))
        (drop-drop (span_at f c b) c.at all)))
