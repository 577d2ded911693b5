-- The reader: what it uses is inside the tokens and has the term's variables, a greater depth changes nothing, and it
-- answers as the code goes. Assumes nothing.
use mathlib.Core.Path.{◌≡◌, refl, sym, ap, ap₂, ◌∙◌}
use mathlib.Core.Bool.{Bool, true, false, cond}
use mathlib.Core.List.{List, [], ◌∷◌}
use mathlib.Core.Option.{Option, some, none}
use Prim.Native.Nat.{ℕ, zero, suc, ◌+◌, ◌-◌, ◌%◌, ◌^◌, ◌≤◌, ◌<◌}
use native.Mathlib.Nat.{not-suc-le-zero, le_refl}
use native.Mathlib.Numerals.{add-one}
use native.Mathlib.Omega.{arith}
use borrow.Author.Tests.{lt-ltb, le-ltb}
use lib.Bits.{or_zero_r}
use lib.Dec.{eqb-suc-suc}
use lib.ListN.{length, get_or, take, drop, length-drop}
use lib.Seq.{take-add, take_all}
use Rattle.model.specs.Growth.{◌>>=◌}
use Rattle.model.specs.Terms.{Term, Terms, var, head, nil, cons, occurs, occurs_row, set_of}
use Rattle.model.specs.Tokens.{first_head, is_variable, named, arity_of, symbol_of, Read, read_row, under_head}
use Rattle.model.specs.Tokens.{read_within, read_term}
use Rattle.model.proofs.Given.{Given, nothing, given, given_then}
use Rattle.words.specs.Words.{set_word}
use Rattle.terms.specs.Checks.{used, parsed, parsed_row, word_of}
use Rattle.std.specs.Prelude.{Some, None}
use Rattle.std.specs.Prelude as P
use Rattle.terms.proofs.Sets as sets
use Rattle.terms.proofs.TokenScans.{named_is, word_append}

-- ---- What is read

-- no more than there is, and the variables among the tokens are those that occur
pub record Parsed {A : Type 0} (occur : ℕ → A → Bool) (l : ℕ) (s : List ℕ) (r : Read A) : Type 0 where
  pub inside : r.used ≤ length s
  pub word : word_of (take r.used s) ≡ set_word (set_of l (λ i. occur i r.value))

row_parsed : (l : ℕ) (read : List ℕ → Option (Read Term)) → ((s : List ℕ) → Given (Parsed occurs l s) (read s))
    → (k : ℕ) (s : List ℕ) → Given (Parsed occurs_row l s) (read_row read k s)
unfolding read_row word_of occurs_row
row_parsed l read h zero s =
    given {a = record { value = nil; used = 0 }} (record {
      inside = omega arith;
      word = sym (sets.none l (λ i. occurs_row i nil) (λ i. refl));
    })
row_parsed l read h (suc k) s =
    given_then _ (h s)
    (λ t a.
    given_then _ (row_parsed l read h k (drop t.used s))
    (λ r b.
    let n : t.used + r.used ≤ length s = omega (arith, length-drop t.used s) in
    given (record {
      inside = n;
      word =
          ap word_of (take-add t.used r.used s)
          ∙ word_append (take t.used s) (take r.used (drop t.used s))
          ∙ rw (a.word, b.word)
          (sym (sets.either l (λ i. occurs i t.value) (λ i. occurs_row i r.value)));
    })))

pub one_variable : (l t : ℕ) → named l t ≡ true → set_word (set_of l (λ i. occurs i (var t))) ≡ 2 ^ (t - 1)
unfolding occurs
one_variable l zero h = let n = named_is l zero h in absurd (not-suc-le-zero n.0)
one_variable l (suc k) h =
    let n = named_is l (suc k) h in
    sets.one l k (λ i. occurs i (var (suc k))) n.1 (λ i. eqb-suc-suc i k) ∙ ap (λ (m : ℕ). 2 ^ m) (omega arith)

-- what the reader uses, at any depth
pub read_parsed : (d l : ℕ) (s : List ℕ) → Given (Parsed occurs l s) (read_within d l s)
unfolding read_within under_head word_of occurs
read_parsed zero l s = nothing
read_parsed (suc d) l [] = nothing
read_parsed (suc d) l (t ∷ s) =
    go (is_variable t) (named l t) refl refl (row_parsed l (read_within d l) (read_parsed d l) (arity_of t) s)
  where
    go : (b c : Bool) → is_variable t ≡ b → named l t ≡ c
        → Given (Parsed occurs_row l s) (read_row (read_within d l) (arity_of t) s)
        → Given (Parsed occurs l (t ∷ s)) (cond b (cond c (some (record { value = var t; used = 1 })) none)
        (under_head (symbol_of t) (read_row (read_within d l) (arity_of t) s)))
    go true true v n row =
        given {a = record { value = var t; used = 1 }} (record {
          inside = omega arith;
          word = rw v (or_zero_r (2 ^ (t - 1)) ∙ sym (one_variable l t n));
        })
    go true false v n row = nothing
    go false c v n row =
        given_then _ row (λ r a. given {a = record { value = head (symbol_of t) r.value; used = suc r.used }} (record {
          inside = let i = a.inside in omega arith;
          word = rw v a.word;
        }))

-- what was answered as used is no more than there is
used_inside : {A : Type 0} {occur : ℕ → A → Bool} {l : ℕ} {s : List ℕ} {o : Option (Read A)} → Given (Parsed occur l s) o
    → (n : ℕ) → used o ≡ Some n → n ≤ length s
unfolding used
used_inside nothing n e = absurd (let z : ◌≡◌ {A = ℕ} 0 1 = cc in omega arith)
used_inside (given {a} p) n e = let z : a.used ≡ n = cc in omega (arith, p.inside)

-- a term uses no more than there is
pub parsed_inside : (l n : ℕ) (s : List ℕ) → parsed l s ≡ Some n → n ≤ length s
unfolding parsed read_term
parsed_inside l n s e = used_inside (read_parsed (length s) l s) n e

-- the part of a list from n on
part_from : (n : ℕ) (s : List ℕ) → take (length s - n) (drop n s) ≡ drop n s
part_from n s = take_all (length s - n) (drop n s) (omega (arith, length-drop n s))

-- a row from n on uses no more than there is from n on
pub row_inside : (l k n m : ℕ) (s : List ℕ) → parsed_row l k (take (length s - n) (drop n s)) ≡ Some m → m ≤ length s - n
unfolding parsed_row
row_inside l k n m s e =
    let r : List ℕ = take (length s - n) (drop n s) in
    rw (part_from n s, length-drop n s) at
    (used_inside (row_parsed l (read_within (length r) l) (read_parsed (length r) l) k r) m e)

-- ---- A greater depth changes nothing

-- a term and then a row
abbrev followed : Option (Read Term) → (ℕ → Option (Read Terms)) → Option (Read Terms)
followed o f =
    o >>= λ t. f t.used >>= λ r. some (record { value = cons t.value r.value; used = t.used + r.used })

rows_agree : (n : ℕ) (p q : List ℕ → Option (Read Term)) → ((s : List ℕ) → length s ≤ n → p s ≡ q s)
    → (k : ℕ) (s : List ℕ) → length s ≤ n → read_row p k s ≡ read_row q k s
unfolding read_row
rows_agree n p q e zero s h = refl
rows_agree n p q e (suc k) s h =
    ap₂ followed (e s h) (λ i m. rows_agree n p q e k (drop m s) (omega (arith, length-drop m s)) i)

deeper : (d e l : ℕ) (s : List ℕ) → length s ≤ d → length s ≤ e → read_within d l s ≡ read_within e l s
unfolding read_within
deeper zero zero l s h k = refl
deeper zero (suc e) l [] h k = refl
deeper zero (suc e) l (t ∷ s) h k = absurd (not-suc-le-zero h)
deeper (suc d) zero l [] h k = refl
deeper (suc d) zero l (t ∷ s) h k = absurd (not-suc-le-zero k)
deeper (suc d) (suc e) l [] h k = refl
deeper (suc d) (suc e) l (t ∷ s) h k =
    rw (rows_agree (length s) (read_within d l) (read_within e l) (λ r i. deeper d e l r (omega arith) (omega arith)) (arity_of t) s
    (le_refl (length s)))

-- ---- As the code goes

-- so many tokens more
abbrev pub plus : ℕ → P.Option ℕ → P.Option ℕ
plus n None = None
plus n (Some m) = Some (n + m)

-- a term and then a row
abbrev pub next : P.Option ℕ → (ℕ → P.Option ℕ) → P.Option ℕ
next None f = None
next (Some n) f = plus n (f n)

-- a head and then a row
abbrev pub one_more : P.Option ℕ → P.Option ℕ
one_more None = None
one_more (Some n) = Some (n + 1)

used_followed : (o : Option (Read Term)) (f : ℕ → Option (Read Terms)) → used (followed o f) ≡ next (used o) (λ n. used (f n))
unfolding used ◌>>=◌
used_followed none f = refl
used_followed (some t) f = go (f t.used)
  where
    go : (r : Option (Read Terms))
        → used (r >>= λ r. some (record { value = cons t.value r.value; used = t.used + r.used })) ≡ plus t.used (used r)
    go none = refl
    go (some r) = refl

used_under : (f : ℕ) (o : Option (Read Terms)) → used (under_head f o) ≡ one_more (used o)
unfolding used under_head ◌>>=◌
used_under f none = refl
used_under f (some r) = ap Some (sym (add-one r.used))

pub row_none : (l : ℕ) (s : List ℕ) → Some 0 ≡ parsed_row l 0 s
unfolding parsed_row read_row used
row_none l s = refl

parsed_next : (l k : ℕ) (s : List ℕ) → parsed_row l (suc k) s ≡ next (parsed l s) (λ n. parsed_row l k (drop n s))
unfolding parsed parsed_row read_row read_term
parsed_next l k s =
    ap (λ (f : ℕ → Option (Read Terms)). used (followed (read_term l s) f)) (λ i n. enough n i)
    ∙ used_followed (read_term l s) (λ n. read_row (read_within (length (drop n s)) l) k (drop n s))
  where
    enough : (n : ℕ) → read_row (read_within (length s) l) k (drop n s) ≡ read_row (read_within (length (drop n s)) l) k (drop n s)
    enough n =
        rows_agree (length (drop n s)) _ _ (λ r h. deeper (length s) (length (drop n s)) l r (omega (arith, length-drop n s)) h) k
        (drop n s) (le_refl (length (drop n s)))

-- a row of k terms, k not 0, after what its first term answers
pub row_more : (l k : ℕ) (s : List ℕ) (a : P.Option ℕ) → ¬ (k ≡ 0) → parsed l s ≡ a
    → next a (λ n. parsed_row l (k - 1) (take (length s - n) (drop n s))) ≡ parsed_row l k s
row_more l zero s a h e = absurd (h refl)
row_more l (suc k) s a h e =
    let p : suc k - 1 ≡ k = omega arith in
    rw (← e, p, parsed_next l k s) (ap (next (parsed l s)) (λ i n. parsed_row l k (part_from n s i)))

-- a term by its first token
pub term_none : (l : ℕ) (s : List ℕ) → length s ≡ 0 → None ≡ parsed l s
unfolding parsed read_term read_within used
term_none l [] h = refl
term_none l (t ∷ s) h = absurd (omega arith)

pub term_variable : (l : ℕ) (s : List ℕ) (b : Bool) → ¬ (length s ≡ 0) → get_or s 0 0 < first_head → named l (get_or s 0 0) ≡ b
    → cond b (Some 1) None ≡ parsed l s
unfolding parsed read_term read_within used
term_variable l [] b h v n = absurd (h refl)
term_variable l (t ∷ s) b h v n = rw (lt-ltb t first_head v, n) (go b)
  where
    go : (b : Bool) → cond b (Some 1) None ≡ used (cond b (some (record { value = var t; used = 1 })) none)
    go true = refl
    go false = refl

-- the answer of its row, and one more for the head
pub term_head : (l : ℕ) (s : List ℕ) → ¬ (length s ≡ 0) → first_head ≤ get_or s 0 0
    → one_more (parsed_row l (get_or s 0 0 % 16) (take (length s - 1) (drop 1 s))) ≡ parsed l s
unfolding parsed parsed_row read_term read_within
term_head l [] h v = absurd (h refl)
term_head l (t ∷ s) h v =
    rw (part_from 1 (t ∷ s), le-ltb t first_head v)
    (sym (used_under (symbol_of t) (read_row (read_within (length s) l) (arity_of t) s)))
