-- The term reader: a row reads as a whole term exactly when it is that term's encoding. Assumes nothing.
use mathlib.Core.Path.{◌≡◌, refl, sym, ap, ◌∙◌}
use mathlib.Core.Bool.{Bool, true, false, not, cond}
use mathlib.Core.List.{List, [], ◌∷◌, ◌++◌, append_assoc, append-nil}
use mathlib.Core.Logic.{◌↔◌}
use mathlib.Core.Option.{Option, some, none}
use Prim.Native.Nat.{ℕ, zero, suc, ◌+◌, ◌*◌, ◌/◌, ◌%◌, ◌^◌, ◌≤◌, ◌<◌}
use native.Mathlib.Nat.{not-suc-le-zero}
use native.Mathlib.Omega.{arith}
use borrow.Author.Tests.{le-ltb, lt-ltb}
use lib.Dec.{T, eqb, eqb→eq, eqb_refl, ltb→lt, nltb→le}
use lib.ListN.{length, take, drop, length-append, length-drop}
use lib.Seq.{drop-append_seam, take-add, take_all}
use lib.Pow.{high, low}
use Rattle.model.specs.Growth.{◌>>=◌}
use Rattle.model.specs.Terms.{Term, Terms, var, head, nil, cons, arity}
use Rattle.model.specs.Tokens.{Tokens, is_variable, named, arity_of, symbol_of, Writable, WritableRow, tokens, tokens_row}
use Rattle.model.specs.Tokens.{Read, read_row, under_head, read_within, read_term, whole_term}
use Rattle.model.proofs.Tests.{true_of}
use Rattle.model.proofs.Given.{Given, nothing, given, given_at, given_then}

-- ---- What was written is read back, whatever follows it

head_sum : (f c : ℕ) → 32768 + f * 16 + c ≡ (1 * 2 ^ 11 + f) * 2 ^ 4 + c
head_sum f c = omega arith

head_arity : (f c : ℕ) → c < 16 → (32768 + f * 16 + c) % 16 ≡ c
head_arity f c h = rw (head_sum f c) (low (1 * 2 ^ 11 + f) 4 h)

head_symbol : (f c : ℕ) → f < 2048 → c < 16 → (32768 + f * 16 + c) / 16 % 2048 ≡ f
head_symbol f c h k = rw (head_sum f c, high (1 * 2 ^ 11 + f) 4 k) (low 1 11 h)

mutual
  unfolding read_within read_row under_head ◌>>=◌ tokens tokens_row arity Writable WritableRow

  read_back : (t : Term) (d l : ℕ) (rest : List ℕ) → Writable l t → length (tokens t) ≤ d
      → read_within d l (tokens t ++ rest) ≡ some (record { value = t; used = length (tokens t) })
  read_back (var n) zero l rest w h = absurd (not-suc-le-zero h)
  read_back (var n) (suc d) l rest w h = simp (lt-ltb n 32768 w.0, true_of (named l n) w.1)
  read_back (head f ts) zero l rest w h = absurd (not-suc-le-zero h)
  read_back (head f ts) (suc d) l rest w h =
      let a : (32768 + f * 16 + arity ts) % 16 ≡ arity ts = head_arity f (arity ts) w.1 in
      let s : (32768 + f * 16 + arity ts) / 16 % 2048 ≡ f = head_symbol f (arity ts) w.0 w.1 in
      let b : 32768 ≤ 32768 + f * 16 + arity ts = omega arith in
      simp (le-ltb (32768 + f * 16 + arity ts) 32768 b, a, s) (ap (under_head f) (row_back ts d l rest w.2 (omega arith)))

  row_back : (ts : Terms) (d l : ℕ) (rest : List ℕ) → WritableRow l ts → length (tokens_row ts) ≤ d
      → read_row (read_within d l) (arity ts) (tokens_row ts ++ rest) ≡ some
      (record { value = ts; used = length (tokens_row ts) })
  row_back nil d l rest w h = refl
  row_back (cons t ts) d l rest w h =
      let e : length (tokens t ++ tokens_row ts) ≡ length (tokens t) + length (tokens_row ts) = length-append (tokens t)
      (tokens_row ts) in
      rw (
        append_assoc (tokens t) (tokens_row ts) rest,
        read_back t d l (tokens_row ts ++ rest) w.0 (omega arith),
        drop-append_seam (tokens t) (tokens_row ts ++ rest),
        row_back ts d l rest w.1 (omega arith),
        e,
      )

-- ---- What is read is what was written: the tokens taken are those of the term

tokens_drop : (n : ℕ) (ts : List ℕ) → Tokens ts → Tokens (drop n ts)
unfolding Tokens
tokens_drop zero ts h = h
tokens_drop (suc n) [] h = tt
tokens_drop (suc n) (t ∷ ts) h = tokens_drop n ts h.1

-- the tokens taken from s are those of a term with variables X1 to Xl
pub record Taken (l : ℕ) (s : List ℕ) (r : Read Term) : Type 0 where
  pub is : take r.used s ≡ tokens r.value
  pub inside : r.used ≤ length s
  pub writable : Writable l r.value

-- and those of a row of k terms
pub record TakenRow (l k : ℕ) (s : List ℕ) (r : Read Terms) : Type 0 where
  pub is : take r.used s ≡ tokens_row r.value
  pub inside : r.used ≤ length s
  pub count : arity r.value ≡ k
  pub writable : WritableRow l r.value

row_taken : (l : ℕ) (read : List ℕ → Option (Read Term)) → ((s : List ℕ) → Tokens s → Given (Taken l s) (read s))
    → (k : ℕ) (s : List ℕ) → Tokens s → Given (TakenRow l k s) (read_row read k s)
unfolding read_row tokens_row arity WritableRow
row_taken l read h zero s w =
    given {a = record { value = nil; used = 0 }} (record { is = refl; inside = omega arith; count = refl; writable = tt })
row_taken l read h (suc k) s w =
    given_then _ (h s w)
    (λ t a.
    given_then _ (row_taken l read h k (drop t.used s) (tokens_drop t.used s w))
    (λ r b.
    let n : t.used + r.used ≤ length s = omega (arith, length-drop t.used s) in
    given (record {
      is = take-add t.used r.used s ∙ rw (a.is, b.is);
      inside = n;
      count = ap suc b.count;
      writable = (a.writable, b.writable);
    })))

head_taken : (l t : ℕ) (s : List ℕ) (o : Option (Read Terms)) → 32768 ≤ t → t < 65536 → Given (TakenRow l (arity_of t) s) o
    → Given (Taken l (t ∷ s)) (under_head (symbol_of t) o)
unfolding under_head tokens Writable
head_taken l t s o high_bit small g =
    given_then _ g
    (λ r a.
    let e : 32768 + symbol_of t * 16 + arity r.value ≡ t = omega (arith, a.count) in
    given {a = record { value = head (symbol_of t) r.value; used = suc r.used }}
    (record {
      is = rw (e, a.is);
      inside = let i = a.inside in omega arith;
      writable = (omega arith, omega (arith, a.count), a.writable);
    }))

read_taken : (d l : ℕ) (s : List ℕ) → Tokens s → Given (Taken l s) (read_within d l s)
unfolding read_within tokens Tokens Writable
read_taken zero l s w = nothing
read_taken (suc d) l [] w = nothing
read_taken (suc d) l (t ∷ s) w =
    go (is_variable t) (named l t) (ltb→lt t 32768) (nltb→le t 32768) (λ n. n)
    (row_taken l (read_within d l) (read_taken d l) (arity_of t) s w.1)
  where
    go : (b c : Bool) → (T b → t < 32768) → (T (not b) → 32768 ≤ t) → (T c → T (named l t))
        → Given (TakenRow l (arity_of t) s) (read_row (read_within d l) (arity_of t) s)
        → Given (Taken l (t ∷ s)) (cond b (cond c (some (record { value = var t; used = 1 })) none)
        (under_head (symbol_of t) (read_row (read_within d l) (arity_of t) s)))
    go true true small big name row =
        given {a = record { value = var t; used = 1 }}
        (record { is = refl; inside = omega arith; writable = (small tt, name tt) })
    go true false small big name row = nothing
    go false c small big name row = head_taken l t s _ (big tt) w.0 row

-- ---- Whole terms

whole_taken : (l : ℕ) (ts : List ℕ) → Tokens ts → Given (λ (t : Term). Writable l t × ts ≡ tokens t) (whole_term l ts)
unfolding whole_term read_term
whole_taken l ts w =
    given_then _ (read_taken (length ts) l ts w) (λ r a. go r a (eqb r.used (length ts)) (eqb→eq r.used (length ts)))
  where
    go : (r : Read Term) → Taken l ts r → (b : Bool) → (T b → r.used ≡ length ts)
        → Given (λ (t : Term). Writable l t × ts ≡ tokens t) (cond b (some r.value) none)
    go r a true e = given (a.writable, sym (take_all r.used ts (omega (arith, e tt))) ∙ a.is)
    go r a false e = nothing

-- Every whole term that a row encodes is read back as itself, and a row that reads as a term is that term's encoding.
pub whole_exact : (l : ℕ) (ts : List ℕ) (t : Term) → Tokens ts → (whole_term l ts ≡ some t) ↔ (Writable l t × ts ≡ tokens t)
unfolding whole_term read_term ◌>>=◌
whole_exact l ts t w = (given_at (whole_taken l ts w) t, λ h. back h.0 h.1)
  where
    back : Writable l t → ts ≡ tokens t → whole_term l ts ≡ some t
    back v e =
        let k : read_within (length (tokens t)) l (tokens t) ≡ some (record { value = t; used = length (tokens t) }) =
        rw append-nil at (read_back t (length (tokens t)) l [] v (omega arith)) in
        rw (e, k, true_of (eqb (length (tokens t)) (length (tokens t))) (eqb_refl (length (tokens t))))
