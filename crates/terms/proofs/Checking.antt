-- What the check of a term answers, from what the reader answers. Assumes nothing.
use mathlib.Core.Path.{◌≡◌, refl, sym, ap, subst, ◌∙◌}
use mathlib.Core.Bool.{Bool, true, false, cond}
use mathlib.Core.List.{List, [], ◌∷◌}
use mathlib.Core.Option.{Option, some, none}
use Prim.Native.Nat.{ℕ, ◌+◌, ◌≤◌, ◌<◌}
use native.Mathlib.Omega.{arith}
use borrow.Author.Tests.{eqb-true, le-leb, lt-leb}
use lib.Dec.{T, leb, eqb}
use lib.ListN.{length}
use lib.Seq.{take_all}
use Rattle.model.specs.Growth.{◌>>=◌}
use Rattle.model.specs.Terms.{Term, occurs, variables}
use Rattle.model.specs.Tokens.{named, Read, read_within, read_term, whole_term}
use Rattle.model.specs.Walk.{Sides}
use Rattle.model.proofs.Given.{Given, nothing, given}
use Rattle.words.specs.Words.{set_word}
use Rattle.tables.specs.declared.Refusal.{Refusal}
use Rattle.tables.specs.declared.Refusal.TheVariants as R
use Rattle.tables.specs.Refusals as A
use Rattle.tables.specs.Refusals.{member, one_of}
use Rattle.terms.specs.Checks.{used, parsed, all_named, word_of, Outcome, reads, refuses, if_read, term_or_6}
use Rattle.terms.specs.Checks.{check_term, most_tokens, check_equation, check_sides, check_answer, checked}
use Rattle.std.specs.Prelude.{Some, None}
use Rattle.std.specs.Prelude as P
use Rattle.terms.specs.Checks.{Checked}
use Rattle.terms.specs.Checks.{Variables, Refused}
use Rattle.terms.proofs.Reader.{Parsed, read_parsed}

-- the word w of the variables among all n tokens, if the term uses them all
abbrev pub all_parsed : ℕ → ℕ → P.Option ℕ → Checked
all_parsed n w None = Refused R.Term
all_parsed n w (Some m) = cond (eqb m n) (Variables w) (Refused R.Term)

-- tokens all named are checked by what the reader answers
pub term_checked : (l : ℕ) (ts : List ℕ) (a : P.Option ℕ) → all_named l ts ≡ true → parsed l ts ≡ a
    → all_parsed (length ts) (word_of ts) a ≡ checked l (check_term l ts)
unfolding parsed used check_term checked term_or_6 whole_term read_term variables ◌>>=◌
term_checked l ts a n e = rw (← e, n) (go (read_within (length ts) l ts) (read_parsed (length ts) l ts))
  where
    go : (o : Option (Read Term)) → Given (Parsed occurs l ts) o
        → all_parsed (length ts) (word_of ts) (used o)
        ≡ checked l (term_or_6 (o >>= λ t. cond (eqb t.used (length ts)) (some t.value) none))
    go none nothing = refl
    go (some r) (given t) = whole (eqb r.used (length ts)) refl
      where
        whole : (b : Bool) → eqb r.used (length ts) ≡ b
            → cond b (Variables (word_of ts)) (Refused R.Term) ≡ checked l (term_or_6 (cond b (some r.value) none))
        whole true i =
            let h = eqb-true r.used (length ts) i in
            ap Variables (ap word_of (sym (take_all r.used ts (omega arith))) ∙ t.word)
        whole false i = refl

-- The checks of an equation refuse by 7, 5 or 6.
pub equation_numbers : (l x : ℕ) (ts : List ℕ) (r : Refusal) → check_equation l x ts ≡ refuses r
    → T (one_of (7 ∷ 5 ∷ 6 ∷ []) r)
unfolding check_equation check_term term_or_6 one_of member
equation_numbers l x ts r e = go (leb (length ts) most_tokens) (named l x) (all_named l ts) (whole_term l ts) e
  where
    by : (s : Refusal) → T (one_of (7 ∷ 5 ∷ 6 ∷ []) s) → ◌≡◌ {A = Outcome Term} (refuses s) (refuses r)
        → T (one_of (7 ∷ 5 ∷ 6 ∷ []) r)
    by s h d = subst (λ (i : Refusal). T (one_of (7 ∷ 5 ∷ 6 ∷ []) i)) (let p : s ≡ r = cc in p) h

    go : (a b c : Bool) (o : Option Term)
        → cond a (cond b (cond c (term_or_6 o) (refuses R.Name)) (refuses R.Name)) (refuses R.Long) ≡ refuses r
        → T (one_of (7 ∷ 5 ∷ 6 ∷ []) r)
    go true true true (some u) d = absurd (let z : ◌≡◌ {A = ℕ} 0 1 = cc in omega arith)
    go true true true none d = by R.Term tt d
    go true true false o d = by R.Name tt d
    go true false c o d = by R.Name tt d
    go false b c o d = by R.Long tt d

-- ---- What the code says of a term, and what was read

-- The set of a term's variables: that term was read.
pub checked_reads : (l m : ℕ) (o : Outcome Term) → checked l o ≡ Variables m
    → (u : Term) × (o ≡ reads u) × (m ≡ set_word (variables l u))
unfolding checked
checked_reads l m (reads u) e = (u, refl, sym cc)
checked_reads l m (refuses r) e = absurd (let z : ◌≡◌ {A = ℕ} 0 1 = cc in omega arith)

-- A refusal is that of the check.
pub checked_refuses : (l : ℕ) (r : Refusal) (o : Outcome Term) → checked l o ≡ Refused r → o ≡ refuses r
unfolding checked
checked_refuses l r (reads u) e = absurd (let z : ◌≡◌ {A = ℕ} 0 1 = cc in omega arith)
checked_refuses l r (refuses s) e = cc

-- A term that passed its check is the one whole term.
pub read_whole : (l : ℕ) (s : List ℕ) (t : Term) → check_term l s ≡ reads t → whole_term l s ≡ some t
unfolding check_term term_or_6
read_whole l s t e = go (all_named l s) (whole_term l s) e
  where
    go : (b : Bool) (o : Option Term) → cond b (term_or_6 o) (refuses R.Name) ≡ reads t → o ≡ some t
    go true none e = absurd (let z : ◌≡◌ {A = ℕ} 0 1 = cc in omega arith)
    go true (some u) e = cc
    go false o e = absurd (let z : ◌≡◌ {A = ℕ} 0 1 = cc in omega arith)

-- ---- Two terms

module _ (l : ℕ) (ss ts : List ℕ) where
  -- Too many tokens together.
  pub sides_long : most_tokens < length ss + length ts → A.Refused R.Long ≡ check_answer (check_sides l ss ts)
  unfolding check_sides check_answer
  sides_long h = rw (lt-leb _ most_tokens h)

  module _ (h : length ss + length ts ≤ most_tokens) where
    -- The left side is refused,
    pub sides_left : {r : Refusal} → check_term l ss ≡ refuses r → A.Refused r ≡ check_answer (check_sides l ss ts)
    unfolding check_sides check_answer if_read
    sides_left e = rw (le-leb _ most_tokens h, e)

    module _ {s : Term} (e : check_term l ss ≡ reads s) where
      -- or else the right,
      pub sides_right : {r : Refusal} → check_term l ts ≡ refuses r → A.Refused r ≡ check_answer (check_sides l ss ts)
      unfolding check_sides check_answer if_read
      sides_right f = rw (le-leb _ most_tokens h, e, f)

      -- or both are read.
      pub sides_read : {t : Term} → check_term l ts ≡ reads t → check_sides l ss ts ≡ reads (record { left = s; right = t })
      unfolding check_sides if_read
      sides_read f = rw (le-leb _ most_tokens h, e, f)

-- The checks of two terms refuse by 7, 5 or 6.
pub sides_numbers : (l : ℕ) (ss ts : List ℕ) (r : Refusal) → check_sides l ss ts ≡ refuses r → T (one_of (7 ∷ 5 ∷ 6 ∷ []) r)
unfolding check_sides check_term if_read term_or_6 one_of member
sides_numbers l ss ts r e =
    go (leb (length ss + length ts) most_tokens) (all_named l ss) (whole_term l ss) (all_named l ts) (whole_term l ts) e
  where
    by : (s : Refusal) → T (one_of (7 ∷ 5 ∷ 6 ∷ []) s) → ◌≡◌ {A = Outcome Sides} (refuses s) (refuses r)
        → T (one_of (7 ∷ 5 ∷ 6 ∷ []) r)
    by s h d = subst (λ (i : Refusal). T (one_of (7 ∷ 5 ∷ 6 ∷ []) i)) (let p : s ≡ r = cc in p) h

    go : (a b : Bool) (o : Option Term) (c : Bool) (p : Option Term)
        → cond {A = Outcome Sides} a
        (if_read (cond b (term_or_6 o) (refuses R.Name)) refuses (λ s.
        if_read (cond c (term_or_6 p) (refuses R.Name)) refuses (λ t. reads (record { left = s; right = t }))))
        (refuses R.Long) ≡ refuses r
        → T (one_of (7 ∷ 5 ∷ 6 ∷ []) r)
    go true true (some s) true (some t) d = absurd (let z : ◌≡◌ {A = ℕ} 0 1 = cc in omega arith)
    go true true (some s) true none d = by R.Term tt d
    go true true (some s) false p d = by R.Name tt d
    go true true none c p d = by R.Term tt d
    go true false o c p d = by R.Name tt d
    go false b o c p d = by R.Long tt d
