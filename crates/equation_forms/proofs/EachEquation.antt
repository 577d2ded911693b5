-- The checks of the equations of a form, one after another: to go on from a place gives the whole. Assumes nothing.
use mathlib.Core.Path.{◌≡◌, refl, sym, ap, ◌∙◌}
use mathlib.Core.List.{List}
use Prim.Native.Nat.{ℕ, ◌-◌, ◌/◌, ◌≤◌}
use native.Mathlib.Omega.{arith}
use lib.ListN.{length, take, drop}
use lib.Seq.{take_at}
use Rattle.model.specs.Walk.{Sides}
use Rattle.tables.specs.Refusals.{Answer}
use Rattle.tables.specs.Refusals.{Accepted, Refused}
use Rattle.tables.specs.declared.Refusal.{Refusal}
use Rattle.terms.specs.Checks as K
use Rattle.terms.specs.Checks.{Outcome, reads, refuses, if_read, check_equation, one_term, two_terms, check_written}
use Rattle.terms.specs.Checks.{check_answer, checked, most_tokens}
use Rattle.terms.proofs.Checking.{checked_reads, checked_refuses}
use Rattle.codec.specs.Numbers.{numbers, with_zeros}
use Rattle.codec.proofs.Laws.{length_words}
use Rattle.equation_forms.specs.declared.Cursor.{Cursor}
use Rattle.equation_forms.specs.declared.Left.{Left}
use Rattle.equation_forms.specs.declared.Left.TheVariants as L
use Rattle.equation_forms.specs.EquationForms.{equation_of, equations_in, check_each, GoodSizes, On, start, Here, Past}
use Rattle.equation_forms.specs.EquationForms.{left_at, count_at, span_at, tokens_at, this, after, rest}
use Rattle.equation_forms.proofs.Cursors.{own_tokens, on_start, rest_start, rest_none, on_next, tokens_long, tokens_few}
use Rattle.equation_forms.proofs.Cursors.{rest_next}

-- ---- The tokens of one equation

-- The equation's number in the first array, the part of the form that holds its tokens, and the array they are read into.
pub record Filled (f : Left) (c : Cursor) (b : List ℕ) (x : ℕ) (part row : List ℕ) : Type 0 where
  pub on : On f c b
  pub here : Here c
  pub left : x ≡ left_at c b
  pub is : part ≡ tokens_at f c b
  pub filled : row ≡ with_zeros most_tokens (numbers (length part / 2) part)

module _ {f : Left} {c : Cursor} {b : List ℕ} {x : ℕ} {part row : List ℕ} (h : Filled f c b x part row) where
  half : length part / 2 ≡ span_at f c b
  half = rw h.is (omega (arith, tokens_long h.on h.here))

  -- they are not more than the array has room for
  pub array_room : length part / 2 ≤ most_tokens
  array_room = rw h.is (tokens_few h.on h.here)

  array_tokens : equation_of f x (count_at c b) row ≡ this f c b
  unfolding with_zeros
  array_tokens =
      let n = length (tokens_at f c b) / 2 in
      let e : n ≡ span_at f c b = omega (arith, tokens_long h.on h.here) in
      rw (h.left, h.filled, h.is)
      (sym (own_tokens f (left_at c b) (count_at c b) _)
      ∙ ap (equation_of f (left_at c b) (count_at c b))
      (take_at (numbers n (tokens_at f c b)) _ (span_at f c b) (length_words 2 n (tokens_at f c b) ∙ e)))

  -- With a variable on the left they are those of the term.
  pub one_term_read : f ≡ L.Variable → one_term x (take (length part / 2) row) ≡ this f c b
  one_term_read v =
      let n : length part / 2 ≡ count_at c b = rw v at half in
      let e : one_term x (take (length part / 2) row) ≡ equation_of f x (count_at c b) row = rw (v, n) in
      e ∙ array_tokens

  module _ (t : f ≡ L.Term) where
    -- With a term on the left its tokens are the first ones,
    pub left_first : x ≤ length part / 2
    left_first = let n = rw t at half in omega (arith, n, h.left)

    -- and those of the right side come after them.
    pub two_terms_read : two_terms (take x row) (take (length part / 2 - x) (drop x row)) ≡ this f c b
    two_terms_read =
        let n : length part / 2 - x ≡ count_at c b = (let m = rw t at half in omega (arith, m, h.left)) in
        let e : two_terms (take x row) (take (length part / 2 - x) (drop x row)) ≡ equation_of f x (count_at c b) row
        = rw (t, n) in
        e ∙ array_tokens

-- ---- What the code answers to one equation

module _ (l x : ℕ) (ts : List ℕ) where
  -- A term that is refused.
  pub one_term_refused : {r : Refusal} → checked l (check_equation l x ts) ≡ K.Refused r
      → Refused r ≡ check_answer (check_written l (one_term x ts))
  unfolding check_answer check_written if_read
  one_term_refused e = rw (checked_refuses l _ (check_equation l x ts) e)

  -- A term that is read.
  pub one_term_accepted : {v : ℕ} → checked l (check_equation l x ts) ≡ K.Variables v
      → Accepted ≡ check_answer (check_written l (one_term x ts))
  unfolding check_answer check_written if_read
  one_term_accepted e = rw (checked_reads l _ (check_equation l x ts) e).1

module _ (a : Answer) where
  stopped : (o : Outcome Sides) (r : Refusal) → Refused r ≡ check_answer o → Refused r ≡ if_read o Refused (λ u. a)
  unfolding check_answer if_read
  stopped (reads s) r q = absurd (let z : ◌≡◌ {A = ℕ} 0 1 = cc in omega arith)
  stopped (refuses s) r q = q

  went : (o : Outcome Sides) → Accepted ≡ check_answer o → a ≡ if_read o Refused (λ u. a)
  unfolding check_answer if_read
  went (reads s) q = refl
  went (refuses s) q = absurd (let z : ◌≡◌ {A = ℕ} 0 1 = cc in omega arith)

-- ---- Equation by equation

-- To go on from this place gives the whole.
pub record SoFar (f : Left) (l : ℕ) (b : List ℕ) (c : Cursor) : Type 0 where
  pub on : On f c b
  pub goes : check_each l (rest f c b) ≡ check_each l (equations_in f b)

-- So it is before the first equation.
pub so_far_start : {f : Left} (l : ℕ) {b : List ℕ} → GoodSizes f b → SoFar f l b (start b)
so_far_start {f} l {b} s = record { on = on_start s; goes = ap (check_each l) (rest_start f b) }

module _ {f : Left} {l : ℕ} {b : List ℕ} {c : Cursor} (s : SoFar f l b c) where
  -- After the last one all are accepted.
  pub so_far_end : Past c → Accepted ≡ check_each l (equations_in f b)
  unfolding check_each
  so_far_end past = ap (check_each l) (sym (rest_none s.on past)) ∙ s.goes

  module _ (here : Here c) {a : Answer} (is : a ≡ check_answer (check_written l (this f c b))) where
    -- what is answered to the equation, and to those after it
    next : if_read (check_written l (this f c b)) Refused (λ u. check_each l (rest f (after f c b) b))
        ≡ check_each l (equations_in f b)
    unfolding check_each
    next = ap (check_each l) (sym (rest_next s.on here)) ∙ s.goes

    -- The refusal of the equation at the place is that of all.
    pub so_far_stop : {r : Refusal} → a ≡ Refused r → Refused r ≡ check_each l (equations_in f b)
    so_far_stop {r} q = stopped _ (check_written l (this f c b)) r (sym q ∙ is) ∙ next

    -- Where it is accepted the checks go on after it.
    pub so_far_step : a ≡ Accepted → SoFar f l b (after f c b)
    so_far_step q =
        record { on = on_next s.on here; goes = went _ (check_written l (this f c b)) (sym q ∙ is) ∙ next }
