-- A run equation by equation: where it goes on from a place, it gives the whole. Assumes nothing.
use mathlib.Core.Path.{◌≡◌, sym, ap, ◌∙◌}
use mathlib.Core.List.{List}
use Prim.Native.Nat.{ℕ, ◌+◌, ◌-◌, ◌*◌, ◌/◌, ◌%◌, ◌≤◌}
use native.Mathlib.Omega.{arith}
use borrow.Author.Tests.{le-leb}
use lib.ListN.{length, take, drop, length-drop}
use lib.Seq.{length-take-le, take_all}
use Rattle.model.specs.Tables.{Side}
use Rattle.tables.specs.declared.Table.{Table}
use Rattle.tables.specs.declared.Refusal.{Refusal}
use Rattle.tables.specs.Refusals.{Accepted, Refused}
use Rattle.tables.specs.declared.Answered.{Answered}
use Rattle.tables.specs.Refusals.{refusal_number, if_accepted}
use Rattle.terms.specs.Checks.{most_tokens, Written, one_term, two_terms}
use Rattle.operations.specs.Operations.{side_numbered, written_call}
use Rattle.codec.specs.Numbers.{numbers}
use Rattle.codec.proofs.Laws.{length_words, words_drop, words_take}
use Rattle.equation_forms.specs.declared.Cursor.{Cursor}
use Rattle.equation_forms.specs.declared.Left.{Left}
use Rattle.equation_forms.specs.declared.Left.TheVariants as L
use Rattle.equation_forms.specs.EquationForms.{span, equation_of, equations_in, GoodSizes, On, start, Here, Past}
use Rattle.equation_forms.specs.EquationForms.{left_at, count_at, span_at, tokens_at, this, after, rest}
use Rattle.equation_forms.proofs.Cursors.{on_start, rest_start, rest_none, on_next, rest_next, tokens_long, tokens_few}
use Rattle.byte_calls.specs.ByteCalls.{check_bytes, check_both_bytes, tokens_of, written_tokens, value_call}
use Rattle.byte_calls.proofs.AfterChecks.{check_all_bytes, bytes_passed}
use Rattle.running.specs.States.{state, run_from}

-- ---- An equation as the bytes of a form

-- The equation, by its number in the first array and the bytes of its tokens.
abbrev pub in_bytes : Left → ℕ → List ℕ → Written
in_bytes L.Variable x b = one_term x b
in_bytes L.Term a b = two_terms (take (2 * a) b) (drop (2 * a) b)

-- The bytes are those of the term,
pub one_part : {f : Left} → f ≡ L.Variable → (x : ℕ) (b : List ℕ) → one_term x b ≡ in_bytes f x b
one_part v x b = rw v

-- or of the left side and then of the right.
pub two_parts : {f : Left} → f ≡ L.Term → (a : ℕ) (b : List ℕ)
    → two_terms (take (2 * a) b) (take (length b - 2 * a) (drop (2 * a) b)) ≡ in_bytes f a b
two_parts t a b = rw (t, take_all (length b - 2 * a) (drop (2 * a) b) (omega (arith, length-drop (2 * a) b)))

-- two bytes a token
even : (b : List ℕ) (n : ℕ) → length b ≡ 2 * n → (length b / 2 ≡ n) × (length b % 2 ≡ 0)
even b n e = (omega (arith, e), omega (arith, e))

-- Its bytes pass their checks.
bytes_pass : (f : Left) (x c : ℕ) (b : List ℕ) → length b ≡ 2 * span f x c → span f x c ≤ most_tokens
    → check_all_bytes (in_bytes f x b) ≡ Accepted
unfolding check_all_bytes check_bytes check_both_bytes
bytes_pass L.Variable x c b long few =
    let h = even b c long in
    rw (h.0, h.1, le-leb c most_tokens few)
bytes_pass L.Term a c b long few =
    let h = even (take (2 * a) b) a (length-take-le (2 * a) b (omega (arith, long))) in
    let k = even (drop (2 * a) b) c (omega (arith, length-drop (2 * a) b, long)) in
    rw (h.0, h.1, k.0, k.1, le-leb (a + c) most_tokens few)

-- Its tokens are those of the bytes.
in_tokens : (f : Left) (x c : ℕ) (b : List ℕ) → length b ≡ 2 * span f x c
    → written_tokens (in_bytes f x b) ≡ equation_of f x c (numbers (length b / 2) b)
unfolding written_tokens tokens_of
in_tokens L.Variable x c b long =
    let h = even b c long in
    rw h.0 (ap (one_term x) (sym (take_all c (numbers c b) (omega (arith, length_words 2 c b)))))
in_tokens L.Term a c b long =
    let n = even b (a + c) long in
    let h = even (take (2 * a) b) a (length-take-le (2 * a) b (omega (arith, long))) in
    let k = even (drop (2 * a) b) c (omega (arith, length-drop (2 * a) b, long)) in
    let m : a + c - a ≡ c = omega arith in
    let back : drop a (numbers (a + c) b) ≡ numbers c (drop (2 * a) b) =
    rw m at (words_drop 2 a (a + c) b (omega arith)) in
    rw (h.0, k.0, n.0, back, take_all c (numbers c (drop (2 * a) b)) (omega (arith, length_words 2 c (drop (2 * a) b))))
    (ap (λ (ts : List ℕ). two_terms ts (numbers c (drop (2 * a) b)))
    (sym (words_take 2 a (a + c) b (omega arith) (omega (arith, long)))))

-- The bytes of a left side are among them.
pub left_within : {f : Left} {c : Cursor} {q : List ℕ} → On f c q → Here c → {x : ℕ} → x ≡ left_at c q
    → {part : List ℕ} → part ≡ tokens_at f c q → f ≡ L.Term → 2 * x ≤ length part
left_within {f} {c} {q} on here left is t =
    let all : span_at f c q ≡ left_at c q + count_at c q = rw t in
    rw is (omega (arith, tokens_long on here, all, left))

-- The equation at a place of a form is called with the bytes of its tokens.
pub step_is : (side : Side) (t : Table) {f : Left} {c : Cursor} {q : List ℕ} → On f c q → Here c
    → {x : ℕ} → x ≡ left_at c q → {part : List ℕ} → part ≡ tokens_at f c q
    → value_call side t (in_bytes f x part) ≡ written_call side t (this f c q)
step_is side t {f} {c} {q} on here left is =
    let long = tokens_long on here in
    let few = tokens_few on here in
    rw (left, is)
    (bytes_passed side t (in_bytes f (left_at c q) (tokens_at f c q))
    (bytes_pass f (left_at c q) (count_at c q) (tokens_at f c q) long (omega (arith, long, few)))
    ∙ ap (written_call side t) (in_tokens f (left_at c q) (count_at c q) (tokens_at f c q) long))

-- ---- The run

-- To go on from this place, with the table u, gives the whole run of all the equations.
pub record SoFar (f : Left) (side : ℕ) (q : List ℕ) (t u : Table) (c : Cursor) : Type 0 where
  pub on : On f c q
  pub goes : run_from side u c.k (rest f c q) ≡ run_from side t 0 (equations_in f q)

-- So it is before the first equation.
pub so_far_start : {f : Left} (side : ℕ) {q : List ℕ} (t : Table) → GoodSizes f q → SoFar f side q t t (start q)
so_far_start {f} side {q} t s = record { on = on_start s; goes = ap (run_from side t 0) (rest_start f q) }

module _ {f : Left} {side : ℕ} {q : List ℕ} {t u : Table} {c : Cursor} (s : SoFar f side q t u c) where
  -- After the last one the run is accepted.
  pub so_far_end : Past c → state 0 side c.k u ≡ run_from side t 0 (equations_in f q)
  unfolding run_from
  so_far_end past = ap (run_from side u c.k) (sym (rest_none s.on past)) ∙ s.goes

  module _ (here : Here c) {d : Side} (same : d ≡ side_numbered side) {a : Answered}
      (is : a ≡ written_call d u (this f c q)) where
    -- the equation, and the run after it
    next : if_accepted a.answer (λ r. state (refusal_number r) side c.k a.table)
        (run_from side a.table (c.k + 1) (rest f (after f c q) q))
        ≡ run_from side t 0 (equations_in f q)
    unfolding run_from
    next = rw (is, same) (ap (run_from side u c.k) (sym (rest_next s.on here)) ∙ s.goes)

    -- Where the equation at the place is refused the run stops.
    pub so_far_stop : {r : Refusal} → a.answer ≡ Refused r
        → state (refusal_number r) side c.k a.table ≡ run_from side t 0 (equations_in f q)
    unfolding if_accepted
    so_far_stop e = let g = next in rw e at g

    -- Where it is accepted the run goes on after it.
    pub so_far_step : a.answer ≡ Accepted → SoFar f side q t a.table (after f c q)
    unfolding if_accepted
    so_far_step e = record { on = on_next s.on here; goes = let g = next in rw e at g }
