-- What the form of equations is answered, test by test. Assumes nothing.
use mathlib.Core.Path.{◌≡◌, refl, sym, ap, ◌∙◌}
use mathlib.Core.Bool.{true, false, ◌&&◌}
use mathlib.Core.List.{List, [], ◌∷◌}
use Prim.Native.Nat.{ℕ, ◌+◌, ◌*◌, ◌≤◌, ◌<◌}
use native.Mathlib.Omega.{arith}
use borrow.Author.Tests.{le-leb, lt-leb, eq-eqb, ne_eqb, leb-true}
use lib.Dec.{leb}
use lib.ListN.{length, drop}
use lib.Seq.{drop-drop}
use Rattle.tables.specs.declared.Refusal.TheVariants as R
use Rattle.tables.specs.Refusals.{Refused}
use Rattle.tables.proofs.Tests.{both_true}
use Rattle.terms.specs.Checks.{most_tokens}
use Rattle.codec.specs.Numbers.{numbers, sum}
use Rattle.codec.proofs.Laws.{length_words, words_sum}
use Rattle.equation_forms.specs.declared.Left.{Left}
use Rattle.equation_forms.specs.declared.Left.TheVariants.{Variable, Term}
use Rattle.forms.specs.TableForms.{sized, first_size, second_size}
use Rattle.equation_forms.specs.EquationForms.{most_equations, equations_length, lefts, counts, spans, equations_in, check_each}
use Rattle.equation_forms.specs.EquationForms.{tokens_counted, check_sized, check_equations, GoodSizes}

-- ---- The counts of equations

-- with a variable on the left the second row has the tokens
spans_variable : (xs cs : List ℕ) → length xs ≡ length cs → spans Variable xs cs ≡ cs
unfolding spans
spans_variable [] [] h = refl
spans_variable [] (c ∷ cs) h = absurd (omega arith)
spans_variable (x ∷ xs) [] h = absurd (omega arith)
spans_variable (x ∷ xs) (c ∷ cs) h = ap (λ (r : List ℕ). c ∷ r) (spans_variable xs cs (omega arith))

-- with a term on the left both rows have tokens
spans_term : (xs cs : List ℕ) → length xs ≡ length cs → sum (spans Term xs cs) ≡ sum xs + sum cs
unfolding spans sum
spans_term [] [] h = refl
spans_term [] (c ∷ cs) h = absurd (omega arith)
spans_term (x ∷ xs) [] h = absurd (omega arith)
spans_term (x ∷ xs) (c ∷ cs) h = omega (arith, spans_term xs cs (omega arith))

module _ (e : ℕ) (b : List ℕ) where
  same_long : length (lefts e b) ≡ length (counts e b)
  same_long = length_words 2 e (drop 4 b) ∙ sym (length_words 2 e (drop (4 + 2 * e) b))

  -- The second row is summed,
  pub counted_right : sum (numbers e (drop (4 + 2 * e) b)) ≡ tokens_counted Variable e b
  counted_right = ap sum (sym (spans_variable (lefts e b) (counts e b) same_long))

  -- or both as one.
  pub counted_both : sum (numbers (2 * e) (drop 4 b)) ≡ tokens_counted Term e b
  counted_both =
      let d : 2 * e ≡ e + e = omega arith in
      ap (λ (n : ℕ). sum (numbers n (drop 4 b))) d
      ∙ words_sum 2 e e (drop 4 b)
      ∙ ap (λ (r : List ℕ). sum (lefts e b) + sum (numbers e r)) (drop-drop (2 * e) 4 b)
      ∙ sym (spans_term (lefts e b) (counts e b) same_long)

-- ---- The checks of equations

-- No sizes: 1.
pub equations_unsized : (f : Left) (l : ℕ) (b : List ℕ) → length b < 4 → Refused R.Torn ≡ check_equations f l b
unfolding check_equations sized
equations_unsized f l b short = rw (lt-leb 4 (length b) short)

module _ (f : Left) (l : ℕ) (b : List ℕ) (e m : ℕ) (ee : e ≡ first_size b) (em : m ≡ second_size b)
    (room : 4 ≤ length b) where
  checks_sized : check_equations f l b ≡ check_sized f l e m b
  unfolding check_equations sized
  checks_sized = rw (le-leb 4 (length b) room, ee, em)

  -- Too many equations or tokens: 7.
  pub equations_long : (leb e most_equations && leb m most_tokens) ≡ false → Refused R.Long ≡ check_equations f l b
  unfolding check_sized
  equations_long h = rw (checks_sized, h)

  module _ (few : (leb e most_equations && leb m most_tokens) ≡ true) where
    -- A length that the sizes do not give: 1.
    pub equations_torn : ¬ (length b ≡ equations_length e m) → Refused R.Torn ≡ check_equations f l b
    unfolding check_sized
    equations_torn h = rw (checks_sized, few, ne_eqb (length b) (equations_length e m) h)

    module _ (whole : length b ≡ equations_length e m) where
      -- Counts that do not sum to the tokens: 6.
      pub equations_sum : ¬ (tokens_counted f e b ≡ m) → Refused R.Term ≡ check_equations f l b
      unfolding check_sized
      equations_sum h =
          rw (checks_sized, few, eq-eqb (length b) (equations_length e m) whole, ne_eqb (tokens_counted f e b) m h)

      -- the sizes are good where every test of them is passed
      pub sizes_good : tokens_counted f e b ≡ m → GoodSizes f b
      sizes_good h =
          let most = both_true (leb e most_equations) (leb m most_tokens) few in
          record {
            few = rw ee at (leb-true e most_equations most.0);
            short = rw em at (leb-true m most_tokens most.1);
            long = rw (ee, em) at whole;
            whole = rw (ee, em) at h;
          }

-- Where the sizes are good the equations are checked, one by one.
pub equations_each : {f : Left} (l : ℕ) {b : List ℕ} → GoodSizes f b
    → check_each l (equations_in f b) ≡ check_equations f l b
unfolding check_equations check_sized sized
equations_each {f} l {b} g =
    rw (
      le-leb 4 (length b) (omega (arith, g.long)),
      le-leb (first_size b) most_equations g.few,
      le-leb (second_size b) most_tokens g.short,
      eq-eqb (length b) (equations_length (first_size b) (second_size b)) g.long,
      eq-eqb (tokens_counted f (first_size b) b) (second_size b) g.whole,
    )
