-- Bits of words made by "and" and "or", and what a word that one lacks alone, or that subsumes, says of positions. Assumes
-- nothing.
use Rattle.std.proofs.Common.{◌≡◌, ℕ, zero, suc, ◌+◌, ◌*◌, ◌/◌, ◌%◌, ◌^◌, ◌<◌, ◌≤◌, min, max, Bool, true, false, cond, ◌&&◌, ◌||◌, T, eqb, [], length, sym, refl, ap, ◌∙◌, subst, ap₂, arith}
use lib.Bits.{bit_and, bit_or, and_step, or_step, and_shr, or_shr, or_mod}
use Rattle.model.specs.Strings.{Trits, subsumes, fixed, flipped}
use Rattle.model.proofs.Subsuming.{subsumes_same}
use Rattle.model.proofs.Tests.{and_both, and_first, and_second}
use Rattle.words.specs.Words.{word, high, low, has, fixed_word, near, openings, set_word, lacks_word, lone_lack, if_over}
use Rattle.words.specs.Words.{lone}
use Rattle.words.proofs.Codec.{set_bit}
use Rattle.words.proofs.Halves.{care_word}
use Rattle.words.proofs.LackedBits.{word_near, openings_at}
use Rattle.words.proofs.Positions.{fixed_bit}
use Rattle.words.proofs.Shades.{word_edge, far_none}
use Rattle.words.proofs.Words.{word_subsumes}

-- ---- One bit

-- the lowest bit of a sum of a double and a bit
lowest : (a b : ℕ) → b < 2 → (a * 2 + b) % 2 ≡ b
lowest a b h = omega arith

one_bit_and : (x y : ℕ) → x < 2 → y < 2 → eqb (min x y) 1 ≡ (eqb x 1 && eqb y 1)
one_bit_and zero zero h k = refl
one_bit_and zero (suc zero) h k = refl
one_bit_and zero (suc (suc y)) h k = absurd (omega arith)
one_bit_and (suc zero) zero h k = refl
one_bit_and (suc zero) (suc zero) h k = refl
one_bit_and (suc zero) (suc (suc y)) h k = absurd (omega arith)
one_bit_and (suc (suc x)) y h k = absurd (omega arith)

one_bit_or : (x y : ℕ) → x < 2 → y < 2 → eqb (max x y) 1 ≡ (eqb x 1 || eqb y 1)
one_bit_or zero zero h k = refl
one_bit_or zero (suc zero) h k = refl
one_bit_or zero (suc (suc y)) h k = absurd (omega arith)
one_bit_or (suc zero) zero h k = refl
one_bit_or (suc zero) (suc zero) h k = refl
one_bit_or (suc zero) (suc (suc y)) h k = absurd (omega arith)
one_bit_or (suc (suc x)) y h k = absurd (omega arith)

min_lt : (x y : ℕ) → x < 2 → y < 2 → min x y < 2
min_lt zero zero h k = omega arith
min_lt zero (suc y) h k = omega arith
min_lt (suc x) zero h k = omega arith
min_lt (suc zero) (suc zero) h k = omega arith
min_lt (suc zero) (suc (suc y)) h k = absurd (omega arith)
min_lt (suc (suc x)) (suc y) h k = absurd (omega arith)

max_lt : (x y : ℕ) → x < 2 → y < 2 → max x y < 2
max_lt zero zero h k = omega arith
max_lt zero (suc zero) h k = omega arith
max_lt zero (suc (suc y)) h k = absurd (omega arith)
max_lt (suc zero) zero h k = omega arith
max_lt (suc zero) (suc zero) h k = omega arith
max_lt (suc zero) (suc (suc y)) h k = absurd (omega arith)
max_lt (suc (suc x)) y h k = absurd (omega arith)

-- bit i of "and" and of "or"
pub has_and : (i a b : ℕ) → has i (bit_and a b) ≡ (has i a && has i b)
has_and i a b =
    let x = a / 2 ^ i in
    let y = b / 2 ^ i in
    let p : x % 2 < 2 = omega arith in
    let q : y % 2 < 2 = omega arith in
    ap (λ (w : ℕ). eqb (w % 2) 1) (and_shr a b i ∙ and_step x y)
    ∙ ap (λ (w : ℕ). eqb w 1) (lowest (bit_and (x / 2) (y / 2)) (min (x % 2) (y % 2)) (min_lt (x % 2) (y % 2) p q))
    ∙ one_bit_and (x % 2) (y % 2) p q

pub has_or : (i a b : ℕ) → has i (bit_or a b) ≡ (has i a || has i b)
has_or i a b =
    let x = a / 2 ^ i in
    let y = b / 2 ^ i in
    let p : x % 2 < 2 = omega arith in
    let q : y % 2 < 2 = omega arith in
    ap (λ (w : ℕ). eqb (w % 2) 1) (or_shr a b i ∙ or_step x y)
    ∙ ap (λ (w : ℕ). eqb w 1) (lowest (bit_or (x / 2) (y / 2)) (max (x % 2) (y % 2)) (max_lt (x % 2) (y % 2) p q))
    ∙ one_bit_or (x % 2) (y % 2) p q

-- no bit of 0 is 1
pub has_none : (i : ℕ) → ¬ (T (has i 0))
unfolding set_word
has_none i h = subst T (set_bit [] i) h

-- ---- The positions that a word fixes

-- of "a or b"
fixed_or : (a b : ℕ) → fixed_word (bit_or a b) ≡ bit_or (bit_or (high a) (high b)) (bit_or (low a) (low b))
unfolding fixed_word
fixed_or a b = ap₂ bit_or (or_shr a b 32) (or_mod a b 32)

has_fixed_or : (i a b : ℕ) → has i (fixed_word (bit_or a b)) ≡
    ((has i (high a) || has i (high b)) || (has i (low a) || has i (low b)))
has_fixed_or i a b =
    ap (has i) (fixed_or a b) ∙ has_or i (bit_or (high a) (high b)) (bit_or (low a) (low b))
    ∙ ap₂ ◌||◌ (has_or i (high a) (high b)) (has_or i (low a) (low b))

has_fixed : (i a : ℕ) → has i (fixed_word a) ≡ (has i (high a) || has i (low a))
unfolding fixed_word
has_fixed i a = has_or i (high a) (low a)

-- "a or b" fixes what a fixes, and what b fixes
pub fixed_left : (i a b : ℕ) → T (has i (fixed_word a)) → T (has i (fixed_word (bit_or a b)))
fixed_left i a b h =
    rw (has_fixed_or i a b) (four (has i (high a)) (has i (high b)) (has i (low a)) (has i (low b)) (rw (has_fixed i a) at h))
  where
    four : (p q r s : Bool) → T (p || r) → T ((p || q) || (r || s))
    four true q r s h = tt
    four false true r s h = tt
    four false false true s h = tt
    four false false false s h = absurd h

pub fixed_right : (i a b : ℕ) → T (has i (fixed_word b)) → T (has i (fixed_word (bit_or a b)))
fixed_right i a b h =
    rw (has_fixed_or i a b) (four (has i (high a)) (has i (high b)) (has i (low a)) (has i (low b)) (rw (has_fixed i b) at h))
  where
    four : (p q r s : Bool) → T (q || s) → T ((p || q) || (r || s))
    four true q r s h = tt
    four false true r s h = tt
    four false false true s h = tt
    four false false false s h = h

-- ---- What a string lacks alone of another, and one that subsumes it

module _ (e y : Trits) (n : length e ≡ length y) (short : length e ≤ 32) where
  -- a position that e opens of y, which it does not subsume, is the one that y lacks
  pub lack_opens : (i : ℕ) → subsumes e y ≡ false → T (fixed i y) → T (subsumes e (flipped i y))
      → T (has i (fixed_word (lone_lack (word e) (word y)))) × T (has i (fixed_word (word y)))
  unfolding lone_lack
  lack_opens i apart f h = go (near e y) refl
    where
      w : ℕ
      w = lacks_word (word e) (word y)

      opened : T (has i (set_word (openings e y)))
      opened =
          subst T (sym (set_bit (openings e y) i ∙ openings_at e y i n)) (and_both (fixed i y) (subsumes e (flipped i y)) f h)

      go : (b : Bool) → near e y ≡ b
          → T (has i (fixed_word (cond (lone w) w 0))) × T (has i (fixed_word (word y)))
      go true close =
          let here = subst T (has_and i (fixed_word w) (fixed_word (word y)))
          (subst (λ (x : ℕ). T (has i x)) (sym (word_edge e y n short close apart)) opened) in
          rw (word_near e y n short ∙ close) (
            and_first (has i (fixed_word w)) (has i (fixed_word (word y))) here,
            and_second (has i (fixed_word w)) (has i (fixed_word (word y))) here,
          )
      go false far =
          absurd (has_none i (subst (λ (x : ℕ). T (has i x)) (far_none e y y n refl far (subsumes_same y)) opened))

  -- the positions that e fixes, where it subsumes y
  pub over_fixes : (i : ℕ) → subsumes e y ≡ true → T (fixed i e) → T (has i (fixed_word (if_over (word e) (word y))))
  unfolding if_over
  over_fixes i over f =
      rw (word_subsumes e y n short ∙ over)
      (subst (λ (x : ℕ). T (has i x)) (sym (care_word e short)) (subst T (sym (fixed_bit i e)) f))
