-- Bits at chosen positions moved together: the loop that does it, and the cut of a string. Assumes nothing.
use Rattle.std.proofs.Common.{◌≡◌, ℕ, zero, suc, ◌+◌, ◌-◌, ◌*◌, ◌/◌, ◌%◌, ◌^◌, ◌<◌, ◌≤◌, Bool, true, false, cond, eqb, [], ◌∷◌, length, sym, refl, ap, ◌∙◌, subst, ap₂, le_of_suc-le-suc, not-suc-le-zero, mul_assoc, mul_comm, add-mul, pow-suc, suc-ne-zero, add-one, arith, shl_lt, shl_exact, shr-shr, eq-eqb, ne_eqb}
use native.Mathlib.Nat.{suc_inj}
use lib.Arith.{digits_div, digits_mod}
use lib.Bits.{bit_or, or_shifted_r, or_lt}
use Rattle.model.specs.Groups.{Bits, cut}
use Rattle.model.specs.Strings.{Trits}
use Rattle.words.specs.Words.{word, halves, set_word, gather, cut_word}
use Rattle.words.proofs.Codec.{bit_lt, bit_back}
use Rattle.words.proofs.Halves.{Half, zeros_part, value_part, high_word, low_word}

-- ---- The loop: `out` holds the chosen bits among the lowest i, `at` of them

pub record GatheredSoFar (keep w out at i : ℕ) : Type 0 where
  pub small : out < 2 ^ at
  pub few : at ≤ i
  pub whole : gather 32 keep w ≡ gather (32 - i) (keep / 2 ^ i) (w / 2 ^ i) * 2 ^ at + out

module _ (keep w out at i : ℕ) (g : GatheredSoFar keep w out at i) (h : i < 32) where
  -- what the later positions give
  rest : ℕ
  rest = gather (32 - (i + 1)) (keep / 2 ^ (i + 1)) (w / 2 ^ (i + 1))

  -- one position taken off
  opened : gather (32 - i) (keep / 2 ^ i) (w / 2 ^ i) ≡ cond (eqb (keep / 2 ^ i % 2) 1) (rest * 2 + w / 2 ^ i % 2) rest
  unfolding gather rest
  opened =
      let e : 32 - i ≡ suc (32 - (i + 1)) = omega arith in
      rw (e, shr-shr keep i 1, shr-shr w i 1)

  -- after a position that is chosen
  pub gathered_kept : keep / 2 ^ i % 2 ≡ 1
      → GatheredSoFar keep w (bit_or out ((w / 2 ^ i % 2 * 2 ^ at) % 2 ^ 32)) (at + 1) (i + 1)
  unfolding rest
  gathered_kept k =
      let b : w / 2 ^ i % 2 < 2 = omega arith in
      let f = g.few in
      let sh : (w / 2 ^ i % 2 * 2 ^ at) % 2 ^ 32 ≡ w / 2 ^ i % 2 * 2 ^ at = shl_exact 1 at 32 b (omega arith) in
      let o : bit_or out (w / 2 ^ i % 2 * 2 ^ at) ≡ w / 2 ^ i % 2 * 2 ^ at + out = or_shifted_r (w / 2 ^ i % 2) at out
      g.small in
      let p : 2 ^ (at + 1) ≡ 2 * 2 ^ at = ap (λ (m : ℕ). 2 ^ m) (add-one at) ∙ pow-suc 2 at ∙ mul_comm (2 ^ at) 2 in
      let n : out < 2 ^ (at + 1) = omega (arith, g.small) in
      let m : w / 2 ^ i % 2 * 2 ^ at < 2 ^ (at + 1) = subst (λ (k : ℕ). w / 2 ^ i % 2 * 2 ^ at < 2 ^ k) (omega arith)
      (shl_lt 1 at b) in
      let kept_rest : gather (32 - i) (keep / 2 ^ i) (w / 2 ^ i) ≡ rest * 2 + w / 2 ^ i % 2 = opened ∙ rw
      (eq-eqb (keep / 2 ^ i % 2) 1 k) in
      record {
        small = rw sh (or_lt (at + 1) out (w / 2 ^ i % 2 * 2 ^ at) n m);
        few = omega arith;
        whole =
            g.whole
            ∙ ap (λ (x : ℕ). x * 2 ^ at + out) kept_rest
            ∙ rw (sh, o, p, add-mul (rest * 2) (w / 2 ^ i % 2) (2 ^ at), mul_assoc rest 2 (2 ^ at)) (omega arith);
      }

  -- after one that is not
  pub gathered_left : ¬ (keep / 2 ^ i % 2 ≡ 1) → GatheredSoFar keep w out at (i + 1)
  unfolding rest
  gathered_left k = record {
    small = g.small;
    few = let f = g.few in omega arith;
    whole = g.whole ∙ ap (λ (x : ℕ). x * 2 ^ at + out) left_rest;
  }
    where
      left_rest : gather (32 - i) (keep / 2 ^ i) (w / 2 ^ i) ≡ rest
      left_rest = opened ∙ rw (ne_eqb (keep / 2 ^ i % 2) 1 k)

-- after the last
pub gathered_end : (keep w out at : ℕ) → GatheredSoFar keep w out at 32 → out ≡ gather 32 keep w
unfolding gather
gathered_end keep w out at g = sym (g.whole ∙ omega arith)

-- ---- The cut of a string

-- where no position is chosen
gather_none : (n w : ℕ) → gather n 0 w ≡ 0
unfolding gather
gather_none zero w = refl
gather_none (suc n) w = gather_none n (w / 2)

module _ (h : Half) where
  -- one half of the cut
  gather_cut : (n : ℕ) (k : Bits) (s : Trits) → length k ≡ length s → length s ≤ n
      → gather n (set_word k) (h.of s) ≡ h.of (cut k s)
  unfolding set_word cut gather
  gather_cut n [] [] e l = gather_none n (h.of []) ∙ sym h.nil
  gather_cut n [] (t ∷ s) e l = absurd (suc-ne-zero _ (sym e))
  gather_cut n (b ∷ k) [] e l = absurd (suc-ne-zero _ e)
  gather_cut zero (b ∷ k) (t ∷ s) e l = absurd (not-suc-le-zero l)
  gather_cut (suc n) (b ∷ k) (t ∷ s) e l =
      ap (gather (suc n) (set_word (b ∷ k))) (h.cons t s) ∙ step ∙ go b (gather_cut n k s (suc_inj e) (le_of_suc-le-suc l))
    where
      inner : ℕ
      inner = gather n (set_word k) (h.of s)

      step : gather (suc n) (set_word k * 2 + cond b 1 0) (h.of s * 2 + h.bit t) ≡ cond b (inner * 2 + h.bit t) inner
      step =
          rw (
            digits_mod (set_word k) (bit_lt b),
            digits_div (set_word k) (bit_lt b),
            digits_mod (h.of s) (h.small t),
            digits_div (h.of s) (h.small t),
            bit_back b,
          )

      go : (b : Bool) → inner ≡ h.of (cut k s) → cond b (inner * 2 + h.bit t) inner ≡ h.of (cut (b ∷ k) (t ∷ s))
      go true p = ap (λ (x : ℕ). x * 2 + h.bit t) p ∙ sym (h.cons t (cut k s))
      go false p = p

-- both halves
pub word_cut : (k : Bits) (s : Trits) → length k ≡ length s → length s ≤ 32 → cut_word (set_word k) (word s) ≡ word (cut k s)
unfolding cut_word word
word_cut k s e l =
    ap₂ halves (ap (gather 32 (set_word k)) (high_word s l) ∙ gather_cut zeros_part 32 k s e l)
    (ap (gather 32 (set_word k)) (low_word s l) ∙ gather_cut value_part 32 k s e l)
