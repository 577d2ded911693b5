-- Positions of a string as bits of its word. Assumes nothing.
use Rattle.std.proofs.Common.{◌≡◌, ℕ, zero, suc, ◌+◌, ◌*◌, ◌/◌, ◌%◌, ◌^◌, ◌<◌, ◌≤◌, true, false, cond, eqb, [], ◌∷◌, map, length, get_or, refl, ap, ◌∙◌, ap₂, pow-suc, arith, lit<, shl_exact}
use lib.Bits.{bit_and, bit_or, bit_xor, and_block, or_block, xor_block, and_lt, and_zero_l, and_zero_r, or_zero_r, xor_zero_r}
use lib.Count.{ones, ones_cat}
use lib.ListN.{length-map}
use lib.Pow.{pow-lt}
use Rattle.model.specs.Strings.{Trit, t0, t1, t*, Trits, fixed_digit, flip, fixed, fixed_count, flipped, starred, opposed}
use Rattle.words.specs.Words.{value_bit, zero_bit, value_of, zeros_of, word, halves, both, flipped_word, starred_word}
use Rattle.words.specs.Words.{opposed_word, care_of, set_word}
use Rattle.words.proofs.Codec.{set_bit}
use Rattle.words.proofs.Digits.{value_bit_lt, zero_bit_lt, digits_equal, nine, never, never'}
use Rattle.words.proofs.Halves.{value_half, halves_or, Half, zeros_part, value_part}
use Rattle.words.proofs.Words.{word_opposite}

-- as `1 << i` comes into a goal
pub one_shl : (i w : ℕ) → i < w → (1 * 2 ^ i) % 2 ^ w ≡ 2 ^ i
one_shl i w h = shl_exact 1 i w (lit< tt) (omega arith) ∙ omega arith

-- ---- How many are fixed

-- the bits of both halves, position by position
count_halves : (s : Trits) → ones (zeros_of s) + ones (value_of s) ≡ fixed_count s
unfolding zeros_of value_of fixed_count ones
count_halves [] = refl
count_halves (t ∷ s) =
    ap₂ ◌+◌ (ones_cat 1 (zeros_of s) (zero_bit t) (zero_bit_lt t)) (ones_cat 1 (value_of s) (value_bit t) (value_bit_lt t))
    ∙ digit t (ones (zeros_of s)) (ones (value_of s)) (fixed_count s) (count_halves s)
  where
    digit : (t : Trit) (a b n : ℕ) → a + b ≡ n
        → a + ones (zero_bit t) + (b + ones (value_bit t)) ≡ cond (fixed_digit t) (suc n) n
    digit t0 a b n e = omega arith
    digit t1 a b n e = omega arith
    digit t* a b n e = omega arith

-- a word has a bit for each fixed position
pub word_count : (s : Trits) → length s ≤ 32 → ones (word s) ≡ fixed_count s
unfolding word
word_count s short = ones_cat 32 (zeros_of s) (value_of s) (value_half s short) ∙ count_halves s

-- ---- Which are fixed

-- the care word is that of the set of fixed positions
care_set : (s : Trits) → care_of s ≡ set_word (map fixed_digit s)
unfolding care_of set_word
care_set [] = refl
care_set (t0 ∷ s) = digits_equal (care_set s) refl
care_set (t1 ∷ s) = digits_equal (care_set s) refl
care_set (t* ∷ s) = digits_equal (care_set s) refl

-- position i of that set
fixed_at : (i : ℕ) (s : Trits) → get_or (map fixed_digit s) i false ≡ fixed i s
unfolding fixed
fixed_at i [] = refl
fixed_at zero (t ∷ s) = refl
fixed_at (suc i) (t ∷ s) = fixed_at i s

-- position i is fixed where bit i of the care word is 1
pub fixed_bit : (i : ℕ) (s : Trits) → eqb (care_of s / 2 ^ i % 2) 1 ≡ fixed i s
fixed_bit i s = rw (care_set s) (set_bit (map fixed_digit s) i ∙ fixed_at i s)

-- ---- A bit operation with the bit of one position, in one half

-- the bit of the next position
pub pow_digit : (i : ℕ) → 2 ^ suc i ≡ 2 ^ i * 2 + 0
pow_digit i = omega (arith, pow-suc 2 i)

module _ (bit : ℕ → ℕ → ℕ) (block : (a b r s : ℕ) → r < 2 → s < 2 → bit (a * 2 + r) (b * 2 + s) ≡ bit a b * 2 + bit r s) where
  -- at the first position
  here : (x d : ℕ) → d < 2 → bit (x * 2 + d) (2 ^ 0) ≡ bit x 0 * 2 + bit d 1
  here x d h = block x 0 d 1 h (lit< tt)

  -- at a later one
  below : (i x d : ℕ) → d < 2 → bit (x * 2 + d) (2 ^ suc i) ≡ bit x (2 ^ i) * 2 + bit d 0
  below i x d h = ap (bit (x * 2 + d)) (pow_digit i) ∙ block x (2 ^ i) d 0 h (lit< tt)

-- x without the bits of p
without : ℕ → ℕ → ℕ
without x p = bit_xor x (bit_and x p)

-- it goes digit by digit
without_block : (x p d e : ℕ) → d < 2 → e < 2 → without (x * 2 + d) (p * 2 + e) ≡ without x p * 2 + without d e
unfolding without
without_block x p d e hd he =
    ap (bit_xor (x * 2 + d)) (and_block 1 x p d e hd he) ∙ xor_block 1 x (bit_and x p) d (bit_and d e) hd (and_lt 1 d e hd he)

-- without no bit
without_zero : (x : ℕ) → without x 0 ≡ x
unfolding without
without_zero x = ap (bit_xor x) (and_zero_r x) ∙ xor_zero_r x

module _ (h : Half) where
  -- the bit of a fixed position turned over
  flip_half : ((t : Trit) → fixed_digit t ≡ true → bit_xor (h.bit t) 1 ≡ h.bit (flip t))
      → (i : ℕ) (s : Trits) → fixed i s ≡ true → bit_xor (h.of s) (2 ^ i) ≡ h.of (flipped i s)
  unfolding flipped fixed
  flip_half digit i [] k = never k
  flip_half digit zero (t ∷ s) k =
      rw (h.cons t s, h.cons (flip t) s)
      (here bit_xor (xor_block 1) (h.of s) (h.bit t) (h.small t) ∙ digits_equal (xor_zero_r (h.of s)) (digit t k))
  flip_half digit (suc i) (t ∷ s) k =
      rw (h.cons t s, h.cons t (flipped i s))
      (below bit_xor (xor_block 1) i (h.of s) (h.bit t) (h.small t)
      ∙ digits_equal (flip_half digit i s k) (xor_zero_r (h.bit t)))

  -- the bit of a position cleared
  star_half : ((t : Trit) → without (h.bit t) 1 ≡ h.bit t*) → (i : ℕ) (s : Trits)
      → without (h.of s) (2 ^ i) ≡ h.of (starred i s)
  unfolding starred
  star_half digit i [] = rw h.nil (unfold without in ap (bit_xor 0) (and_zero_l (2 ^ i)))
  star_half digit zero (t ∷ s) =
      rw (h.cons t s, h.cons t* s)
      (here without without_block (h.of s) (h.bit t) (h.small t) ∙ digits_equal (without_zero (h.of s)) (digit t))
  star_half digit (suc i) (t ∷ s) =
      rw (h.cons t s, h.cons t (starred i s))
      (below without without_block i (h.of s) (h.bit t) (h.small t)
      ∙ digits_equal (star_half digit i s) (without_zero (h.bit t)))

  -- with the bit of a position of the opposite
  oppose_half : ((u t : Trit) → fixed_digit t ≡ false → bit_or (h.bit t) (bit_and (h.bit (flip u)) 1) ≡ h.bit (flip u))
      → (i : ℕ) (v y : Trits) → length y ≡ length v → fixed i y ≡ false
      → bit_or (h.of y) (bit_and (h.of (map flip v)) (2 ^ i)) ≡ h.of (opposed i v y)
  unfolding opposed fixed
  oppose_half digit i [] [] n k = rw h.nil (ap (bit_or 0) (and_zero_l (2 ^ i)))
  oppose_half digit i (u ∷ v) [] n k = absurd (omega arith)
  oppose_half digit i [] (t ∷ y) n k = absurd (omega arith)
  oppose_half digit zero (u ∷ v) (t ∷ y) n k =
      rw (h.cons t y, h.cons (flip u) (map flip v), h.cons (flip u) y)
      (ap (bit_or (h.of y * 2 + h.bit t))
      (here bit_and (and_block 1) (h.of (map flip v)) (h.bit (flip u)) (h.small (flip u))
      ∙ digits_equal (and_zero_r (h.of (map flip v))) refl)
      ∙ or_block 1 (h.of y) 0 (h.bit t) (bit_and (h.bit (flip u)) 1) (h.small t)
      (and_lt 1 (h.bit (flip u)) 1 (h.small (flip u)) (lit< tt))
      ∙ digits_equal (or_zero_r (h.of y)) (digit u t k))
  oppose_half digit (suc i) (u ∷ v) (t ∷ y) n k =
      rw (h.cons t y, h.cons (flip u) (map flip v), h.cons t (opposed i v y))
      (ap (bit_or (h.of y * 2 + h.bit t))
      (below bit_and (and_block 1) i (h.of (map flip v)) (h.bit (flip u)) (h.small (flip u))
      ∙ digits_equal refl (and_zero_r (h.bit (flip u))))
      ∙ or_block 1 (h.of y) (bit_and (h.of (map flip v)) (2 ^ i)) (h.bit t) 0 (h.small t) (lit< tt)
      ∙ digits_equal (oppose_half digit i v y (omega arith) k) (or_zero_r (h.bit t)))

-- ---- And in the whole word

-- as `(bit << 32) | bit` comes into a goal
pub both_halves_or : (i : ℕ) → i < 32 → bit_or ((2 ^ i * 2 ^ 32) % 2 ^ 64) (2 ^ i) ≡ both i
unfolding both
both_halves_or i l = halves_or (2 ^ i) (2 ^ i) (pow-lt l) (pow-lt l)

module _ (i : ℕ) (l : i < 32) where
  -- the bits of a string's word at position i
  and_both : (s : Trits) → length s ≤ 32
      → bit_and (word s) (both i) ≡ halves (bit_and (zeros_of s) (2 ^ i)) (bit_and (value_of s) (2 ^ i))
  unfolding word both
  and_both s short = and_block 32 (zeros_of s) (2 ^ i) (value_of s) (2 ^ i) (value_half s short) (pow-lt l)

  -- they stay within the half
  and_small : (s : Trits) → length s ≤ 32 → bit_and (value_of s) (2 ^ i) < 2 ^ 32
  and_small s short = and_lt 32 (value_of s) (2 ^ i) (value_half s short) (pow-lt l)

  -- both bits of a fixed position turned over
  pub word_flipped : (s : Trits) → length s ≤ 32 → fixed i s ≡ true → flipped_word i (word s) ≡ word (flipped i s)
  unfolding flipped_word both word
  word_flipped s short k =
      xor_block 32 (zeros_of s) (2 ^ i) (value_of s) (2 ^ i) (value_half s short) (pow-lt l)
      ∙ ap₂ halves (flip_half zeros_part zero_digit i s k) (flip_half value_part value_digit i s k)
    where
      zero_digit : (t : Trit) → fixed_digit t ≡ true → bit_xor (zero_bit t) 1 ≡ zero_bit (flip t)
      zero_digit t0 h = refl
      zero_digit t1 h = refl
      zero_digit t* h = never h

      value_digit : (t : Trit) → fixed_digit t ≡ true → bit_xor (value_bit t) 1 ≡ value_bit (flip t)
      value_digit t0 h = refl
      value_digit t1 h = refl
      value_digit t* h = never h

  -- both bits cleared
  pub word_starred : (s : Trits) → length s ≤ 32 → starred_word i (word s) ≡ word (starred i s)
  unfolding starred_word word without
  word_starred s short =
      ap (bit_xor (word s)) (and_both s short)
      ∙ xor_block 32 (zeros_of s) (bit_and (zeros_of s) (2 ^ i)) (value_of s) (bit_and (value_of s) (2 ^ i))
      (value_half s short) (and_small s short)
      ∙ ap₂ halves (star_half zeros_part zero_digit i s) (star_half value_part value_digit i s)
    where
      zero_digit : (t : Trit) → without (zero_bit t) 1 ≡ 0
      zero_digit t0 = refl
      zero_digit t1 = refl
      zero_digit t* = refl

      value_digit : (t : Trit) → without (value_bit t) 1 ≡ 0
      value_digit t0 = refl
      value_digit t1 = refl
      value_digit t* = refl

  -- with the opposite of v at position i
  pub word_opposed : (v y : Trits) → length y ≡ length v → length y ≤ 32 → fixed i y ≡ false
      → opposed_word i (word v) (word y) ≡ word (opposed i v y)
  unfolding opposed_word word
  word_opposed v y n short k =
      let sv : length v ≤ 32 = rw (← n) short in
      let sf : length (map flip v) ≤ 32 = rw (length-map v flip) sv in
      ap (λ (x : ℕ). bit_or (word y) (bit_and x (both i))) (word_opposite v sv)
      ∙ ap (bit_or (word y)) (and_both (map flip v) sf)
      ∙ or_block 32 (zeros_of y) (bit_and (zeros_of (map flip v)) (2 ^ i)) (value_of y) (bit_and (value_of (map flip v)) (2 ^ i))
      (value_half y short) (and_small (map flip v) sf)
      ∙ ap₂ halves (oppose_half zeros_part zero_digit i v y n k) (oppose_half value_part value_digit i v y n k)
    where
      zero_digit : (u t : Trit) → fixed_digit t ≡ false
          → bit_or (zero_bit t) (bit_and (zero_bit (flip u)) 1) ≡ zero_bit (flip u)
      zero_digit = nine _ never' never' (λ h. refl) never' never' (λ h. refl) never' never' (λ h. refl)

      value_digit : (u t : Trit) → fixed_digit t ≡ false
          → bit_or (value_bit t) (bit_and (value_bit (flip u)) 1) ≡ value_bit (flip u)
      value_digit = nine _ never' never' (λ h. refl) never' never' (λ h. refl) never' never' (λ h. refl)
