-- The two halves of a string's word, and its care word of both. Assumes nothing.
use Rattle.std.proofs.Common.{◌≡◌, ℕ, ◌+◌, ◌*◌, ◌%◌, ◌^◌, ◌<◌, ◌≤◌, [], ◌∷◌, length, refl, ap, ◌∙◌, mod-lt, pow-suc, arith, lit<}
use lib.Bits.{bit_or, bit_xor, or_block, xor_block, or_lt, or_shifted}
use lib.Pow as pow
use Rattle.model.specs.Strings.{Trit, t0, t1, t*, Trits}
use Rattle.words.specs.Words.{care_bit, value_bit, zero_bit, care_of, value_of, zeros_of, word, high, low, halves}
use Rattle.words.specs.Words.{fixed_word}
use Rattle.words.proofs.Digits.{care_bit_lt, value_bit_lt, zero_bit_lt, digits_equal}
use Rattle.words.proofs.Codec.{value_lt}

-- zeros are care without value
pub zeros_xor : (s : Trits) → bit_xor (care_of s) (value_of s) ≡ zeros_of s
unfolding care_of value_of zeros_of
zeros_xor [] = refl
zeros_xor (t ∷ s) =
    xor_block 1 (care_of s) (value_of s) (care_bit t) (value_bit t) (care_bit_lt t) (value_bit_lt t)
    ∙ digits_equal (zeros_xor s) (digit t)
  where
    digit : (t : Trit) → bit_xor (care_bit t) (value_bit t) ≡ zero_bit t
    digit t0 = refl
    digit t1 = refl
    digit t* = refl

-- care is zeros and ones
pub cares_or : (s : Trits) → bit_or (zeros_of s) (value_of s) ≡ care_of s
unfolding care_of value_of zeros_of
cares_or [] = refl
cares_or (t ∷ s) =
    or_block 1 (zeros_of s) (value_of s) (zero_bit t) (value_bit t) (zero_bit_lt t) (value_bit_lt t)
    ∙ digits_equal (cares_or s) (digit t)
  where
    digit : (t : Trit) → bit_or (zero_bit t) (value_bit t) ≡ care_bit t
    digit t0 = refl
    digit t1 = refl
    digit t* = refl

-- zeros have no bit above the string
zeros_lt : (s : Trits) → zeros_of s < 2 ^ length s
unfolding zeros_of
zeros_lt [] = lit< tt
zeros_lt (t ∷ s) = omega (arith, zeros_lt s, zero_bit_lt t, pow-suc 2 (length s))

module _ (s : Trits) (short : length s ≤ 32) where
  -- each half has 32 bits
  pub value_half : value_of s < 2 ^ 32
  value_half = omega (arith, value_lt s, pow.pow_mono {i = length s} {j = 32} short)

  pub zeros_half : zeros_of s < 2 ^ 32
  zeros_half = omega (arith, zeros_lt s, pow.pow_mono {i = length s} {j = 32} short)

  -- and both together 64
  pub word_lt : word s < 2 ^ 64
  unfolding word
  word_lt = omega (arith, zeros_half, value_half)

  -- the zeros are the high half
  pub high_word : high (word s) ≡ zeros_of s
  unfolding word
  high_word = pow.high (zeros_of s) 32 value_half

  -- the values are the low half
  pub low_word : low (word s) ≡ value_of s
  unfolding word
  low_word = pow.low (zeros_of s) 32 value_half

  -- both halves are the care word
  pub care_word : fixed_word (word s) ≡ care_of s
  unfolding fixed_word
  care_word = rw (high_word, low_word) (cares_or s)

-- ---- Halves of any word

-- as `(z << 32) | o` comes into a goal
pub halves_or : (z o : ℕ) → z < 2 ^ 32 → o < 2 ^ 32 → bit_or ((z * 2 ^ 32) % 2 ^ 64) o ≡ halves z o
halves_or z o hz ho = ap (λ (x : ℕ). bit_or x o) (pow.shl_exact 32 32 64 hz (omega arith)) ∙ or_shifted z 32 o ho

-- the halves of any word have 32 bits
pub high_lt : (a : ℕ) → a < 2 ^ 64 → high a < 2 ^ 32
high_lt a h = pow.shr_lt 32 32 h

pub low_lt : (a : ℕ) → low a < 2 ^ 32
low_lt a = mod-lt a (lit< tt)

-- and so their bits together
pub fixed_lt : (a : ℕ) → a < 2 ^ 64 → fixed_word a < 2 ^ 32
unfolding fixed_word
fixed_lt a h = or_lt 32 (high a) (low a) (high_lt a h) (low_lt a)

-- ---- The zeros and the values of a string, said once of both

pub record Half : Type 0 where
  pub of : Trits → ℕ
  pub bit : Trit → ℕ
  pub small : (t : Trit) → bit t < 2
  pub nil : of [] ≡ 0
  pub cons : (t : Trit) (s : Trits) → of (t ∷ s) ≡ of s * 2 + bit t

-- the zeros
pub zeros_nil : zeros_of [] ≡ 0
unfolding zeros_of
zeros_nil = refl

pub zeros_cons : (t : Trit) (s : Trits) → zeros_of (t ∷ s) ≡ zeros_of s * 2 + zero_bit t
unfolding zeros_of
zeros_cons t s = refl

abbrev pub zeros_part : Half
zeros_part = record { of = zeros_of; bit = zero_bit; small = zero_bit_lt; nil = zeros_nil; cons = zeros_cons }

-- the values
pub value_nil : value_of [] ≡ 0
unfolding value_of
value_nil = refl

pub value_cons : (t : Trit) (s : Trits) → value_of (t ∷ s) ≡ value_of s * 2 + value_bit t
unfolding value_of
value_cons t s = refl

abbrev pub value_part : Half
value_part = record { of = value_of; bit = value_bit; small = value_bit_lt; nil = value_nil; cons = value_cons }
