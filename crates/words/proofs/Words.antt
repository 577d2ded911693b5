-- The words of strings: to care and value and back, the operations on whole words, and the words of strings of one form.
-- Assumes nothing.
use Rattle.std.proofs.Common.{◌≡◌, ℕ, zero, suc, ◌+◌, ◌-◌, ◌*◌, ◌%◌, ◌^◌, ◌<◌, ◌≤◌, Bool, true, false, ◌&&◌, eqb, [], ◌∷◌, map, length, sym, refl, ap, ◌∙◌, ap₂, le_of_suc-le-suc, not-suc-le-zero, pow-suc, arith, lit<, pow_pos, pow_mono, shl_exact, eq-eqb, ne_eqb, eqb-true}
use borrow.Author.Tests.{eqb-false}
use lib.Bits.{bit_and, bit_or, bit_xor, and_block, or_block, and_lt, and_le_l, and_le_r, or_shr, or_mod, xor_add_and, xor_self}
use Rattle.model.specs.Groups.{Bits}
use Rattle.model.specs.Strings.{Trit, t0, t1, t*, Trits, subsumes, subsumes_digit, zero_digit, all_zero, stars, one_at}
use Rattle.model.specs.Strings.{zeros, fixed_digit, flip, match_digit, matches, meet_digit, meet, or_digit, or_strings}
use Rattle.words.specs.Words.{value_bit, zero_bit, care_of, value_of, zeros_of, word, entry, set_word, word_of, entry_of}
use Rattle.words.specs.Words.{care_bit, high, low, halves, fixed_word, subsumes_word, zero_word, starless, matches_word}
use Rattle.words.specs.Words.{clash_word, or_word, opposite_word}
use Rattle.words.proofs.Digits.{zero_bit_lt, value_bit_lt, Digitwise, zero_l, value_l, zero_r, value_r, and_of, paired}
use Rattle.words.proofs.Digits.{care_bit_lt, nothing, nine, or_of, on_cons, digits_equal, never, eqb_block, eqb_digit}
use Rattle.words.proofs.Digits.{eqb_cons}
use Rattle.words.proofs.Codec.{value_stars}
use Rattle.words.proofs.Halves.{zeros_xor, cares_or, value_half, high_word, low_word, care_word}

-- two times two tests, in another order
pub and_swap : (a b c d : Bool) → ((a && b) && (c && d)) ≡ ((a && c) && (b && d))
and_swap true true c d = refl
and_swap true false true d = refl
and_swap true false false d = refl
and_swap false b c d = refl

-- both parts of a test that holds
pub both_true : (a b : Bool) → (a && b) ≡ true → (a ≡ true) × (b ≡ true)
both_true true b h = (refl, h)
both_true false b h = never h

-- ---- To care and value, and back

-- from care and value
pub word_of_entry : (s : Trits) → word_of (entry s) ≡ word s
unfolding word_of word
word_of_entry s = rw (zeros_xor s)

-- to care and value
pub entry_back : (s : Trits) → length s ≤ 32 → entry_of (word s) ≡ entry s
unfolding entry_of
entry_back s short =
    rw (high_word s short, low_word s short) (λ i. record { care = cares_or s i; value = value_of s })

-- ---- Subsumes: each half is within the other's

-- numbers without a different bit are equal
xor_zero : (a b : ℕ) → bit_xor a b ≡ 0 → a ≡ b
xor_zero a b e = omega (arith, xor_add_and a b, e, and_le_l a b, and_le_r a b)

-- so a test of their different bits is a test of both
pub xor_test : (a b : ℕ) → eqb (bit_xor a b) 0 ≡ eqb a b
xor_test a b = go (eqb a b) refl
  where
    go : (c : Bool) → eqb a b ≡ c → eqb (bit_xor a b) 0 ≡ c
    go true e = eq-eqb (bit_xor a b) 0 (rw (eqb-true a b e, xor_self b))
    go false e = ne_eqb (bit_xor a b) 0 (λ z. eqb-false a b e (xor_zero a b z))

-- the zeros of both, the values of both
within_zeros : Digitwise (λ p q r s. bit_and p r)
within_zeros = and_of _ _ zero_l zero_r

within_values : Digitwise (λ p q r s. bit_and q s)
within_values = and_of _ _ value_l value_r

-- both halves, position by position
subsumes_halves : (s t : Trits) → length s ≡ length t
    → (eqb (bit_and (value_of s) (value_of t)) (value_of s) && eqb (bit_and (zeros_of s) (zeros_of t)) (zeros_of s)) ≡ subsumes s t
unfolding subsumes
subsumes_halves =
    paired _ (unfold zeros_of value_of in refl)
    (λ t u s r e ih.
    ap₂ ◌&&◌ (eqb_cons _ _ within_values value_l t u s r) (eqb_cons _ _ within_zeros zero_l t u s r)
    ∙ and_swap (eqb (bit_and (value_bit t) (value_bit u)) (value_bit t)) (eqb (bit_and (value_of s) (value_of r)) (value_of s))
    (eqb (bit_and (zero_bit t) (zero_bit u)) (zero_bit t)) (eqb (bit_and (zeros_of s) (zeros_of r)) (zeros_of s))
    ∙ ap₂ ◌&&◌ (digit t u) ih)
  where
    digit : (t u : Trit)
        → (eqb (bit_and (value_bit t) (value_bit u)) (value_bit t) && eqb (bit_and (zero_bit t) (zero_bit u)) (zero_bit t))
        ≡ subsumes_digit t u
    digit = nine _ refl refl refl refl refl refl refl refl refl

-- the word of s is within the word of t exactly where s subsumes t
pub word_subsumes : (s t : Trits) → length s ≡ length t → length s ≤ 32 → subsumes_word (word s) (word t) ≡ subsumes s t
unfolding subsumes_word word
word_subsumes s t e short =
    let vs = value_half s short in
    let vt = value_half t (rw (← e) short) in
    ap (λ (x : ℕ). eqb x (word s)) (and_block 32 (zeros_of s) (zeros_of t) (value_of s) (value_of t) vs vt)
    ∙ eqb_block 32 (bit_and (zeros_of s) (zeros_of t)) (zeros_of s) (bit_and (value_of s) (value_of t)) (value_of s)
    (and_lt 32 (value_of s) (value_of t) vs vt) vs
    ∙ subsumes_halves s t e

-- ---- The all-zero string

-- n ones and one more
ones_next : (n : ℕ) → 2 ^ suc n - 1 ≡ (2 ^ n - 1) * 2 + 1
ones_next n = omega (arith, pow-suc 2 n, pow_pos n)

-- both halves, position by position
pub zero_halves : (s : Trits) → (eqb (value_of s) 0 && eqb (zeros_of s) (2 ^ length s - 1)) ≡ all_zero s
unfolding all_zero zeros_of value_of
zero_halves [] = refl
zero_halves (t ∷ s) =
    ap₂ ◌&&◌ (eqb_digit (value_of s) 0 (value_bit t) 0 (value_bit_lt t) (lit< tt))
    (ap (eqb (zeros_of (t ∷ s))) (ones_next (length s))
    ∙ eqb_digit (zeros_of s) (2 ^ length s - 1) (zero_bit t) 1 (zero_bit_lt t) (lit< tt))
    ∙ and_swap (eqb (value_bit t) 0) (eqb (value_of s) 0) (eqb (zero_bit t) 1) (eqb (zeros_of s) (2 ^ length s - 1))
    ∙ ap₂ ◌&&◌ (digit t) (zero_halves s)
  where
    digit : (t : Trit) → (eqb (value_bit t) 0 && eqb (zero_bit t) 1) ≡ zero_digit t
    digit t0 = refl
    digit t1 = refl
    digit t* = refl

-- the test of the all-zero word
pub word_zero : (s : Trits) → length s ≤ 32 → eqb (word s) (zero_word (length s)) ≡ all_zero s
unfolding zero_word word
word_zero s short =
    eqb_block 32 (zeros_of s) (2 ^ length s - 1) (value_of s) 0 (value_half s short) (lit< tt) ∙ zero_halves s

-- the all-zero word is the word of the all-zero string
pub zero_word_is : (l : ℕ) (s : Trits) → l ≤ 32 → length s ≡ l → all_zero s ≡ true → zero_word l ≡ word s
zero_word_is l s h n z = rw (← n) (sym (eqb-true (word s) (zero_word (length s)) (word_zero s (rw n h) ∙ z)))

-- as `((1 << l) - 1) << 32` comes into a goal
pub zero_shl : (l : ℕ) → l ≤ 32 → ((2 ^ l - 1) * 2 ^ 32) % 2 ^ 64 ≡ zero_word l
unfolding zero_word
zero_shl l h =
    shl_exact 32 32 64 (omega (arith, pow_mono {i = l} {j = 32} h, pow_pos l)) (omega arith) ∙ omega arith

-- there is an all-zero string of each length
pub zero_string : (l : ℕ) → l ≤ 32 → (s : Trits) × (length s ≡ l) × (all_zero s ≡ true) × (zero_word l ≡ word s)
unfolding all_zero
zero_string l h = let s = some l in (s.0, s.1, s.2, zero_word_is l s.0 h s.1 s.2)
  where
    some : (l : ℕ) → (s : Trits) × (length s ≡ l) × (all_zero s ≡ true)
    some zero = ([], refl, refl)
    some (suc l) = let r = some l in (t0 ∷ r.0, ap suc r.1, r.2)

-- ---- No position is `*`

-- the care word is all ones
starless_care : (s : Trits) → eqb (care_of s) (2 ^ length s - 1) ≡ starless s
unfolding starless care_of
starless_care [] = refl
starless_care (t ∷ s) =
    ap (eqb (care_of (t ∷ s))) (ones_next (length s))
    ∙ eqb_digit (care_of s) (2 ^ length s - 1) (care_bit t) 1 (care_bit_lt t) (lit< tt)
    ∙ ap₂ ◌&&◌ (digit t) (starless_care s)
  where
    digit : (t : Trit) → eqb (care_bit t) 1 ≡ fixed_digit t
    digit t0 = refl
    digit t1 = refl
    digit t* = refl

-- so are the bits of both halves
pub word_starless : (s : Trits) → length s ≤ 32 → eqb (fixed_word (word s)) (2 ^ length s - 1) ≡ starless s
word_starless s short = rw (care_word s short) (starless_care s)

-- ---- Matches: no position is in both halves

-- the positions in both halves of "a or b"
pub clashing : Digitwise (λ p q r s. bit_and (bit_or p r) (bit_or q s))
clashing = and_of _ _ (or_of _ _ zero_l zero_r) (or_of _ _ value_l value_r)

-- there is none, position by position
matches_halves : (s t : Trits) → length s ≡ length t
    → eqb (bit_and (bit_or (zeros_of s) (zeros_of t)) (bit_or (value_of s) (value_of t))) 0 ≡ matches s t
unfolding matches
matches_halves =
    paired _ (unfold zeros_of value_of in refl)
    (λ t u s r e ih. eqb_cons _ _ clashing nothing t u s r ∙ ap₂ ◌&&◌ (digit t u) ih)
  where
    digit : (t u : Trit)
        → eqb (bit_and (bit_or (zero_bit t) (zero_bit u)) (bit_or (value_bit t) (value_bit u))) 0 ≡ match_digit t u
    digit = nine _ refl refl refl refl refl refl refl refl refl

-- ---- Meet and or

-- the zeros of both, where they match
meet_zeros : (s t : Trits) → length s ≡ length t → matches s t ≡ true → bit_or (zeros_of s) (zeros_of t) ≡ zeros_of (meet s t)
unfolding matches meet zeros_of
meet_zeros =
    paired _ (λ m. refl)
    (λ t u s r e ih m.
    on_cons _ (or_of _ _ zero_l zero_r) t u s r
    ∙ digits_equal (ih (both_true (match_digit t u) (matches s r) m).1)
    (digit t u (both_true (match_digit t u) (matches s r) m).0))
  where
    digit : (t u : Trit) → match_digit t u ≡ true → bit_or (zero_bit t) (zero_bit u) ≡ zero_bit (meet_digit t u)
    digit =
        nine _ (λ h. refl) never (λ h. refl) never (λ h. refl) (λ h. refl) (λ h. refl) (λ h. refl) (λ h. refl)

-- the values of both
meet_values : (s t : Trits) → length s ≡ length t → bit_or (value_of s) (value_of t) ≡ value_of (meet s t)
unfolding meet value_of
meet_values =
    paired _ refl
    (λ t u s r e ih. on_cons _ (or_of _ _ value_l value_r) t u s r ∙ digits_equal ih (digit t u))
  where
    digit : (t u : Trit) → bit_or (value_bit t) (value_bit u) ≡ value_bit (meet_digit t u)
    digit = nine _ refl refl refl refl refl refl refl refl refl

-- 0 where both are 0
or_zeros : (s t : Trits) → length s ≡ length t → bit_and (zeros_of s) (zeros_of t) ≡ zeros_of (or_strings s t)
unfolding or_strings zeros_of
or_zeros = paired _ refl (λ t u s r e ih. on_cons _ within_zeros t u s r ∙ digits_equal ih (digit t u))
  where
    digit : (t u : Trit) → bit_and (zero_bit t) (zero_bit u) ≡ zero_bit (or_digit t u)
    digit = nine _ refl refl refl refl refl refl refl refl refl

-- 1 where one is 1
or_values : (s t : Trits) → length s ≡ length t → bit_or (value_of s) (value_of t) ≡ value_of (or_strings s t)
unfolding or_strings value_of
or_values = paired _ refl (λ t u s r e ih. on_cons _ (or_of _ _ value_l value_r) t u s r ∙ digits_equal ih (digit t u))
  where
    digit : (t u : Trit) → bit_or (value_bit t) (value_bit u) ≡ value_bit (or_digit t u)
    digit = nine _ refl refl refl refl refl refl refl refl refl

module _ (s t : Trits) (e : length s ≡ length t) (short : length s ≤ 32) where
  -- the other has the same length
  short_too : length t ≤ 32
  short_too = rw (← e) short

  -- the high half of "a or b"
  high_or : high (bit_or (word s) (word t)) ≡ bit_or (zeros_of s) (zeros_of t)
  high_or = or_shr (word s) (word t) 32 ∙ ap₂ bit_or (high_word s short) (high_word t short_too)

  -- its low half
  low_or : low (bit_or (word s) (word t)) ≡ bit_or (value_of s) (value_of t)
  low_or = or_mod (word s) (word t) 32 ∙ ap₂ bit_or (low_word s short) (low_word t short_too)

  -- the positions in both of them
  pub word_clash : clash_word (word s) (word t)
      ≡ bit_and (bit_or (zeros_of s) (zeros_of t)) (bit_or (value_of s) (value_of t))
  unfolding clash_word
  word_clash = ap₂ bit_and high_or low_or

  -- the test, the meet and the or of words are those of the strings
  pub word_matches : matches_word (word s) (word t) ≡ matches s t
  unfolding matches_word
  word_matches = ap (λ (x : ℕ). eqb x 0) word_clash ∙ matches_halves s t e

  pub word_meet : matches s t ≡ true → bit_or (word s) (word t) ≡ word (meet s t)
  unfolding word
  word_meet m =
      or_block 32 (zeros_of s) (zeros_of t) (value_of s) (value_of t) (value_half s short) (value_half t short_too)
      ∙ ap₂ halves (meet_zeros s t e m) (meet_values s t e)

  pub word_or : or_word (word s) (word t) ≡ word (or_strings s t)
  unfolding or_word word
  word_or =
      ap₂ halves (ap₂ bit_and (high_word s short) (high_word t short_too) ∙ or_zeros s t e) (low_or ∙ or_values s t e)

-- ---- The opposite: the halves exchanged

-- the ones become zeros
flip_zeros : (s : Trits) → value_of s ≡ zeros_of (map flip s)
unfolding zeros_of value_of
flip_zeros [] = refl
flip_zeros (t0 ∷ s) = digits_equal (flip_zeros s) refl
flip_zeros (t1 ∷ s) = digits_equal (flip_zeros s) refl
flip_zeros (t* ∷ s) = digits_equal (flip_zeros s) refl

-- the zeros become ones
flip_values : (s : Trits) → zeros_of s ≡ value_of (map flip s)
unfolding zeros_of value_of
flip_values [] = refl
flip_values (t0 ∷ s) = digits_equal (flip_values s) refl
flip_values (t1 ∷ s) = digits_equal (flip_values s) refl
flip_values (t* ∷ s) = digits_equal (flip_values s) refl

-- so the word of the opposite has the halves exchanged
pub word_opposite : (s : Trits) → length s ≤ 32 → opposite_word (word s) ≡ word (map flip s)
unfolding opposite_word word
word_opposite s short = ap₂ halves (low_word s short ∙ flip_zeros s) (high_word s short ∙ flip_values s)

-- ---- Strings of one form

-- the string of `*`
zeros_stars : (l : ℕ) → zeros_of (stars l) ≡ 0
unfolding stars zeros_of
zeros_stars zero = refl
zeros_stars (suc l) = rw (zeros_stars l)

-- its word has no bit
pub stars_word : (l : ℕ) → word (stars l) ≡ 0
unfolding word
stars_word l = rw (zeros_stars l, value_stars l)

-- one position fixed to 1: that bit
pub one_word : (l i : ℕ) → i < l → word (one_at l i) ≡ 2 ^ i
unfolding word one_at zeros_of value_of
one_word l i h = rw (no_zeros l i, one_value l i h) (omega arith)
  where
    no_zeros : (l i : ℕ) → zeros_of (one_at l i) ≡ 0
    no_zeros zero i = refl
    no_zeros (suc l) zero = rw (zeros_stars l)
    no_zeros (suc l) (suc i) = rw (no_zeros l i)

    one_value : (l i : ℕ) → i < l → value_of (one_at l i) ≡ 2 ^ i
    one_value zero i h = absurd (not-suc-le-zero h)
    one_value (suc l) zero h = rw (value_stars l)
    one_value (suc l) (suc i) h = rw (one_value l i (le_of_suc-le-suc h)) (omega (arith, pow-suc 2 i))

-- 0 at the variables of a set: its bits in the high half
pub zeros_word : (m : Bits) → word (zeros m) ≡ set_word m * 2 ^ 32
unfolding word zeros zeros_of value_of set_word
zeros_word m = rw (zeros_set m, no_value m) (omega arith)
  where
    zeros_set : (m : Bits) → zeros_of (zeros m) ≡ set_word m
    zeros_set [] = refl
    zeros_set (true ∷ m) = rw (zeros_set m)
    zeros_set (false ∷ m) = rw (zeros_set m)

    no_value : (m : Bits) → value_of (zeros m) ≡ 0
    no_value [] = refl
    no_value (true ∷ m) = rw (no_value m)
    no_value (false ∷ m) = rw (no_value m)
