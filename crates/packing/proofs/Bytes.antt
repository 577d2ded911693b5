-- A row written byte by byte: a byte is the sum of the powers of 3 at its ones and twice those at its stars. Assumes nothing.
use mathlib.Core.Path.{◌≡◌, refl, sym, ap, ap₂, ◌∙◌}
use mathlib.Core.List.{List, [], ◌∷◌}
use Prim.Native.Nat.{ℕ, zero, suc, ◌+◌, ◌-◌, ◌*◌, ◌/◌, ◌%◌, ◌^◌, ◌<◌, ◌≤◌}
use native.Mathlib.Nat.{pow-suc, le_refl, sub-zero, add-zero}
use native.Mathlib.Omega.{arith}
use lib.Arith.{digits_div, digits_mod}
use lib.Dec.{lit<}
use lib.ListN.{length, take, drop, set}
use lib.Seq.{take-take, drop-drop, sets}
use Rattle.model.specs.Strings.{Trit, t0, t1, t*, Trits}
use Rattle.words.specs.declared.Entry.{Entry}
use Rattle.words.specs.Words.{value_bit, care_of, value_of, string, Encodes}
use Rattle.words.proofs.Codec.{care_lt, string_length}
use Rattle.words.proofs.Halves.{Half, value_part}
use Rattle.packing.specs.Packing.{digit, packed_byte, packed_bytes, powers}
use Rattle.packing.proofs.Back.{byte_lt}
use Rattle.packing.proofs.Parts.{of_drop, of_take}

-- ---- The stars of a string

-- 1 where the position is `*`.
abbrev pub star_bit : Trit → ℕ
star_bit t0 = 0
star_bit t1 = 0
star_bit t* = 1

-- A digit.
pub star_bit_lt : (t : Trit) → star_bit t < 2
star_bit_lt t0 = lit< tt
star_bit_lt t1 = lit< tt
star_bit_lt t* = lit< tt

-- The word of the positions that are `*`.
unfoldable pub stars_of : Trits → ℕ
stars_of [] = 0
stars_of (t ∷ s) = stars_of s * 2 + star_bit t

-- Of no position.
pub stars_nil : stars_of [] ≡ 0
unfolding stars_of
stars_nil = refl

-- Of one position more.
pub stars_cons : (t : Trit) (s : Trits) → stars_of (t ∷ s) ≡ stars_of s * 2 + star_bit t
unfolding stars_of
stars_cons t s = refl

-- The stars, for what is said once of them and of the other words.
abbrev pub star_part : Half
star_part = record { of = stars_of; bit = star_bit; small = star_bit_lt; nil = stars_nil; cons = stars_cons }

-- They are all positions without those of the care word.
stars_care : (s : Trits) → 2 ^ length s - 1 - care_of s ≡ stars_of s
unfolding stars_of care_of
stars_care [] = refl
stars_care (t ∷ s) = go t (omega (arith, stars_care s, care_lt s))
  where
    go : (t : Trit) → stars_of s + care_of s + 1 ≡ 2 ^ length s
        → 2 ^ suc (length s) - 1 - care_of (t ∷ s) ≡ stars_of s * 2 + star_bit t
    go t0 e = omega (arith, pow-suc 2 (length s))
    go t1 e = omega (arith, pow-suc 2 (length s))
    go t* e = omega (arith, pow-suc 2 (length s))

-- ---- One byte

-- The last bit of a word, and the rest.
powers_cons : (h : Half) (k : ℕ) (t : Trit) (s : Trits) → powers (suc k) (h.of (t ∷ s)) ≡ h.bit t + 3 * powers k (h.of s)
unfolding powers
powers_cons h k t s = rw (h.cons t s, digits_mod (h.of s) (h.small t), digits_div (h.of s) (h.small t))

-- A word of no bit.
powers_zero : (k : ℕ) → powers k 0 ≡ 0
unfolding powers
powers_zero zero = refl
powers_zero (suc k) = rw (powers_zero k)

-- The byte of the first k positions.
byte_sum : (k : ℕ) (s : Trits) → powers k (value_of s) + 2 * powers k (stars_of s) ≡ packed_byte (take k s)
unfolding powers packed_byte value_of stars_of
byte_sum zero s = refl
byte_sum (suc k) [] = rw (powers_zero k)
byte_sum (suc k) (t ∷ s) =
    ap₂ (λ (x y : ℕ). x + 2 * y) (powers_cons value_part k t s) (powers_cons star_part k t s)
    ∙ go t (powers k (value_of s)) (powers k (stars_of s)) (packed_byte (take k s)) (byte_sum k s)
  where
    go : (t : Trit) (x y n : ℕ) → x + 2 * y ≡ n → value_bit t + 3 * x + 2 * (star_bit t + 3 * y) ≡ digit t + 3 * n
    go t0 x y n e = omega arith
    go t1 x y n e = omega arith
    go t* x y n e = omega arith

-- The byte that the code makes of the two words.
byte_of : (s : Trits) → powers 5 (value_of s % 32) + 2 * powers 5 (stars_of s % 32) ≡ packed_byte (take 5 s)
byte_of s =
    rw (of_take value_part 5 s, of_take star_part 5 s)
    (byte_sum 5 (take 5 s) ∙ ap packed_byte (take-take 5 5 s (le_refl 5)))

-- It is a byte.
byte_fits : (s : Trits) → powers 5 (value_of s % 32) + 2 * powers 5 (stars_of s % 32) < 256
byte_fits s = omega (arith, byte_of s, byte_lt 5 s)

-- ---- A row

-- What is left to write: k bytes at a place, of a string with these ones and stars, give the whole.
pub record Left (s : Trits) (k ones stars at : ℕ) (b whole : List ℕ) : Type 0 where
  pub one : ones ≡ value_of s
  pub star : stars ≡ stars_of s
  pub rest : sets b at (packed_bytes k s) ≡ whole

module _ (s : Trits) (k ones stars at : ℕ) (b whole : List ℕ) where
  -- The byte that is written next fits.
  pub left_fits : Left s k ones stars at b whole → powers 5 (ones % 32) + 2 * powers 5 (stars % 32) < 256
  left_fits l = rw (l.one, l.star) (byte_fits s)

  -- After it is written there is one byte less to write.
  left_less : Left s (suc k) ones stars at b whole
      → Left (drop 5 s) k (ones / 32) (stars / 32) (suc at) (set b at (powers 5 (ones % 32) + 2 * powers 5 (stars % 32))) whole
  unfolding packed_bytes
  left_less l = record {
    one = rw l.one (of_drop value_part 5 s);
    star = rw l.star (of_drop star_part 5 s);
    rest = rw (l.one, l.star, byte_of s) l.rest;
  }

-- At first all is left.
pub left_all : (s : Trits) (k ones stars at : ℕ) (b : List ℕ) → ones ≡ value_of s → stars ≡ stars_of s
    → Left s (k - 0) ones stars (at + 0) b (sets b at (packed_bytes k s))
left_all s k ones stars at b o t = record { one = o; star = t; rest = rw (sub-zero, add-zero) }

-- A turn of the writer.
pub left_turn : (s : Trits) (k i ones stars at x y : ℕ) (b whole : List ℕ) → i < k → x ≡ powers 5 (ones % 32)
    → y ≡ powers 5 (stars % 32) → Left (drop (5 * i) s) (k - i) ones stars (at + i) b whole
    → Left (drop (5 * (i + 1)) s) (k - (i + 1)) (ones / 32) (stars / 32) (at + (i + 1)) (set b (at + i) (x + 2 * y)) whole
left_turn s k i ones stars at x y b whole h p q l =
    let fewer : k - i ≡ suc (k - (i + 1)) = omega arith in
    let next : at + (i + 1) ≡ suc (at + i) = omega arith in
    let five : 5 * (i + 1) ≡ 5 * i + 5 = omega arith in
    rw (next, five, ← drop-drop 5 (5 * i) s, p, q)
    (left_less (drop (5 * i) s) (k - (i + 1)) ones stars (at + i) b whole (rw fewer at l))

-- At last none is left.
pub left_none : (s : Trits) (k i ones stars at : ℕ) (b whole : List ℕ) → k ≤ i → Left s (k - i) ones stars at b whole
    → b ≡ whole
unfolding packed_bytes
left_none s k i ones stars at b whole h l = let none : k - i ≡ 0 = omega arith in rw none at l.rest

-- ---- The words of an entry

module _ (l full : ℕ) (e : Entry) (clean : Encodes l e) (is : full ≡ 2 ^ l - 1) where
  -- The care word has no bit above l.
  pub entry_care : e.care ≤ full
  entry_care = omega (arith, rw (string_length l e) at (care_lt (string l e)), ap (λ (x : Entry). x.care) clean)

  -- The stars are the bits that it lacks.
  entry_stars : full - e.care ≡ stars_of (string l e)
  entry_stars =
      ap₂ ◌-◌ (is ∙ ap (λ (n : ℕ). 2 ^ n - 1) (sym (string_length l e))) (ap (λ (x : Entry). x.care) clean)
      ∙ stars_care (string l e)

  -- What holds of every string with the ones and stars of an entry holds of the entry.
  pub of_entry : {P : Trits → Type 0} → ((s : Trits) → e.value ≡ value_of s → full - e.care ≡ stars_of s → P s)
      → P (string l e)
  of_entry f = f (string l e) (ap (λ (x : Entry). x.value) clean) entry_stars
