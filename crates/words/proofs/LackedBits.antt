-- The bits that one string's word lacks of another's: how many they are, and the positions that are opened. Assumes nothing.
use Rattle.std.proofs.Common.{◌≡◌, ℕ, zero, suc, ◌+◌, ◌-◌, ◌*◌, ◌/◌, ◌%◌, ◌^◌, ◌<◌, ◌≤◌, Bool, true, false, cond, ◌&&◌, eqb, ltb, [], ◌∷◌, map, length, get_or, sym, refl, ap, ◌∙◌, ap₂, pow-suc, suc-ne-zero, arith, lit<, ltb-false, ltb-true, eq-eqb, ne_eqb, eqb-true}
use native.Mathlib.Nat.{suc_inj}
use borrow.Author.Tests.{eqb-false}
use lib.Bits.{bit_and, bit_or, bit_xor, and_block, xor_block, and_self, and_zero_l, and_lt, xor_lt, and_le_l}
use lib.Count.{ones, ones_step, ones_cat}
use lib.Dec.{eqb-suc-zero}
use lib.Pow as pow
use Rattle.model.specs.Groups.{Bits}
use Rattle.model.specs.Strings.{Trit, Trits, fixed_digit, flip, subsumes_digit, subsumes, fixed, flipped}
use Rattle.words.specs.Words.{value_bit, zero_bit, value_of, zeros_of, word, halves, set_word, openings, lack_count}
use Rattle.words.specs.Words.{near, fixed_word, lacks_word, lone, openings_of}
use Rattle.words.proofs.Digits.{Op, on, on_digit, Digitwise, zero_l, value_l, zero_r, value_r, and_of, or_of, xor_of}
use Rattle.words.proofs.Digits.{on_cons, on_digit_lt, digits_equal, paired, nine, never, never'}
use Rattle.words.proofs.Halves.{value_half, zeros_half, cares_or, care_word}

-- ---- What each position says

-- no position
none : Bits → Bits
none g = map (λ (b : Bool). false) g

-- has none
none_at : (g : Bits) (i : ℕ) → get_or (none g) i false ≡ false
unfolding none
none_at [] i = refl
none_at (b ∷ g) zero = refl
none_at (b ∷ g) (suc i) = none_at g i

-- and no bit
none_word : (g : Bits) → set_word (none g) ≡ 0
unfolding none set_word
none_word [] = refl
none_word (b ∷ g) = rw (none_word g)

-- a position is opened where y, flipped there, is subsumed by e
pub openings_at : (e y : Trits) (i : ℕ) → length e ≡ length y
    → get_or (openings e y) i false ≡ (fixed i y && subsumes e (flipped i y))
unfolding openings fixed flipped subsumes none
openings_at [] [] i n = refl
openings_at [] (u ∷ y) i n = absurd (suc-ne-zero _ (sym n))
openings_at (t ∷ e) [] i n = absurd (suc-ne-zero _ n)
openings_at (t ∷ e) (u ∷ y) zero n = go (fixed_digit u) (subsumes_digit t (flip u))
  where
    go : (a b : Bool) → (a && b && subsumes e y) ≡ (a && (b && subsumes e y))
    go true b = refl
    go false b = refl
openings_at (t ∷ e) (u ∷ y) (suc i) n = go (subsumes_digit t u) (openings_at e y i (suc_inj n))
  where
    false_and : (a : Bool) → false ≡ (a && false)
    false_and true = refl
    false_and false = refl

    go : (b : Bool) → get_or (openings e y) i false ≡ (fixed i y && subsumes e (flipped i y))
        → get_or (cond b (openings e y) (none (openings e y))) i false ≡ (fixed i y && (b && subsumes e (flipped i y)))
    go true p = p
    go false p = none_at (openings e y) i ∙ false_and (fixed i y)

-- ---- A number has at most one 1 exactly where nothing is left of it without its lowest

-- a number without a 1 is 0
ones_none : (k n : ℕ) → n < 2 ^ k → ones n ≡ 0 → n ≡ 0
ones_none zero n h e = omega arith
ones_none (suc k) n h e =
    let s = ones_step n in
    let r : n / 2 ≡ 0 = ones_none k (n / 2) (omega (arith, pow-suc 2 k)) (omega arith) in
    omega arith

-- the count of a number by its last digit
ones_even : (h : ℕ) → ones (h * 2 + 0) ≡ ones h
ones_even h = ones_cat 1 h 0 (lit< tt) ∙ unfold ones in omega arith

ones_double : (h : ℕ) → ones (h * 2) ≡ ones h
ones_double h = ap ones (omega arith) ∙ ones_even h

ones_odd : (h : ℕ) → ones (h * 2 + 1) ≡ suc (ones h)
ones_odd h = ones_cat 1 h 1 (lit< tt) ∙ unfold ones in omega arith

-- a number without its lowest 1, by its last digit
pub low_one : (w : ℕ) → bit_and (w * 2 + 1) (w * 2 + 1 - 1) ≡ w * 2
low_one w =
    let m : w * 2 + 1 - 1 ≡ w * 2 + 0 = omega arith in
    rw m (and_block 1 w w 1 0 (lit< tt) (lit< tt) ∙ rw (and_self w) (omega arith))

pub low_zero : (w : ℕ) → ¬ (w ≡ 0) → bit_and (w * 2 + 0) (w * 2 + 0 - 1) ≡ bit_and w (w - 1) * 2
low_zero w z =
    let m : w * 2 + 0 - 1 ≡ (w - 1) * 2 + 1 = omega arith in
    rw m (and_block 1 w (w - 1) 0 1 (lit< tt) (lit< tt) ∙ omega arith)

-- it has one 1 less
less_one : (k n : ℕ) → n < 2 ^ k → ones (bit_and n (n - 1)) ≡ ones n - 1
less_one zero n h = let z : n ≡ 0 = omega arith in rw z (unfold ones in refl)
less_one (suc k) n h =
    go (n % 2) (n / 2) (omega arith) (omega arith) (less_one k (n / 2) (omega (arith, pow-suc 2 k)))
  where
    even : (w : ℕ) (b : Bool) → eqb w 0 ≡ b → ones (bit_and w (w - 1)) ≡ ones w - 1
        → ones (bit_and (w * 2 + 0) (w * 2 + 0 - 1)) ≡ ones (w * 2 + 0) - 1
    even w true q ih = rw (eqb-true w 0 q) (unfold ones in refl)
    even w false q ih = rw (low_zero w (eqb-false w 0 q), ones_double (bit_and w (w - 1)), ones_even w) ih

    go : (d w : ℕ) → d < 2 → n ≡ w * 2 + d → ones (bit_and w (w - 1)) ≡ ones w - 1 → ones (bit_and n (n - 1)) ≡ ones n - 1
    go zero w l e ih = rw e (even w (eqb w 0) refl ih)
    go (suc zero) w l e ih = rw (e, low_one w, ones_double w, ones_odd w) (omega arith)
    go (suc (suc d)) w l e ih = absurd (omega arith)

-- nothing is left exactly where there are fewer than two
pub lone_ones : (k w : ℕ) → w < 2 ^ k → lone w ≡ ltb (ones w) 2
unfolding lone
lone_ones k w h = go (eqb (bit_and w (w - 1)) 0) (ltb (ones w) 2) refl refl
  where
    rest : ℕ
    rest = bit_and w (w - 1)

    go : (b c : Bool) → eqb rest 0 ≡ b → ltb (ones w) 2 ≡ c → b ≡ c
    go true true p q = refl
    go false false p q = refl
    go true false p q =
        let z : ones rest ≡ 0 = rw (eqb-true rest 0 p) (unfold ones in refl) in
        absurd (omega (arith, less_one k w h, ltb-false (ones w) 2 q))
    go false true p q =
        let z : ones rest ≡ 0 = omega (arith, less_one k w h, ltb-true (ones w) 2 q) in
        absurd (eqb-false rest 0 p (ones_none k rest (omega (arith, and_le_l w (w - 1))) z))

-- ---- The bits that lack, in each half

-- zeros of the one that are not zeros of the other
pub lack_zeros : Digitwise (λ p q r s. bit_xor (bit_and p r) p)
lack_zeros = xor_of _ _ (and_of _ _ zero_l zero_r) zero_l

-- values of the one that are not values of the other
pub lack_values : Digitwise (λ p q r s. bit_xor (bit_and q s) q)
lack_values = xor_of _ _ (and_of _ _ value_l value_r) value_l

-- the zeros that lack
abbrev pub Z : Trits → Trits → ℕ
Z e y = bit_xor (bit_and (zeros_of e) (zeros_of y)) (zeros_of e)

-- the values that lack
abbrev pub O : Trits → Trits → ℕ
O e y = bit_xor (bit_and (value_of e) (value_of y)) (value_of e)

-- the count of an operation at one position more
pub ones_on : (F : Op) → Digitwise F → (t u : Trit) (e y : Trits)
    → ones (on F (t ∷ e) (u ∷ y)) ≡ ones (on F e y) + ones (on_digit F t u)
ones_on F f t u e y = ap ones (on_cons F f t u e y) ∙ ones_cat 1 (on F e y) (on_digit F t u) (on_digit_lt F f t u)

-- there are as many as positions that lack
lack_ones : (e y : Trits) → length e ≡ length y → ones (Z e y) + ones (O e y) ≡ lack_count e y
unfolding lack_count ones
lack_ones =
    paired _ (unfold zeros_of value_of in refl)
    (λ t u e y n ih.
    ap₂ ◌+◌ (ones_on _ lack_zeros t u e y) (ones_on _ lack_values t u e y)
    ∙ go (subsumes_digit t u) (ones (Z e y)) (ones (O e y)) _ _ (lack_count e y) ih (digit t u))
  where
    digit : (t u : Trit)
        → ones (bit_xor (bit_and (zero_bit t) (zero_bit u)) (zero_bit t))
        + ones (bit_xor (bit_and (value_bit t) (value_bit u)) (value_bit t))
        ≡ cond (subsumes_digit t u) 0 1
    digit = nine _ refl refl refl refl refl refl refl refl refl

    go : (b : Bool) (p q c d n : ℕ) → p + q ≡ n → c + d ≡ cond b 0 1 → p + c + (q + d) ≡ cond b n (suc n)
    go true p q c d n e k = omega arith
    go false p q c d n e k = omega arith

-- none does exactly where e subsumes y
lack_none : (e y : Trits) → length e ≡ length y → eqb (lack_count e y) 0 ≡ subsumes e y
unfolding lack_count subsumes
lack_none = paired _ refl (λ t u e y n ih. go (subsumes_digit t u) (lack_count e y) (subsumes e y) ih)
  where
    go : (b : Bool) (n : ℕ) (c : Bool) → eqb n 0 ≡ c → eqb (cond b n (suc n)) 0 ≡ (b && c)
    go true n c h = h
    go false n c h = eqb-suc-zero n

module _ (e y : Trits) (n : length e ≡ length y) (short : length e ≤ 32) where
  -- the other has the same length
  short_too : length y ≤ 32
  short_too = rw (← n) short

  -- they stay within the half
  zeros_small : Z e y < 2 ^ 32
  zeros_small =
      xor_lt 32 _ _ (and_lt 32 _ _ (zeros_half e short) (zeros_half y short_too)) (zeros_half e short)

  values_small : O e y < 2 ^ 32
  values_small =
      xor_lt 32 _ _ (and_lt 32 _ _ (value_half e short) (value_half y short_too)) (value_half e short)

  -- the word of the bits that lack, by its halves
  pub lacks_halves : lacks_word (word e) (word y) ≡ halves (Z e y) (O e y)
  unfolding lacks_word word
  lacks_halves =
      ap (λ (x : ℕ). bit_xor x (word e))
      (and_block 32 (zeros_of e) (zeros_of y) (value_of e) (value_of y) (value_half e short) (value_half y short_too))
      ∙ xor_block 32 (bit_and (zeros_of e) (zeros_of y)) (zeros_of e) (bit_and (value_of e) (value_of y)) (value_of e)
      (and_lt 32 _ _ (value_half e short) (value_half y short_too)) (value_half e short)

  -- and how many they are
  lacks_count : ones (lacks_word (word e) (word y)) ≡ lack_count e y
  lacks_count = ap ones lacks_halves ∙ ones_cat 32 (Z e y) (O e y) values_small ∙ lack_ones e y n

  -- it is a word
  lacks_lt : lacks_word (word e) (word y) < 2 ^ 64
  lacks_lt = rw lacks_halves (omega (arith, zeros_small, values_small))

  -- its fixed positions
  pub lacks_fixed : fixed_word (lacks_word (word e) (word y)) ≡ bit_or (Z e y) (O e y)
  unfolding fixed_word
  lacks_fixed =
      ap fixed_word lacks_halves ∙ ap₂ bit_or (pow.high (Z e y) 32 values_small) (pow.low (Z e y) 32 values_small)

  -- at most one bit lacks exactly where at most one position does
  pub word_near : lone (lacks_word (word e) (word y)) ≡ near e y
  unfolding near
  word_near = lone_ones 64 (lacks_word (word e) (word y)) lacks_lt ∙ ap (λ (x : ℕ). ltb x 2) lacks_count

-- ---- The word of the openings, by the first position and the others

-- the digit of the first position, where b says whether the others are subsumed
unfoldable pub head_digit : Trit → Trit → Bool → ℕ
head_digit t u b = cond (fixed_digit u && subsumes_digit t (flip u) && b) 1 0

-- it is 0 where they are not
pub head_none : (t u : Trit) → head_digit t u false ≡ 0
unfolding head_digit
head_none t u = go (fixed_digit u) (subsumes_digit t (flip u))
  where
    go : (a b : Bool) → ◌≡◌ {A = ℕ} (cond (a && b && false) 1 0) 0
    go true true = refl
    go true false = refl
    go false b = refl

-- where the first position does not lack
pub openings_kept : (t u : Trit) (e y : Trits) → subsumes_digit t u ≡ true
    → set_word (openings (t ∷ e) (u ∷ y)) ≡ set_word (openings e y) * 2 + head_digit t u (subsumes e y)
unfolding openings set_word head_digit
openings_kept t u e y k = rw k

-- where it does
pub openings_lost : (t u : Trit) (e y : Trits) → subsumes_digit t u ≡ false
    → set_word (openings (t ∷ e) (u ∷ y)) ≡ 0 * 2 + head_digit t u (subsumes e y)
unfolding openings set_word head_digit none
openings_lost t u e y k = rw (k, none_word (openings e y))

-- the fixed positions of y that e leaves open
opened : Digitwise (λ p q r s. bit_xor (bit_or r s) (bit_and (bit_or r s) (bit_or p q)))
opened = xor_of _ _ (or_of _ _ zero_r value_r) (and_of _ _ (or_of _ _ zero_r value_r) (or_of _ _ zero_l value_l))

-- the fixed positions of y among those that lack
lacking : Digitwise (λ p q r s. bit_and (bit_or (bit_xor (bit_and p r) p) (bit_xor (bit_and q s) q)) (bit_or r s))
lacking = and_of _ _ (or_of _ _ lack_zeros lack_values) (or_of _ _ zero_r value_r)

-- those of two strings
abbrev opened_at : Trits → Trits → ℕ
opened_at e y =
    let c = bit_or (zeros_of y) (value_of y) in
    bit_xor c (bit_and c (bit_or (zeros_of e) (value_of e)))

-- those of two strings
abbrev lacking_at : Trits → Trits → ℕ
lacking_at e y = bit_and (bit_or (Z e y) (O e y)) (bit_or (zeros_of y) (value_of y))

-- ---- No position lacks, one does, or more than one

-- no position lacks: e subsumes y
none_left : (e y : Trits) → length e ≡ length y → lack_count e y ≡ 0 → subsumes e y ≡ true
none_left e y n z = sym (lack_none e y n) ∙ eq-eqb (lack_count e y) 0 z

-- some position lacks: it does not
some_left : (e y : Trits) → length e ≡ length y → 0 < lack_count e y → subsumes e y ≡ false
some_left e y n z = sym (lack_none e y n) ∙ ne_eqb (lack_count e y) 0 (λ k. omega arith)

-- none lacks: what is left open
open_all : (e y : Trits) → length e ≡ length y → lack_count e y ≡ 0 → opened_at e y ≡ set_word (openings e y)
unfolding lack_count
open_all =
    paired _ (λ z. unfold zeros_of value_of openings set_word in refl)
    (λ t u e y n ih z. step t u e y n ih (subsumes_digit t u) refl z)
  where
    digit : (t u : Trit) → subsumes_digit t u ≡ true
        → bit_xor (bit_or (zero_bit u) (value_bit u)) (bit_and (bit_or (zero_bit u) (value_bit u)) (bit_or (zero_bit t) (value_bit t)))
        ≡ head_digit t u true
    digit = unfold head_digit in
        nine _ (λ h. refl) never never never (λ h. refl) never (λ h. refl) (λ h. refl) (λ h. refl)

    step : (t u : Trit) (e y : Trits) → length e ≡ length y
        → (lack_count e y ≡ 0 → opened_at e y ≡ set_word (openings e y))
        → (b : Bool) → subsumes_digit t u ≡ b → cond b (lack_count e y) (suc (lack_count e y)) ≡ 0
        → opened_at (t ∷ e) (u ∷ y) ≡ set_word (openings (t ∷ e) (u ∷ y))
    step t u e y n ih true q z =
        on_cons _ opened t u e y
        ∙ digits_equal (ih z) (digit t u q ∙ ap (head_digit t u) (sym (none_left e y n z)))
        ∙ sym (openings_kept t u e y q)
    step t u e y n ih false q z = absurd (suc-ne-zero _ z)

-- nothing lacks: no bit does
lacking_none : (e y : Trits) → length e ≡ length y → length e ≤ 32 → lack_count e y ≡ 0 → lacking_at e y ≡ 0
lacking_none e y n short z =
    let s = lack_ones e y n in
    let a : Z e y ≡ 0 = ones_none 32 (Z e y) (zeros_small e y n short) (omega arith) in
    let b : O e y ≡ 0 = ones_none 32 (O e y) (values_small e y n short) (omega arith) in
    ap₂ (λ (x y' : ℕ). bit_and (bit_or x y') (bit_or (zeros_of y) (value_of y))) a b ∙ and_zero_l (bit_or (zeros_of y) (value_of y))

-- one lacks: that one, if y is fixed there
open_one : (e y : Trits) → length e ≡ length y → length e ≤ 32 → lack_count e y ≡ 1 → lacking_at e y ≡ set_word (openings e y)
unfolding lack_count
open_one =
    paired (λ e y. length e ≤ 32 → lack_count e y ≡ 1 → lacking_at e y ≡ set_word (openings e y))
    (λ short z. absurd (suc-ne-zero _ (sym z)))
    (λ t u e y n ih short z. step t u e y n (omega arith) (ih (omega arith)) (subsumes_digit t u) refl z)
  where
    lacking_digit : Trit → Trit → ℕ
    lacking_digit t u =
        bit_and (bit_or (bit_xor (bit_and (zero_bit t) (zero_bit u)) (zero_bit t))
        (bit_xor (bit_and (value_bit t) (value_bit u)) (value_bit t))) (bit_or (zero_bit u) (value_bit u))

    kept : (t u : Trit) → subsumes_digit t u ≡ true → lacking_digit t u ≡ 0
    kept = nine _ (λ h. refl) never never never (λ h. refl) never (λ h. refl) (λ h. refl) (λ h. refl)

    lost : (t u : Trit) → subsumes_digit t u ≡ false → lacking_digit t u ≡ head_digit t u true
    lost = unfold head_digit in
        nine _ never' (λ h. refl) (λ h. refl) (λ h. refl) never' (λ h. refl) never' never' never'

    step : (t u : Trit) (e y : Trits) → length e ≡ length y → length e ≤ 32
        → (lack_count e y ≡ 1 → lacking_at e y ≡ set_word (openings e y))
        → (b : Bool) → subsumes_digit t u ≡ b → cond b (lack_count e y) (suc (lack_count e y)) ≡ 1
        → lacking_at (t ∷ e) (u ∷ y) ≡ set_word (openings (t ∷ e) (u ∷ y))
    step t u e y n short ih true q z =
        on_cons _ lacking t u e y
        ∙ digits_equal (ih z) (kept t u q ∙ sym (ap (head_digit t u) (some_left e y n (omega arith)) ∙ head_none t u))
        ∙ sym (openings_kept t u e y q)
    step t u e y n short ih false q z =
        let r : lack_count e y ≡ 0 = omega arith in
        on_cons _ lacking t u e y
        ∙ digits_equal (lacking_none e y n short r) (lost t u q ∙ ap (head_digit t u) (sym (none_left e y n r)))
        ∙ sym (openings_lost t u e y q)

-- more than one lack: none is opened
pub open_none : (e y : Trits) → length e ≡ length y → 1 < lack_count e y → 0 ≡ set_word (openings e y)
unfolding lack_count
open_none =
    paired _ (λ z. absurd (omega arith)) (λ t u e y n ih z. step t u e y n ih (subsumes_digit t u) refl z)
  where
    step : (t u : Trit) (e y : Trits) → length e ≡ length y → (1 < lack_count e y → 0 ≡ set_word (openings e y))
        → (b : Bool) → subsumes_digit t u ≡ b → 1 < cond b (lack_count e y) (suc (lack_count e y))
        → 0 ≡ set_word (openings (t ∷ e) (u ∷ y))
    step t u e y n ih true q z =
        sym (openings_kept t u e y q
        ∙ digits_equal (sym (ih z)) (ap (head_digit t u) (some_left e y n (omega arith)) ∙ head_none t u))
    step t u e y n ih false q z =
        sym (openings_lost t u e y q ∙ rw (some_left e y n (omega arith), head_none t u))

-- ---- All three

-- the word that is made for the words of two strings is that of the openings
pub word_openings : (e y : Trits) → length e ≡ length y → length e ≤ 32
    → openings_of (lacks_word (word e) (word y)) (word e) (word y) ≡ set_word (openings e y)
unfolding openings_of fixed_word
word_openings e y n short = go (eqb w 0) (lone w) refl refl
  where
    w : ℕ
    w = lacks_word (word e) (word y)

    count : ones w ≡ lack_count e y
    count = lacks_count e y n short

    cares_e : fixed_word (word e) ≡ bit_or (zeros_of e) (value_of e)
    cares_e = care_word e short ∙ sym (cares_or e)

    cares_y : fixed_word (word y) ≡ bit_or (zeros_of y) (value_of y)
    cares_y = care_word y (short_too e y n short) ∙ sym (cares_or y)

    lone_count : lone w ≡ ltb (ones w) 2
    lone_count = lone_ones 64 w (lacks_lt e y n short)

    go : (a b : Bool) → eqb w 0 ≡ a → lone w ≡ b
        → cond a (bit_xor (fixed_word (word y)) (bit_and (fixed_word (word y)) (fixed_word (word e))))
        (cond b (bit_and (fixed_word w) (fixed_word (word y))) 0) ≡ set_word (openings e y)
    go true b p q =
        rw (cares_e, cares_y) (open_all e y n (sym count ∙ ap ones (eqb-true w 0 p) ∙ unfold ones in refl))
    go false true p q =
        let few : ones w < 2 = ltb-true (ones w) 2 (sym lone_count ∙ q) in
        let some : ¬ (ones w ≡ 0) = λ z. eqb-false w 0 p (ones_none 64 w (lacks_lt e y n short) z) in
        rw (lacks_fixed e y n short, cares_y) (open_one e y n short (omega (arith, count)))
    go false false p q =
        let more : 2 ≤ ones w = ltb-false (ones w) 2 (sym lone_count ∙ q) in
        open_none e y n (omega (arith, count))

-- ---- As the code goes: one branch each

module _ (w e y : ℕ) where
  -- none, one, and more
  pub none_lacks : w ≡ 0 → bit_xor (fixed_word y) (bit_and (fixed_word y) (fixed_word e)) ≡ openings_of w e y
  unfolding openings_of
  none_lacks z = rw (eq-eqb w 0 z)

  module _ (z : ¬ (w ≡ 0)) where
    pub one_lacks : bit_and w (w - 1) ≡ 0 → bit_and (fixed_word w) (fixed_word y) ≡ openings_of w e y
    unfolding openings_of lone
    one_lacks o = rw (ne_eqb w 0 z, eq-eqb (bit_and w (w - 1)) 0 o)

    pub more_lack : ¬ (bit_and w (w - 1) ≡ 0) → 0 ≡ openings_of w e y
    unfolding openings_of lone
    more_lack o = rw (ne_eqb w 0 z, ne_eqb (bit_and w (w - 1)) 0 o)

-- w - 1 as it wraps below 0
pub wrapped : (w m : ℕ) → (m + 1) % 2 ^ 64 ≡ w → m < 2 ^ 64 → eqb (bit_and w m) 0 ≡ lone w
unfolding lone
wrapped zero m e h = ap (λ (x : ℕ). eqb x 0) (and_zero_l m)
wrapped (suc w) m e h = let d : m ≡ suc w - 1 = omega arith in rw d
