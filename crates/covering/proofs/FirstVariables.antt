-- Sets as words, the strings of the first variable of a set, and the strings with one 1. Assumes nothing.
use mathlib.Core.Bool.{Bool, true, false, not, ◌&&◌, ◌||◌, false≢true, cond, or-false, not-not}
use mathlib.Core.List.{[], ◌∷◌}
use mathlib.Core.Path.{◌≡◌, refl, sym, ap, ap₂, ◌∙◌}
use Prim.Native.Nat.{ℕ, zero, suc, ◌+◌, ◌-◌, ◌*◌, ◌%◌, ◌^◌, ◌<◌, ◌≤◌}
use native.Mathlib.Nat.{pow-suc, suc_inj, suc-ne-zero, not-suc-le-zero, le_of_suc-le-suc}
use native.Mathlib.Omega.{arith}
use lib.Bits.{bit_and, bit_or, and_block, and_zero_r, and_lt, mask_lt}
use lib.Dec.{eqb, lit<}
use lib.ListN.{length, get_or, replicate, length-replicate}
use lib.Pow.{pow_pos, pow-lt}
use Rattle.model.specs.Groups.{Bits, meets}
use Rattle.model.specs.Strings.{Trit, t0, t1, t*, Trits, covers_digit, covers, one_at, stars}
use Rattle.model.proofs.Positions.{stars_length}
use Rattle.model.proofs.Strings.{stars_cover}
use Rattle.words.specs.Words.{zero_bit, value_of, zeros_of, word, set_word, high, halves}
use Rattle.words.proofs.Codec.{bit_lt}
use Rattle.words.proofs.Digits.{zero_bit_lt, eqb_digit, digits_equal}
use Rattle.words.proofs.Halves.{high_word, halves_or}
use Rattle.words.proofs.Positions.{pow_digit}
use Rattle.words.proofs.Words.{stars_word}
use Rattle.covering.specs.Sets.{greatest_digit, greatest, first_string}
use Rattle.covering.proofs.EveryGroup.{left, right}

-- ---- A set and its word

-- the set of one position
pub only : ℕ → ℕ → Bits
only zero i = []
only (suc l) zero = true ∷ replicate l false
only (suc l) (suc i) = false ∷ only l i

-- it has l positions
pub only_length : (l i : ℕ) → length (only l i) ≡ l
unfolding only
only_length zero i = refl
only_length (suc l) zero = ap suc (length-replicate l false)
only_length (suc l) (suc i) = ap suc (only_length l i)

-- the word of the empty set is 0
empty_word : (l : ℕ) → set_word (replicate l false) ≡ 0
unfolding set_word
empty_word zero = refl
empty_word (suc l) = ap (λ (x : ℕ). x * 2 + 0) (empty_word l)

-- its word is one bit
pub only_word : (l i : ℕ) → i < l → 2 ^ i ≡ set_word (only l i)
unfolding set_word only
only_word zero i h = absurd (not-suc-le-zero h)
only_word (suc l) zero h = sym (ap (λ (x : ℕ). x * 2 + 1) (empty_word l))
only_word (suc l) (suc i) h = pow_digit i ∙ ap (λ (x : ℕ). x * 2 + 0) (only_word l i (le_of_suc-le-suc h))

-- the empty set meets nothing
empty_meets : (l : ℕ) (g : Bits) → meets (replicate l false) g ≡ false
unfolding meets
empty_meets zero g = refl
empty_meets (suc l) [] = refl
empty_meets (suc l) (b ∷ g) = empty_meets l g

-- it meets what has that position
pub only_meets : (l i : ℕ) (g : Bits) → i < l → meets (only l i) g ≡ get_or g i false
unfolding meets only
only_meets zero i g h = absurd (not-suc-le-zero h)
only_meets (suc l) zero [] h = refl
only_meets (suc l) zero (b ∷ g) h = ap (λ (u : Bool). b || u) (empty_meets l g) ∙ or-false b
only_meets (suc l) (suc i) [] h = refl
only_meets (suc l) (suc i) (b ∷ g) h = only_meets l i g (le_of_suc-le-suc h)

-- ---- The strings with one 1

-- 1 at position i: what has that position
pub one_covers : (l i : ℕ) (g : Bits) → i < l → length g ≡ l → covers (one_at l i) g ≡ get_or g i false
unfolding covers one_at
one_covers zero i g h e = absurd (not-suc-le-zero h)
one_covers (suc l) i [] h e = absurd (suc-ne-zero _ (sym e))
one_covers (suc l) zero (true ∷ g) h e = stars_cover l g (suc_inj e)
one_covers (suc l) zero (false ∷ g) h e = refl
one_covers (suc l) (suc i) (b ∷ g) h e = one_covers l i g (le_of_suc-le-suc h) (suc_inj e)

-- ---- The strings of the first variable of a set

-- they are as long as the set
pub first_length : (k : Bits) (i : ℕ) → length (first_string k i) ≡ length k
unfolding first_string
first_length [] i = refl
first_length (b ∷ k) zero = ap suc (stars_length (length k))
first_length (true ∷ k) (suc i) = ap suc (first_length k i)
first_length (false ∷ k) (suc i) = ap suc (first_length k i)

-- what meets the set has a first variable of it
pub first_of : (k g : Bits) → length g ≡ length k → meets k g ≡ true
    → (i : ℕ) × (get_or k i false ≡ true) × (covers (first_string k i) g ≡ true)
unfolding covers meets first_string
first_of [] g e h = absurd (false≢true h)
first_of (a ∷ k) [] e h = absurd (false≢true h)
first_of (true ∷ k) (true ∷ g) e h = (0, refl, stars_cover (length k) g (suc_inj e))
first_of (true ∷ k) (false ∷ g) e h = let r = first_of k g (suc_inj e) h in (suc r.0, r.1, r.2)
first_of (false ∷ k) (b ∷ g) e h = let r = first_of k g (suc_inj e) h in (suc r.0, r.1, r.2)

-- and what is covered by one of them meets the set
pub first_meets : (k g : Bits) (i : ℕ) → get_or k i false ≡ true → covers (first_string k i) g ≡ true → meets k g ≡ true
unfolding covers meets first_string
first_meets [] g i b h = absurd (false≢true b)
first_meets (a ∷ k) [] zero b h = absurd (false≢true h)
first_meets (true ∷ k) [] (suc i) b h = absurd (false≢true h)
first_meets (false ∷ k) [] (suc i) b h = absurd (false≢true h)
first_meets (true ∷ k) (true ∷ g) i b h = refl
first_meets (true ∷ k) (false ∷ g) zero b h = absurd (false≢true h)
first_meets (true ∷ k) (false ∷ g) (suc i) b h = first_meets k g i b h
first_meets (false ∷ k) (x ∷ g) zero b h = absurd (false≢true b)
first_meets (false ∷ k) (x ∷ g) (suc i) b h = first_meets k g i b h

-- its zeros are the set below the position, its only 1 is there
stars_halves : (l : ℕ) → (zeros_of (stars l) ≡ 0) × (value_of (stars l) ≡ 0)
unfolding word
stars_halves l = let e = stars_word l in (omega arith, omega arith)

-- the mask of one position more
mask_digit : (i : ℕ) → 2 ^ suc i - 1 ≡ (2 ^ i - 1) * 2 + 1
mask_digit i = omega (arith, pow-suc 2 i, pow_pos i)

-- the zeros: the set below the position
first_zeros : (k : Bits) (i : ℕ) → i < length k → bit_and (set_word k) (2 ^ i - 1) ≡ zeros_of (first_string k i)
unfolding first_string set_word zeros_of
first_zeros [] i h = absurd (not-suc-le-zero h)
first_zeros (b ∷ k) zero h = and_zero_r (set_word (b ∷ k)) ∙ omega (arith, (stars_halves (length k)).0)
first_zeros (true ∷ k) (suc i) h =
    ap (bit_and (set_word k * 2 + 1)) (mask_digit i)
    ∙ and_block 1 (set_word k) (2 ^ i - 1) 1 1 (lit< tt) (lit< tt) ∙ digits_equal (first_zeros k i (le_of_suc-le-suc h)) refl
first_zeros (false ∷ k) (suc i) h =
    ap (bit_and (set_word k * 2 + 0)) (mask_digit i)
    ∙ and_block 1 (set_word k) (2 ^ i - 1) 0 1 (lit< tt) (lit< tt) ∙ digits_equal (first_zeros k i (le_of_suc-le-suc h)) refl

-- the only 1 is there
first_value : (k : Bits) (i : ℕ) → i < length k → 2 ^ i ≡ value_of (first_string k i)
unfolding first_string value_of
first_value [] i h = absurd (not-suc-le-zero h)
first_value (b ∷ k) zero h = omega (arith, (stars_halves (length k)).1)
first_value (true ∷ k) (suc i) h = pow_digit i ∙ digits_equal (first_value k i (le_of_suc-le-suc h)) refl
first_value (false ∷ k) (suc i) h = pow_digit i ∙ digits_equal (first_value k i (le_of_suc-le-suc h)) refl

-- as the code makes it
pub first_word : (k : Bits) (i : ℕ) → i < length k → i < 32
    → bit_or ((bit_and (set_word k) (2 ^ i - 1) * 2 ^ 32) % 2 ^ 64) (2 ^ i) ≡ word (first_string k i)
unfolding word
first_word k i h few =
    halves_or (bit_and (set_word k) (2 ^ i - 1)) (2 ^ i) (omega (arith, mask_lt (set_word k) i, pow-lt few)) (pow-lt few)
    ∙ ap₂ halves (first_zeros k i h) (first_value k i h)

-- ---- The greatest string of 0 and 1 that a string covers

-- it is covered
pub greatest_covered : (s : Trits) → covers s (greatest s) ≡ true
unfolding covers greatest
greatest_covered [] = refl
greatest_covered (t0 ∷ s) = greatest_covered s
greatest_covered (t1 ∷ s) = greatest_covered s
greatest_covered (t* ∷ s) = greatest_covered s

-- one position of it
grows : (t : Trit) (b p m n : Bool) → covers_digit t b ≡ true → (m ≡ true → n ≡ true) → (p && b || m) ≡ true
    → (p && greatest_digit t || n) ≡ true
grows t0 true p m n h f e = absurd (false≢true h)
grows t0 false true m n h f e = f e
grows t0 false false m n h f e = f e
grows t1 b true m n h f e = refl
grows t1 b false m n h f e = f e
grows t* b true m n h f e = refl
grows t* b false m n h f e = f e

-- where any string that s covers meets the set, the greatest does
pub meets_greatest : (k : Bits) (s : Trits) (g : Bits) → covers s g ≡ true → meets k g ≡ true → meets k (greatest s) ≡ true
unfolding meets covers greatest
meets_greatest [] s g c h = h
meets_greatest (a ∷ k) s [] c h = absurd (false≢true h)
meets_greatest (a ∷ k) [] (b ∷ g) c h = absurd (false≢true c)
meets_greatest (a ∷ k) (t ∷ s) (b ∷ g) c h =
    grows t b a (meets k g) (meets k (greatest s)) (left _ _ c) (meets_greatest k s g (right (covers_digit t b) _ c)) h

-- the word of the positions fixed at 0, and a set within it
within_digit : (t : Trit) (a : Bool) → eqb (bit_and (cond a 1 0) (zero_bit t)) (cond a 1 0) ≡ not (a && greatest_digit t)
within_digit t0 true = refl
within_digit t0 false = refl
within_digit t1 true = refl
within_digit t1 false = refl
within_digit t* true = refl
within_digit t* false = refl

-- not the one and not the other
not_or : (p q : Bool) → (not p && not q) ≡ not (p || q)
not_or true q = refl
not_or false q = refl

-- the set is within the zeros where it does not meet the greatest
within : (s : Trits) (k : Bits) → length k ≡ length s
    → eqb (bit_and (set_word k) (zeros_of s)) (set_word k) ≡ not (meets k (greatest s))
unfolding zeros_of set_word meets greatest
within [] [] e = refl
within [] (a ∷ k) e = absurd (suc-ne-zero _ e)
within (t ∷ s) [] e = absurd (suc-ne-zero _ (sym e))
within (t ∷ s) (a ∷ k) e =
    let w = set_word k in
    let d : ℕ = cond a 1 0 in
    ap (λ (z : ℕ). eqb z (w * 2 + d)) (and_block 1 w (zeros_of s) d (zero_bit t) (bit_lt a) (zero_bit_lt t))
    ∙ eqb_digit (bit_and w (zeros_of s)) w (bit_and d (zero_bit t)) d (and_lt 1 d (zero_bit t) (bit_lt a) (zero_bit_lt t))
    (bit_lt a)
    ∙ ap₂ ◌&&◌ (within_digit t a) (within s k (suc_inj e))
    ∙ not_or (a && greatest_digit t) (meets k (greatest s))

-- and is not where it meets it
reaches : (s : Trits) (k : Bits) → length k ≡ length s
    → not (eqb (bit_and (set_word k) (zeros_of s)) (set_word k)) ≡ meets k (greatest s)
reaches s k e = ap not (within s k e) ∙ not-not (meets k (greatest s))

-- as the code tests it
pub joins_word : (s : Trits) (x y : Bits) (e a b : ℕ) → length s ≤ 32 → length x ≡ length s → length y ≡ length s
    → e ≡ word s → a ≡ set_word x → b ≡ set_word y
    → (not (eqb (bit_and a (high e)) a) && not (eqb (bit_and b (high e)) b)) ≡ (meets x (greatest s) && meets y (greatest s))
joins_word s x y e a b short n m es ax by =
    rw (es, ax, by, high_word s short) (ap₂ ◌&&◌ (reaches s x n) (reaches s y m))
