-- An entry e stirs a string s that was widened to t where the lowest position that it opens, of those fixed in t, is below
-- all that it fixes and t does not. Assumes nothing.
use Rattle.std.proofs.Common.{◌≡◌, ℕ, zero, suc, ◌+◌, ◌-◌, ◌*◌, ◌<◌, Bool, true, false, not, ◌&&◌, ◌||◌, eqb, ◌∷◌, length, sym, refl, ap, ◌∙◌, ap₂, arith, lit<, ne_eqb, eqb-true}
use borrow.Author.Tests.{eqb-false}
use lib.Bits.{bit_and, bit_xor, and_block, xor_block, and_lt, xor_lt, and_zero_l}
use Rattle.model.specs.Strings.{Trit, Trits, fixed_digit, flip, subsumes_digit, subsumes}
use Rattle.model.specs.Stirring.{stirs}
use Rattle.words.specs.Words.{care_bit, care_of, set_word, openings}
use Rattle.words.proofs.Digits.{care_bit_lt, digits_equal, nine, eqb_digit}
use Rattle.words.proofs.Codec.{bit_lt}
use Rattle.words.proofs.LackedBits.{head_digit, openings_kept, openings_lost}
use Rattle.words.proofs.Shades.{wider, widened}

-- ---- Two numbers without a common bit

-- the lowest bit of x is below all of y
unfoldable below : ℕ → ℕ → Bool
below x y = not (eqb x 0) && eqb (bit_and (x - 1) y) 0

-- of nothing no bit is
below_none : (y : ℕ) → below 0 y ≡ false
unfolding below
below_none y = refl

-- by their last digits and the rests
below_cons : (x y d g : ℕ) → d < 2 → g < 2 → bit_and x y ≡ 0 → bit_and d g ≡ 0
    → below (x * 2 + d) (y * 2 + g) ≡ (eqb d 1 || (eqb g 0 && below x y))
unfolding below
below_cons x y zero g hd hg e z = go (eqb x 0) refl
  where
    one : (g : ℕ) → g < 2 → eqb (bit_and 1 g) 0 ≡ eqb g 0
    one zero h = refl
    one (suc zero) h = refl
    one (suc (suc g)) h = absurd (omega arith)

    nothing : (b : Bool) → false ≡ (b && false)
    nothing true = refl
    nothing false = refl

    go : (b : Bool) → eqb x 0 ≡ b
        → (not (eqb (x * 2 + 0) 0) && eqb (bit_and (x * 2 + 0 - 1) (y * 2 + g)) 0)
        ≡ (eqb g 0 && (not (eqb x 0) && eqb (bit_and (x - 1) y) 0))
    go true q = rw (eqb-true x 0 q) (nothing (eqb g 0))
    go false q =
        let n = eqb-false x 0 q in
        let m : x * 2 + 0 - 1 ≡ (x - 1) * 2 + 1 = omega arith in
        rw (q, ne_eqb (x * 2 + 0) 0 (λ k. n (omega arith)), m)
        (ap (λ (v : ℕ). eqb v 0) (and_block 1 (x - 1) y 1 g (lit< tt) hg)
        ∙ eqb_digit (bit_and (x - 1) y) 0 (bit_and 1 g) 0 (and_lt 1 1 g (lit< tt) hg) (lit< tt)
        ∙ ap (λ (b : Bool). b && eqb (bit_and (x - 1) y) 0) (one g hg))
below_cons x y (suc zero) zero hd hg e z =
    let m : x * 2 + 1 - 1 ≡ x * 2 + 0 = omega arith in
    rw (ne_eqb (x * 2 + 1) 0 (λ k. omega arith), m)
    (ap (λ (v : ℕ). eqb v 0) (and_block 1 x y 0 0 (lit< tt) (lit< tt) ∙ digits_equal {d = 0} e refl))
below_cons x y (suc zero) (suc zero) hd hg e z = absurd (let k : ◌≡◌ {A = ℕ} 1 0 = z in omega arith)
below_cons x y (suc zero) (suc (suc g)) hd hg e z = absurd (omega arith)
below_cons x y (suc (suc d)) g hd hg e z = absurd (omega arith)

-- ---- What e opens of s, and what it fixes

-- of what t fixes, the positions of s that e opens
abbrev opens : Trits → Trits → Trits → ℕ
opens e s t = bit_and (set_word (openings e s)) (care_of t)

-- the positions that e fixes and t does not
abbrev bars : Trits → Trits → ℕ
bars e t = bit_xor (care_of e) (bit_and (care_of e) (care_of t))

-- at one position
abbrev bar_digit : Trit → Trit → ℕ
bar_digit a c = bit_xor (care_bit a) (bit_and (care_bit a) (care_bit c))

bar_lt : (a c : Trit) → bar_digit a c < 2
bar_lt a c =
    xor_lt 1 (care_bit a) (bit_and (care_bit a) (care_bit c)) (care_bit_lt a)
    (and_lt 1 (care_bit a) (care_bit c) (care_bit_lt a) (care_bit_lt c))

bars_cons : (a c : Trit) (e t : Trits) → bars (a ∷ e) (c ∷ t) ≡ bars e t * 2 + bar_digit a c
unfolding care_of
bars_cons a c e t =
    ap (bit_xor (care_of (a ∷ e)))
    (and_block 1 (care_of e) (care_of t) (care_bit a) (care_bit c) (care_bit_lt a) (care_bit_lt c))
    ∙ xor_block 1 (care_of e) (bit_and (care_of e) (care_of t)) (care_bit a) (bit_and (care_bit a) (care_bit c))
    (care_bit_lt a)
    (and_lt 1 (care_bit a) (care_bit c) (care_bit_lt a) (care_bit_lt c))

head_lt : (a b : Trit) (r : Bool) → head_digit a b r < 2
unfolding head_digit
head_lt a b r = bit_lt (fixed_digit b && subsumes_digit a (flip b) && r)

-- by the first position and the others, where x is what e opens of the others
opens_cons : (a b c : Trit) (e s t : Trits) (x : ℕ)
    → set_word (openings (a ∷ e) (b ∷ s)) ≡ x * 2 + head_digit a b (subsumes e s)
    → opens (a ∷ e) (b ∷ s) (c ∷ t) ≡ bit_and x (care_of t) * 2 + bit_and (head_digit a b (subsumes e s)) (care_bit c)
unfolding care_of
opens_cons a b c e s t x is =
    ap (λ (v : ℕ). bit_and v (care_of (c ∷ t))) is
    ∙ and_block 1 x (care_of t) (head_digit a b (subsumes e s)) (care_bit c) (head_lt a b (subsumes e s)) (care_bit_lt c)

-- e stirs s where what it opens is below what it fixes; and nothing is both
abbrev Stirs : Trits → Trits → Trits → Type 0
Stirs e s t = (below (opens e s t) (bars e t) ≡ stirs e s t) × (bit_and (opens e s t) (bars e t) ≡ 0)

-- ---- At one position, where r says whether e subsumes the others of s

-- e opens it exactly where that makes it stir there
open_digit : (r : Bool) (b c : Trit) → subsumes_digit c b ≡ true → (a : Trit)
    → eqb (bit_and (head_digit a b r) (care_bit c)) 1 ≡ (fixed_digit c && subsumes_digit a (flip c) && r)
unfolding head_digit
open_digit true =
    wider _ (nine _ refl refl refl refl refl refl refl refl refl) (nine _ refl refl refl refl refl refl refl refl refl)
open_digit false =
    wider _ (nine _ refl refl refl refl refl refl refl refl refl) (nine _ refl refl refl refl refl refl refl refl refl)

-- then it is no bar
apart_digit : (r : Bool) (b c : Trit) → subsumes_digit c b ≡ true → (a : Trit)
    → bit_and (bit_and (head_digit a b r) (care_bit c)) (bar_digit a c) ≡ 0
unfolding head_digit
apart_digit true =
    wider _ (nine _ refl refl refl refl refl refl refl refl refl) (nine _ refl refl refl refl refl refl refl refl refl)
apart_digit false =
    wider _ (nine _ refl refl refl refl refl refl refl refl refl) (nine _ refl refl refl refl refl refl refl refl refl)

-- e subsumes that of t where it subsumes that of s and it is no bar
bar_subsumes : (b c : Trit) → subsumes_digit c b ≡ true → (a : Trit)
    → (subsumes_digit a b && eqb (bar_digit a c) 0) ≡ subsumes_digit a c
bar_subsumes =
    wider _ (nine _ refl refl refl refl refl refl refl refl refl) (nine _ refl refl refl refl refl refl refl refl refl)

-- ---- Position by position

-- where x is what e opens of the other positions of s
stirs_cons : (a b c : Trit) (e s t : Trits) (x : ℕ) → subsumes_digit c b ≡ true
    → set_word (openings (a ∷ e) (b ∷ s)) ≡ x * 2 + head_digit a b (subsumes e s)
    → (eqb (bar_digit a c) 0 && below (bit_and x (care_of t)) (bars e t)) ≡ (subsumes_digit a c && stirs e s t)
    → bit_and (bit_and x (care_of t)) (bars e t) ≡ 0 → Stirs (a ∷ e) (b ∷ s) (c ∷ t)
unfolding stirs
stirs_cons a b c e s t x k is rest apart =
    let d = bit_and (head_digit a b (subsumes e s)) (care_bit c) in
    let small : d < 2 = and_lt 1 (head_digit a b (subsumes e s)) (care_bit c) (head_lt a b (subsumes e s)) (care_bit_lt c) in
    let free = apart_digit (subsumes e s) b c k a in
    let opened = opens_cons a b c e s t x is in
    let barred = bars_cons a c e t in (
      ap₂ below opened barred
          ∙ below_cons (bit_and x (care_of t)) (bars e t) d (bar_digit a c) small (bar_lt a c) apart free
          ∙ ap₂ ◌||◌ (open_digit (subsumes e s) b c k a) rest,
      ap₂ bit_and opened barred
          ∙ and_block 1 (bit_and x (care_of t)) (bars e t) d (bar_digit a c) small (bar_lt a c)
          ∙ digits_equal apart free,
    )

step : (a b c : Trit) (e s t : Trits) → subsumes_digit c b ≡ true → Stirs e s t → (q : Bool) → subsumes_digit a b ≡ q
    → Stirs (a ∷ e) (b ∷ s) (c ∷ t)
step a b c e s t k ih true q =
    stirs_cons a b c e s t (set_word (openings e s)) k (openings_kept a b e s q)
    (ap₂ ◌&&◌ (ap (λ (v : Bool). v && eqb (bar_digit a c) 0) (sym q) ∙ bar_subsumes b c k a) ih.0) ih.1
step a b c e s t k ih false q =
    let none = and_zero_l (care_of t) in
    stirs_cons a b c e s t 0 k (openings_lost a b e s q)
    (ap (λ (x : ℕ). eqb (bar_digit a c) 0 && below x (bars e t)) none
    ∙ lost (eqb (bar_digit a c) 0) (below_none (bars e t))
    ∙ ap (λ (v : Bool). v && stirs e s t) (ap (λ (v : Bool). v && eqb (bar_digit a c) 0) (sym q) ∙ bar_subsumes b c k a))
    (ap (λ (x : ℕ). bit_and x (bars e t)) none ∙ and_zero_l (bars e t))
  where
    lost : (v : Bool) {w : Bool} → w ≡ false → (v && w) ≡ false
    lost true h = h
    lost false h = refl

-- e stirs s where the lowest position that it opens is below all bars
word_stirs : (e s t : Trits) → length e ≡ length s → subsumes t s ≡ true → below (opens e s t) (bars e t) ≡ stirs e s t
unfolding stirs below care_of
word_stirs e s t n h = (both e s t n h).0
  where
    both : (e s t : Trits) → length e ≡ length s → subsumes t s ≡ true → Stirs e s t
    both =
        widened Stirs (unfold openings set_word in (refl, refl))
        (λ a b c e s t k n h ih. step a b c e s t k ih (subsumes_digit a b) refl)

-- as the code has it: where it opens nothing, and where it opens something
pub stirs_not : (e s t : Trits) → length e ≡ length s → subsumes t s ≡ true → opens e s t ≡ 0 → false ≡ stirs e s t
stirs_not e s t n h z = sym (ap (λ (x : ℕ). below x (bars e t)) z ∙ below_none (bars e t)) ∙ word_stirs e s t n h

pub stirs_below : (e s t : Trits) → length e ≡ length s → subsumes t s ≡ true → ¬ (opens e s t ≡ 0)
    → eqb (bit_and (opens e s t - 1) (bars e t)) 0 ≡ stirs e s t
unfolding below
stirs_below e s t n h z =
    ap (λ (v : Bool). not v && eqb (bit_and (opens e s t - 1) (bars e t)) 0) (sym (ne_eqb (opens e s t) 0 z))
    ∙ word_stirs e s t n h
