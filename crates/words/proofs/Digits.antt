-- An operation on the words of strings goes position by position: a word's last digit is the first position's, and a bit
-- operation works on that digit and on the rest apart. Assumes nothing.
use Rattle.std.proofs.Common.{◌≡◌, ℕ, ◌+◌, ◌*◌, ◌/◌, ◌%◌, ◌^◌, ◌<◌, Bool, true, false, ◌&&◌, eqb, [], ◌∷◌, length, sym, refl, ap, ◌∙◌, ap₂, suc-ne-zero, lit<, eq-eqb, ne_eqb, eqb-true}
use mathlib.Core.Bool.{false≢true}
use native.Mathlib.Nat.{suc_inj}
use borrow.Author.Tests.{eqb-false}
use lib.Bits.{bit_and, bit_or, bit_xor, and_block, or_block, xor_block, and_lt, or_lt, xor_lt}
use lib.Pow.{high, low}
use Rattle.model.specs.Strings.{Trit, t0, t1, t*, Trits}
use Rattle.words.specs.Words.{care_bit, value_bit, zero_bit, zeros_of, value_of}

-- each bit of a position is a digit
pub care_bit_lt : (t : Trit) → care_bit t < 2
care_bit_lt t0 = lit< tt
care_bit_lt t1 = lit< tt
care_bit_lt t* = lit< tt

pub value_bit_lt : (t : Trit) → value_bit t < 2
value_bit_lt t0 = lit< tt
value_bit_lt t1 = lit< tt
value_bit_lt t* = lit< tt

pub zero_bit_lt : (t : Trit) → zero_bit t < 2
zero_bit_lt t0 = lit< tt
zero_bit_lt t1 = lit< tt
zero_bit_lt t* = lit< tt

-- ---- An operation on the zeros and the values of two strings

-- of zeros, value, zeros and value
abbrev pub Op : Type 0
Op = ℕ → ℕ → ℕ → ℕ → ℕ

-- at two strings
abbrev pub on : Op → Trits → Trits → ℕ
on F s r = F (zeros_of s) (value_of s) (zeros_of r) (value_of r)

-- at two positions
abbrev pub on_digit : Op → Trit → Trit → ℕ
on_digit F t u = F (zero_bit t) (value_bit t) (zero_bit u) (value_bit u)

-- it works on the last digit and on the rest apart, and keeps a digit a digit
pub record Digitwise (F : Op) : Type 0 where
  pub step : (a b c d p q r s : ℕ) → p < 2 → q < 2 → r < 2 → s < 2
      → F (a * 2 + p) (b * 2 + q) (c * 2 + r) (d * 2 + s) ≡ F a b c d * 2 + F p q r s
  pub bound : (p q r s : ℕ) → p < 2 → q < 2 → r < 2 → s < 2 → F p q r s < 2

-- 0, and each of the four
pub nothing : Digitwise (λ p q r s. 0)
nothing = record { step = λ a b c d p q r s hp hq hr hs. refl; bound = λ p q r s hp hq hr hs. lit< tt }

pub zero_l : Digitwise (λ p q r s. p)
zero_l = record { step = λ a b c d p q r s hp hq hr hs. refl; bound = λ p q r s hp hq hr hs. hp }

pub value_l : Digitwise (λ p q r s. q)
value_l = record { step = λ a b c d p q r s hp hq hr hs. refl; bound = λ p q r s hp hq hr hs. hq }

pub zero_r : Digitwise (λ p q r s. r)
zero_r = record { step = λ a b c d p q r s hp hq hr hs. refl; bound = λ p q r s hp hq hr hs. hr }

pub value_r : Digitwise (λ p q r s. s)
value_r = record { step = λ a b c d p q r s hp hq hr hs. refl; bound = λ p q r s hp hq hr hs. hs }

-- a bit operation, given by its laws on blocks, of two that go digit by digit
module _ (bit : ℕ → ℕ → ℕ) (block : (a b r s : ℕ) → r < 2 → s < 2 → bit (a * 2 + r) (b * 2 + s) ≡ bit a b * 2 + bit r s)
    (small : (a b : ℕ) → a < 2 → b < 2 → bit a b < 2) (F G : Op) (f : Digitwise F) (g : Digitwise G) where
  combined : Digitwise (λ p q r s. bit (F p q r s) (G p q r s))
  combined = record {
    step = λ a b c d p q r s hp hq hr hs.
        ap₂ bit (f.step a b c d p q r s hp hq hr hs) (g.step a b c d p q r s hp hq hr hs)
        ∙ block (F a b c d) (G a b c d) (F p q r s) (G p q r s) (f.bound p q r s hp hq hr hs) (g.bound p q r s hp hq hr hs);
    bound = λ p q r s hp hq hr hs. small (F p q r s) (G p q r s) (f.bound p q r s hp hq hr hs) (g.bound p q r s hp hq hr hs);
  }

-- and the three bit operations
pub and_of : (F G : Op) → Digitwise F → Digitwise G → Digitwise (λ p q r s. bit_and (F p q r s) (G p q r s))
and_of = combined bit_and (and_block 1) (and_lt 1)

pub or_of : (F G : Op) → Digitwise F → Digitwise G → Digitwise (λ p q r s. bit_or (F p q r s) (G p q r s))
or_of = combined bit_or (or_block 1) (or_lt 1)

pub xor_of : (F G : Op) → Digitwise F → Digitwise G → Digitwise (λ p q r s. bit_xor (F p q r s) (G p q r s))
xor_of = combined bit_xor (xor_block 1) (xor_lt 1)

-- an operation at one position more
pub on_cons : (F : Op) → Digitwise F → (t u : Trit) (s r : Trits) → on F (t ∷ s) (u ∷ r) ≡ on F s r * 2 + on_digit F t u
unfolding zeros_of value_of
on_cons F f t u s r =
    f.step (zeros_of s) (value_of s) (zeros_of r) (value_of r) (zero_bit t) (value_bit t) (zero_bit u) (value_bit u)
    (zero_bit_lt t) (value_bit_lt t) (zero_bit_lt u) (value_bit_lt u)

-- its digit is a digit
pub on_digit_lt : (F : Op) → Digitwise F → (t u : Trit) → on_digit F t u < 2
on_digit_lt F f t u =
    f.bound (zero_bit t) (value_bit t) (zero_bit u) (value_bit u) (zero_bit_lt t) (value_bit_lt t) (zero_bit_lt u)
    (value_bit_lt u)

-- two numbers by their last digits and the rests
pub digits_equal : {a b c d : ℕ} → a ≡ b → c ≡ d → a * 2 + c ≡ b * 2 + d
digits_equal p q = ap₂ (λ (x y : ℕ). x * 2 + y) p q

-- a claim about two strings of one length, position by position
pub paired : (P : Trits → Trits → Type 0) → P [] []
    → ((t u : Trit) (s r : Trits) → length s ≡ length r → P s r → P (t ∷ s) (u ∷ r))
    → (s r : Trits) → length s ≡ length r → P s r
paired P nil cons [] [] e = nil
paired P nil cons [] (u ∷ r) e = absurd (suc-ne-zero _ (sym e))
paired P nil cons (t ∷ s) [] e = absurd (suc-ne-zero _ e)
paired P nil cons (t ∷ s) (u ∷ r) e = cons t u s r (suc_inj e) (paired P nil cons s r (suc_inj e))

-- a claim about two positions, by its nine cases
pub nine : (P : Trit → Trit → Type 0) → P t0 t0 → P t0 t1 → P t0 t* → P t1 t0 → P t1 t1 → P t1 t* → P t* t0 → P t* t1 → P t* t*
    → (t u : Trit) → P t u
nine P a b c d e f g h i t0 t0 = a
nine P a b c d e f g h i t0 t1 = b
nine P a b c d e f g h i t0 t* = c
nine P a b c d e f g h i t1 t0 = d
nine P a b c d e f g h i t1 t1 = e
nine P a b c d e f g h i t1 t* = f
nine P a b c d e f g h i t* t0 = g
nine P a b c d e f g h i t* t1 = h
nine P a b c d e f g h i t* t* = i

-- a case that can't be
pub never : {A : Type 0} → false ≡ true → A
never h = absurd (false≢true h)

pub never' : {A : Type 0} → true ≡ false → A
never' h = absurd (false≢true (sym h))

-- ---- Equal numbers

-- two numbers are equal if their last k digits and the rests are
pub eqb_block : (k x y d e : ℕ) → d < 2 ^ k → e < 2 ^ k → eqb (x * 2 ^ k + d) (y * 2 ^ k + e) ≡ (eqb d e && eqb x y)
eqb_block k x y d e hd he = go (eqb d e) (eqb x y) refl refl
  where
    go : (u v : Bool) → eqb d e ≡ u → eqb x y ≡ v → eqb (x * 2 ^ k + d) (y * 2 ^ k + e) ≡ (u && v)
    go true true p q = eq-eqb _ _ (ap₂ (λ (m n : ℕ). m * 2 ^ k + n) (eqb-true x y q) (eqb-true d e p))
    go true false p q =
        ne_eqb (x * 2 ^ k + d) (y * 2 ^ k + e)
        (λ h. eqb-false x y q (sym (high x k hd) ∙ ap (λ (n : ℕ). n / 2 ^ k) h ∙ high y k he))
    go false v p q =
        ne_eqb (x * 2 ^ k + d) (y * 2 ^ k + e)
        (λ h. eqb-false d e p (sym (low x k hd) ∙ ap (λ (n : ℕ). n % 2 ^ k) h ∙ low y k he))

-- and so of the last digit
pub eqb_digit : (x y d e : ℕ) → d < 2 → e < 2 → eqb (x * 2 + d) (y * 2 + e) ≡ (eqb d e && eqb x y)
eqb_digit = eqb_block 1

-- an equation between two operations, at one position more
pub eqb_cons : (F G : Op) → Digitwise F → Digitwise G → (t u : Trit) (s r : Trits)
    → eqb (on F (t ∷ s) (u ∷ r)) (on G (t ∷ s) (u ∷ r)) ≡ (eqb (on_digit F t u) (on_digit G t u) && eqb (on F s r) (on G s r))
eqb_cons F G f g t u s r =
    ap₂ eqb (on_cons F f t u s r) (on_cons G g t u s r)
    ∙ eqb_digit (on F s r) (on G s r) (on_digit F t u) (on_digit G t u) (on_digit_lt F f t u) (on_digit_lt G g t u)
