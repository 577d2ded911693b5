-- The word of a set of variables: of none, of one, of two sets together. Assumes nothing.
use mathlib.Core.Path.{◌≡◌, refl, ap, ◌∙◌}
use mathlib.Core.Bool.{Bool, false, ◌||◌}
use mathlib.Core.List.{◌∷◌}
use Prim.Native.Nat.{ℕ, zero, suc, ◌^◌, ◌<◌}
use native.Mathlib.Nat.{not-suc-le-zero, le_of_suc-le-suc, pow-suc}
use native.Mathlib.Omega.{arith}
use lib.Bits.{bit_or}
use lib.Dec.{eqb, lit<, eqb-zero-suc, eqb-suc-zero, eqb-suc-suc}
use Rattle.model.specs.Groups.{Bits, or}
use Rattle.model.specs.Terms.{set_of}
use Rattle.model.proofs.Bits.{bits_or_assoc}
use Rattle.words.specs.Words.{set, set_word}
use Rattle.words.proofs.Codec.{set_word_set, set_word_or}

-- ---- "Or" of words, by "or" of sets

below_pow : (n : ℕ) → n < 2 ^ n
below_pow zero = lit< tt
below_pow (suc n) = omega (arith, below_pow n, pow-suc 2 n)

words_assoc : (g h k : Bits)
    → bit_or (bit_or (set_word g) (set_word h)) (set_word k) ≡ bit_or (set_word g) (bit_or (set_word h) (set_word k))
words_assoc g h k =
    rw (
      ← set_word_or g h,
      ← set_word_or h k,
      ← set_word_or (or g h) k,
      ← set_word_or g (or h k),
    )
    (ap set_word (bits_or_assoc g h k))

pub or_assoc : (a b c : ℕ) → bit_or (bit_or a b) c ≡ bit_or a (bit_or b c)
or_assoc a b c =
    rw (set_word_set a a (below_pow a), set_word_set b b (below_pow b), set_word_set c c (below_pow c)) at
    (words_assoc (set a a) (set b b) (set c c))

-- ---- The word of those that pass a test

-- none of X1 to Xl
pub none : (l : ℕ) (p : ℕ → Bool) → ((i : ℕ) → p (suc i) ≡ false) → set_word (set_of l p) ≡ 0
unfolding set_of set_word
none zero p f = refl
none (suc l) p f = rw (f 0, none l (λ i. p (suc i)) (λ i. f (suc i)))

-- only the one at k, from 0
pub one : (l k : ℕ) (p : ℕ → Bool) → k < l → ((i : ℕ) → p (suc i) ≡ eqb i k) → set_word (set_of l p) ≡ 2 ^ k
unfolding set_of set_word
one zero k p h f = absurd (not-suc-le-zero h)
one (suc l) zero p h f = rw (f 0, none l (λ i. p (suc i)) (λ i. f (suc i) ∙ eqb-suc-zero i))
one (suc l) (suc k) p h f =
    rw (f 0, eqb-zero-suc k, one l k (λ i. p (suc i)) (le_of_suc-le-suc h) (λ i. f (suc i) ∙ eqb-suc-suc i k))
    (omega (arith, pow-suc 2 k))

set_of_or : (l : ℕ) (p q : ℕ → Bool) → set_of l (λ i. p i || q i) ≡ or (set_of l p) (set_of l q)
unfolding set_of or
set_of_or zero p q = refl
set_of_or (suc l) p q = ap (λ (g : Bits). (p 1 || q 1) ∷ g) (set_of_or l (λ i. p (suc i)) (λ i. q (suc i)))

-- those of either test
pub either : (l : ℕ) (p q : ℕ → Bool)
    → set_word (set_of l (λ i. p i || q i)) ≡ bit_or (set_word (set_of l p)) (set_word (set_of l q))
either l p q = ap set_word (set_of_or l p q) ∙ set_word_or (set_of l p) (set_of l q)
