-- A set without its first position: its word is without the lowest bit. Assumes nothing.
use Rattle.std.proofs.Common.{◌≡◌, ℕ, zero, suc, ◌+◌, ◌-◌, ◌*◌, ◌^◌, ◌<◌, Bool, true, false, eqb, [], ◌∷◌, length, get_or, sym, refl, ap, ◌∙◌, arith, eqb-true}
use mathlib.Core.Bool.{false≢true}
use borrow.Author.Tests.{eqb-false}
use lib.Bits.{bit_and, and_zero_l}
use lib.Count.{count_trailing_zeros}
use Rattle.model.specs.Groups.{Bits}
use Rattle.words.specs.Words.{set, set_word}
use Rattle.words.proofs.Codec.{First, trailing_first, set_inside, set_length, set_word_set}
use Rattle.words.proofs.LackedBits.{low_one, low_zero}

-- the set without its first position
unfoldable pub cleared : Bits → Bits
cleared [] = []
cleared (true ∷ g) = false ∷ g
cleared (false ∷ g) = false ∷ cleared g

-- it is of as many variables
pub cleared_length : (g : Bits) → length (cleared g) ≡ length g
unfolding cleared
cleared_length [] = refl
cleared_length (true ∷ g) = refl
cleared_length (false ∷ g) = ap suc (cleared_length g)

-- its word
pub cleared_word : (g : Bits) → bit_and (set_word g) (set_word g - 1) ≡ set_word (cleared g)
unfolding set_word cleared
cleared_word [] = refl
cleared_word (true ∷ g) = low_one (set_word g) ∙ omega arith
cleared_word (false ∷ g) = go (eqb (set_word g) 0) refl (cleared_word g)
  where
    go : (b : Bool) → eqb (set_word g) 0 ≡ b → bit_and (set_word g) (set_word g - 1) ≡ set_word (cleared g)
        → bit_and (set_word g * 2 + 0) (set_word g * 2 + 0 - 1) ≡ set_word (cleared g) * 2 + 0
    go true q ih =
        let z = eqb-true (set_word g) 0 q in
        let r : 0 ≡ set_word (cleared g) = sym (and_zero_l (0 - 1)) ∙ rw z at ih in
        rw (z, ← r) (and_zero_l (0 * 2 + 0 - 1))
    go false q ih = low_zero (set_word g) (eqb-false (set_word g) 0 q) ∙ ap (λ (x : ℕ). x * 2) ih ∙ omega arith

-- the first position is gone
pub cleared_first : (g : Bits) (i : ℕ) → First g i → get_or (cleared g) i false ≡ false
unfolding cleared
cleared_first [] i f = refl
cleared_first (true ∷ g) zero f = refl
cleared_first (true ∷ g) (suc i) f = absurd (false≢true (sym (f.none 0 (omega arith))))
cleared_first (false ∷ g) zero f = refl
cleared_first (false ∷ g) (suc i) f =
    cleared_first g i (record { here = f.here; none = λ m lt. f.none (suc m) (omega arith) })

-- the others stay
pub cleared_other : (g : Bits) (i : ℕ) → First g i → (m : ℕ) → ¬ (m ≡ i) → get_or (cleared g) m false ≡ get_or g m false
unfolding cleared
cleared_other [] i f m n = refl
cleared_other (true ∷ g) zero f zero n = absurd (n refl)
cleared_other (true ∷ g) (suc i) f zero n = absurd (false≢true (sym (f.none 0 (omega arith))))
cleared_other (true ∷ g) i f (suc m) n = refl
cleared_other (false ∷ g) i f zero n = refl
cleared_other (false ∷ g) zero f (suc m) n = absurd (false≢true f.here)
cleared_other (false ∷ g) (suc i) f (suc m) n =
    cleared_other g i (record { here = f.here; none = λ k l. f.none (suc k) (omega arith) }) m (λ e. n (ap suc e))

-- the lowest bit of a word below 2 ^ l is one of l
pub trailing_lt : (k l w : ℕ) → w < 2 ^ l → w < 2 ^ k → ¬ (w ≡ 0) → count_trailing_zeros k w < l
trailing_lt k l w h small z =
    let e = set_word_set l w h in
    let f : First (set l w) (count_trailing_zeros k w) = rw e at (trailing_first k (set l w) (rw e small) (λ n. z (sym e ∙ n))) in
    let b = set_inside (set l w) _ f.here in
    omega (arith, set_length l w)
