-- The care and value words of a part of a string: shifted down past a front, or cut to it. Assumes nothing.
use mathlib.Core.Path.{◌≡◌, refl, sym, ap, ap₂, ◌∙◌}
use mathlib.Core.List.{[], ◌∷◌, ◌++◌}
use Prim.Native.Nat.{ℕ, zero, suc, ◌+◌, ◌*◌, ◌/◌, ◌%◌, ◌^◌}
use native.Mathlib.Nat.{div-one, mod-one, zero-div, zero-mod}
use native.Mathlib.Numerals.{add-one}
use native.Mathlib.Omega.{arith}
use lib.Arith.{digits_div, digits_mod}
use lib.ListN.{length, take, drop}
use lib.Pow.{shr-shr, mod-pow-add, split}
use lib.Seq.{take-append_seam, drop-append_seam}
use Rattle.model.specs.Strings.{Trit, Trits}
use Rattle.words.specs.Words.{care_bit, care_of}
use Rattle.words.proofs.Digits.{care_bit_lt}
use Rattle.words.proofs.Halves.{Half}

-- The care word of no position.
pub care_nil : care_of [] ≡ 0
unfolding care_of
care_nil = refl

-- The care word of one position more.
pub care_cons : (t : Trit) (s : Trits) → care_of (t ∷ s) ≡ care_of s * 2 + care_bit t
unfolding care_of
care_cons t s = refl

-- The care word, for what is said once of it and of the value word.
abbrev pub care_part : Half
care_part = record { of = care_of; bit = care_bit; small = care_bit_lt; nil = care_nil; cons = care_cons }

module _ (h : Half) where
  -- Shifted down by l: the positions from l on.
  pub of_drop : (l : ℕ) (s : Trits) → h.of s / 2 ^ l ≡ h.of (drop l s)
  of_drop zero s = div-one (h.of s)
  of_drop (suc l) [] = rw h.nil (zero-div (2 ^ suc l))
  of_drop (suc l) (t ∷ s) =
      sym (shr-shr (h.of (t ∷ s)) 1 l ∙ ap (λ (k : ℕ). h.of (t ∷ s) / 2 ^ k) (omega arith))
      ∙ ap (λ (x : ℕ). x / 2 ^ l) (ap (λ (x : ℕ). x / 2) (h.cons t s) ∙ digits_div (h.of s) (h.small t))
      ∙ of_drop l s

  -- Cut to l bits: the first l positions.
  pub of_take : (l : ℕ) (s : Trits) → h.of s % 2 ^ l ≡ h.of (take l s)
  of_take zero s = rw h.nil (mod-one (h.of s))
  of_take (suc l) [] = rw h.nil (zero-mod (2 ^ suc l))
  of_take (suc l) (t ∷ s) =
      let n : ℕ = h.of s * 2 + h.bit t in
      rw (h.cons t s, h.cons t (take l s), ← add-one l)
      (mod-pow-add n l 1
      ∙ ap₂ (λ (x y : ℕ). x % 2 ^ l * 2 + y) (digits_div (h.of s) (h.small t)) (digits_mod (h.of s) (h.small t))
      ∙ ap (λ (x : ℕ). x * 2 + h.bit t) (of_take l s))

  -- One string after another.
  pub of_append : (p s : Trits) → h.of (p ++ s) ≡ h.of s * 2 ^ length p + h.of p
  of_append p s =
      sym (split (h.of (p ++ s)) (length p))
      ∙ rw (of_drop (length p) (p ++ s), of_take (length p) (p ++ s), drop-append_seam p s, take-append_seam p s)
