-- What is answered of a row, by the care and value words of all its positions: the unused ones are 0 where their care bits are
-- all 1 and their value bits all 0, and the words cut to l bits are those of the entry. Assumes nothing.
use mathlib.Core.Path.{◌≡◌, refl, sym, ap, ◌∙◌}
use mathlib.Core.Bool.{Bool, true, false, ◌&&◌, and_comm}
use mathlib.Core.List.{List}
use Prim.Native.Nat.{ℕ, ◌-◌, ◌*◌, ◌/◌, ◌%◌, ◌^◌}
use native.Mathlib.Omega.{arith}
use borrow.Author.Tests.{eqb-true}
use lib.Bits.{bit_or, or_zero_r}
use lib.Dec.{eqb}
use lib.ListN.{length, drop, length-drop}
use Rattle.model.specs.Strings.{Trits, all_zero}
use Rattle.std.specs.Prelude.{Some, None}
use Rattle.words.specs.Words.{care_of, value_of, zeros_of}
use Rattle.words.proofs.Halves.{cares_or, value_part}
use Rattle.words.proofs.Words.{zero_halves}
use Rattle.packing.specs.Packing.{row_positions, all_packed, good_row, unpacked_row}
use Rattle.packing.proofs.Back.{row_positions_length}
use Rattle.packing.proofs.Parts.{care_part, of_drop, of_take}

-- A string is all zero where every care bit is 1 and no value bit.
zero_words : (s : Trits) → (eqb (care_of s) (2 ^ length s - 1) && eqb (value_of s) 0) ≡ all_zero s
zero_words s = and_comm (eqb (care_of s) (2 ^ length s - 1)) (eqb (value_of s) 0) ∙ go (eqb (value_of s) 0) refl ∙ zero_halves s
  where
    go : (b : Bool) → eqb (value_of s) 0 ≡ b
        → (b && eqb (care_of s) (2 ^ length s - 1)) ≡ (b && eqb (zeros_of s) (2 ^ length s - 1))
    go false e = refl
    go true e =
        ap (λ (x : ℕ). eqb x (2 ^ length s - 1))
        (sym (cares_or s) ∙ ap (bit_or (zeros_of s)) (eqb-true (value_of s) 0 e) ∙ or_zero_r (zeros_of s))

-- So are the positions from l on, by the words of all.
unused_zero : (l : ℕ) (s : Trits)
    → (eqb (care_of s / 2 ^ l) (2 ^ (length s - l) - 1) && eqb (value_of s / 2 ^ l) 0) ≡ all_zero (drop l s)
unused_zero l s = rw (of_drop care_part l s, of_drop value_part l s, ← length-drop l s) (zero_words (drop l s))

module _ (l : ℕ) (row : List ℕ) (care value : ℕ) (good : all_packed row ≡ true) (cares : care ≡ care_of (row_positions row))
    (values : value ≡ value_of (row_positions row)) where
  -- What the code tests: the unused care bits, and the unused value bits.
  abbrev pub test : Bool
  test = eqb (care / 2 ^ l) (2 ^ (5 * length row - l) - 1) && eqb (value / 2 ^ l) 0

  -- It is whether the row is good.
  test_good : test ≡ good_row l row
  unfolding good_row
  test_good =
      let n : 5 * length row ≡ length (row_positions row) = omega (arith, row_positions_length row) in
      rw (good, cares, values, n) (unused_zero l (row_positions row))

  -- A row that passes: its words, cut to l bits.
  pub answered : test ≡ true → Some (record { care = care % 2 ^ l; value = value % 2 ^ l }) ≡ unpacked_row l row
  unfolding unpacked_row
  answered t =
      rw (← test_good, t, cares, values) (λ i. Some (record {
        care = of_take care_part l (row_positions row) i;
        value = of_take value_part l (row_positions row) i;
      }))

  -- One that does not: no entry.
  pub refused : test ≡ false → None ≡ unpacked_row l row
  unfolding unpacked_row
  refused t = rw (← test_good, t)

-- A row with a byte of 243 or more: no entry.
pub refused_byte : (l : ℕ) (row : List ℕ) → all_packed row ≡ false → None ≡ unpacked_row l row
unfolding unpacked_row good_row
refused_byte l row bad = rw bad
