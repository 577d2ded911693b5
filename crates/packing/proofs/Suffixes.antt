-- A row read from its last byte down: what is known of the bytes from i on is known with the byte before them. Assumes nothing.
use mathlib.Core.Path.{◌≡◌, refl, ◌∙◌}
use mathlib.Core.Bool.{Bool, true, false, cond, and-false}
use mathlib.Core.List.{List, [], ◌∷◌}
use Prim.Native.Nat.{ℕ, zero, suc, ◌+◌, ◌-◌, ◌*◌, ◌/◌, ◌%◌, ◌^◌, ◌<◌, ◌≤◌}
use native.Mathlib.Nat.{not-suc-le-zero}
use native.Mathlib.Omega.{arith}
use lib.Dec.{ltb}
use lib.ListN.{length, get_or, drop, length-drop}
use lib.Pow.{pow_mono}
use lib.Seq.{drop-cons}
use Rattle.std.specs.Prelude.{reverse}
use Rattle.std.proofs.lemmas.Grind.{get_or_default_zero}
use Rattle.std.proofs.lemmas.List.{get_or-reverse, length-reverse}
use Rattle.model.specs.Strings.{Trits}
use Rattle.words.specs.Words.{care_of, value_of}
use Rattle.words.proofs.Codec.{care_lt, value_lt}
use Rattle.words.proofs.Halves.{Half, value_part}
use Rattle.packing.specs.Packing.{positions, row_positions, all_packed, table_number}
use Rattle.packing.proofs.Back.{positions_length, row_positions_length}
use Rattle.packing.proofs.Parts.{care_part, of_append}

-- ---- What the table has of a byte

-- The care word of the five positions of a byte has five bits.
care_five : (b : ℕ) → care_of (positions 5 b) < 32
care_five b = rw (positions_length 5 b) at (care_lt (positions 5 b))

-- And so has the value word.
value_five : (b : ℕ) → value_of (positions 5 b) < 32
value_five b = rw (positions_length 5 b) at (value_lt (positions 5 b))

-- A byte is below 243 and has its two words in the table, or it has none there.
data Number (b p : ℕ) : Type 0 where
  words : ltb b 243 ≡ true → p % 32 ≡ care_of (positions 5 b) → p / 32 ≡ value_of (positions 5 b) → ¬ (p ≡ 1024) → Number b p
  none : ltb b 243 ≡ false → p ≡ 1024 → Number b p

-- What the table has is one of the two.
number : (b p : ℕ) → p ≡ table_number b → Number b p
number b p is = go (ltb b 243) refl is
  where
    go : (t : Bool) → ltb b 243 ≡ t → p ≡ cond t (care_of (positions 5 b) + 32 * value_of (positions 5 b)) 1024 → Number b p
    go true low e =
        let c = care_five b in
        let v = value_five b in words low (omega arith) (omega arith) (λ n. omega arith)
    go false high e = none high e

-- ---- One byte more

-- A word of the positions of the bytes from i on, and five bits d below it: the word of those from i - 1 on.
abbrev pub Grown : (Trits → ℕ) → List ℕ → ℕ → ℕ → Type 0
Grown f row i d = (x : ℕ) → x ≡ f (row_positions (drop i row)) → x * 32 + d ≡ f (row_positions (drop (i - 1) row))

-- What a turn at i, with p of the table, makes of what is known of the bytes from i on.
pub record Taken (row : List ℕ) (i p : ℕ) : Type 0 where
  pub good : all_packed (drop i row) ≡ true → all_packed (drop (i - 1) row) ≡ true
  pub care : Grown care_of row i (p % 32)
  pub value : Grown value_of row i (p / 32)

-- The bytes from i - 1 on.
drop_before : (row : List ℕ) (i : ℕ) → 0 < i → i ≤ length row → drop (i - 1) row ≡ get_or row (i - 1) 0 ∷ drop i row
drop_before row zero h k = absurd (not-suc-le-zero h)
drop_before row (suc i) h k = let e : suc i - 1 ≡ i = omega arith in rw e (drop-cons row i 0 k)

-- The byte that is read after n, from the last one down.
pub read_down : (row : List ℕ) (n b : ℕ) → (n < length (reverse row)) × (b ≡ get_or (reverse row) n b)
    → (0 < length row - n) × (b ≡ get_or row (length row - n - 1) 0)
read_down row n b t =
    let h : n < length row = omega (arith, length-reverse row, t.0) in
    let e : length row - 1 - n ≡ length row - n - 1 = omega arith in
    (omega arith, t.1 ∙ get_or-reverse row n b h ∙ rw e (get_or_default_zero row (length row - n - 1) b (omega arith)))

-- A row with a byte of 243 or more in it is not packed.
suffix_bad : (i : ℕ) (row : List ℕ) → all_packed (drop i row) ≡ false → all_packed row ≡ false
unfolding all_packed
suffix_bad zero row h = h
suffix_bad (suc i) [] h = h
suffix_bad (suc i) (b ∷ row) h = rw (suffix_bad i row h) (and-false (ltb b 243))

-- One of the two words, with the byte before.
more : (h : Half) (b d : ℕ) (row : List ℕ) → d ≡ h.of (positions 5 b) → (x : ℕ) → x ≡ h.of (row_positions row)
    → x * 32 + d ≡ h.of (row_positions (b ∷ row))
unfolding row_positions
more h b d row e x f = rw (of_append h (positions 5 b) (row_positions row), positions_length 5 b, e, f)

module _ (row : List ℕ) (i p : ℕ) (some : 0 < i) (within : i ≤ length row) (is : p ≡ table_number (get_or row (i - 1) 0)) where
  -- A byte that has no positions: the row is not packed.
  pub not_packed : p ≡ 1024 → all_packed row ≡ false
  unfolding all_packed
  not_packed e = go (number (get_or row (i - 1) 0) p is)
    where
      go : Number (get_or row (i - 1) 0) p → all_packed row ≡ false
      go (words low c v n) = absurd (n e)
      go (none high n) = suffix_bad (i - 1) row (rw (drop_before row i some within, high))

  -- A byte that has some: what the bytes from i on are, those from i - 1 on are.
  pub taken : ¬ (p ≡ 1024) → Taken row i p
  unfolding all_packed
  taken n = go (number (get_or row (i - 1) 0) p is)
    where
      go : Number (get_or row (i - 1) 0) p → Taken row i p
      go (none high e) = absurd (n e)
      go (words low c v m) = let e = drop_before row i some within in record {
        good = λ g. rw (e, low, g);
        care = rw e (more care_part (get_or row (i - 1) 0) (p % 32) (drop i row) c);
        value = rw e (more value_part (get_or row (i - 1) 0) (p / 32) (drop i row) v);
      }

-- ---- Bounds

-- A word of the positions of up to 7 bytes has 35 bits.
pub suffix_lt : (f : Trits → ℕ) → ((s : Trits) → f s < 2 ^ length s) → (row : List ℕ) (i x : ℕ) → length row ≤ 7
    → x ≡ f (row_positions (drop i row)) → x < 2 ^ 35
suffix_lt f below row i x h e =
    let n : length (row_positions (drop i row)) ≤ 35 =
    rw (row_positions_length (drop i row), length-drop i row) (omega arith) in
    omega (arith, below (row_positions (drop i row)), pow_mono n)
