-- An entry packed and unpacked comes back, and so does a good row. The positions of what was packed are those of the entry and
-- then zeros (`bytes_back`); a row is the bytes of its positions, where none is 243 or more (`row_bytes`). Assumes nothing.
use mathlib.Core.Path.{◌≡◌, refl, sym, ap, ap₂, ◌∙◌}
use mathlib.Core.Bool.{true}
use mathlib.Core.List.{List, [], ◌∷◌, ◌++◌}
use Prim.Native.Nat.{ℕ, zero, suc, ◌+◌, ◌*◌, ◌/◌, ◌%◌, ◌^◌, ◌<◌, ◌≤◌}
use native.Mathlib.Nat.{zero-add, suc-add, pow-suc, mod-lt, not-suc-le-zero, le_of_suc-le-suc}
use native.Mathlib.Omega.{arith}
use lib.Dec.{T, ltb, lit<, lt→ltb, ltb→lt}
use lib.ListN.{length, take, drop, length-append}
use lib.Seq.{take-nil, drop-nil, take_at, drop_at, length-take-le}
use Rattle.model.specs.Strings.{Trit, t0, t1, t*, Trits, all_zero}
use Rattle.model.proofs.Tests.{and_first, and_second, and_both, true_of}
use Rattle.packing.specs.Packing.{digit, packed_byte, packed_bytes, row_length, packed, position, positions}
use Rattle.packing.specs.Packing.{row_positions, unpacked, all_packed, good_row}

-- ---- One position

-- A digit is below 3.
digit_lt : (t : Trit) → digit t < 3
digit_lt t0 = lit< tt
digit_lt t1 = lit< tt
digit_lt t* = lit< tt

-- A position comes back from its digit.
position_digit : (t : Trit) → position (digit t) ≡ t
position_digit t0 = refl
position_digit t1 = refl
position_digit t* = refl

-- A digit comes back from its position.
digit_position : (d : ℕ) → d < 3 → digit (position d) ≡ d
digit_position zero h = refl
digit_position (suc zero) h = refl
digit_position (suc (suc zero)) h = refl
digit_position (suc (suc (suc d))) h = absurd (omega arith)

-- ---- A string filled up with zeros

-- The first n positions of a string; past its end they are 0.
unfoldable filled : ℕ → Trits → Trits
filled zero s = []
filled (suc n) [] = t0 ∷ filled n []
filled (suc n) (t ∷ s) = t ∷ filled n s

-- n positions from the front and m more.
filled_add : (n m : ℕ) (s : Trits) → filled (n + m) s ≡ filled n s ++ filled m (drop n s)
unfolding filled
filled_add zero m s = rw zero-add
filled_add (suc n) m [] = rw (suc-add n m, filled_add n m [], drop-nil n)
filled_add (suc n) m (t ∷ s) = rw (suc-add n m, filled_add n m s)

-- The string is the front of it.
filled_front : (n : ℕ) (s : Trits) → length s ≤ n → take (length s) (filled n s) ≡ s
unfolding filled
filled_front n [] h = refl
filled_front zero (t ∷ s) h = absurd (not-suc-le-zero h)
filled_front (suc n) (t ∷ s) h = rw (filled_front n s (le_of_suc-le-suc h))

-- The rest is 0.
filled_rest : (n : ℕ) (s : Trits) → T (all_zero (drop (length s) (filled n s)))
unfolding filled all_zero
filled_rest zero s = rw (drop-nil (length s)) tt
filled_rest (suc n) [] = filled_rest n []
filled_rest (suc n) (t ∷ s) = filled_rest n s

-- A string whose rest from l on is 0 is its first l positions filled up.
filled_cut : (l : ℕ) (s : Trits) → T (all_zero (drop l s)) → filled (length s) (take l s) ≡ s
unfolding filled all_zero
filled_cut zero [] z = refl
filled_cut zero (t0 ∷ s) z = rw (filled_cut zero s z)
filled_cut zero (t1 ∷ s) z = absurd z
filled_cut zero (t* ∷ s) z = absurd z
filled_cut (suc l) [] z = refl
filled_cut (suc l) (t ∷ s) z = rw (filled_cut l s z)

-- ---- One byte

-- A byte of k positions is below 3^k.
pub byte_lt : (k : ℕ) (s : Trits) → packed_byte (take k s) < 3 ^ k
unfolding packed_byte
byte_lt zero s = lit< tt
byte_lt (suc k) [] = omega (arith, byte_lt k [], pow-suc 3 k)
byte_lt (suc k) (t ∷ s) = omega (arith, digit_lt t, byte_lt k s, pow-suc 3 k)

-- Its positions are those packed, and zeros.
byte_back : (k : ℕ) (s : Trits) → positions k (packed_byte (take k s)) ≡ filled k s
unfolding packed_byte positions filled
byte_back zero s = refl
byte_back (suc k) [] = ap {B = Trits} (λ r. t0 ∷ r) (rw (take-nil k) at (byte_back k []))
byte_back (suc k) (t ∷ s) =
    ap₂ {C = Trits} (λ u r. u ∷ r)
    (ap position (low_digit t (packed_byte (take k s))) ∙ position_digit t)
    (ap (positions k) (high_digits t (packed_byte (take k s))) ∙ byte_back k s)
  where
    low_digit : (t : Trit) (b : ℕ) → (digit t + 3 * b) % 3 ≡ digit t
    low_digit t b = omega (arith, digit_lt t)

    high_digits : (t : Trit) (b : ℕ) → (digit t + 3 * b) / 3 ≡ b
    high_digits t b = omega (arith, digit_lt t)

-- The byte comes back from its positions.
positions_back : (k b : ℕ) → b < 3 ^ k → packed_byte (positions k b) ≡ b
unfolding packed_byte positions
positions_back zero b h = omega arith
positions_back (suc k) b h =
    rw (digit_position (b % 3) (mod-lt b (lit< tt)), positions_back k (b / 3) (omega (arith, pow-suc 3 k))) (omega arith)

-- A byte has as many positions as are asked for.
pub positions_length : (k b : ℕ) → length (positions k b) ≡ k
unfolding positions
positions_length zero b = refl
positions_length (suc k) b = ap suc (positions_length k (b / 3))

-- ---- A row of bytes

-- As many bytes as are asked for.
bytes_length : (k : ℕ) (s : Trits) → length (packed_bytes k s) ≡ k
unfolding packed_bytes
bytes_length zero s = refl
bytes_length (suc k) s = ap suc (bytes_length k (drop 5 s))

-- None of them is 243 or more.
bytes_packed : (k : ℕ) (s : Trits) → T (all_packed (packed_bytes k s))
unfolding packed_bytes all_packed
bytes_packed zero s = tt
bytes_packed (suc k) s =
    and_both (ltb (packed_byte (take 5 s)) 243) (all_packed (packed_bytes k (drop 5 s)))
    (lt→ltb (packed_byte (take 5 s)) 243 (byte_lt 5 s)) (bytes_packed k (drop 5 s))

-- Their positions are those packed, and zeros.
bytes_back : (k : ℕ) (s : Trits) → row_positions (packed_bytes k s) ≡ filled (k * 5) s
unfolding packed_bytes row_positions filled
bytes_back zero s = refl
bytes_back (suc k) s =
    let e : suc k * 5 ≡ 5 + k * 5 = omega arith in
    rw (byte_back 5 s, bytes_back k (drop 5 s), e) (sym (filled_add 5 (k * 5) s))

-- Five positions to each byte.
pub row_positions_length : (row : List ℕ) → length (row_positions row) ≡ length row * 5
unfolding row_positions
row_positions_length [] = refl
row_positions_length (b ∷ row) =
    length-append (positions 5 b) (row_positions row)
    ∙ rw (positions_length 5 b, row_positions_length row) (omega arith)

-- A row comes back from its positions, where no byte is 243 or more.
row_bytes : (row : List ℕ) → T (all_packed row) → packed_bytes (length row) (row_positions row) ≡ row
unfolding packed_bytes row_positions all_packed
row_bytes [] h = refl
row_bytes (b ∷ row) h =
    ap₂ {C = List ℕ} (λ x r. x ∷ r)
    (ap packed_byte (take_at (positions 5 b) (row_positions row) 5 (positions_length 5 b))
    ∙ positions_back 5 b (ltb→lt b 243 (and_first (ltb b 243) (all_packed row) h)))
    (ap (packed_bytes (length row)) (drop_at (positions 5 b) (row_positions row) 5 (positions_length 5 b))
    ∙ row_bytes row (and_second (ltb b 243) (all_packed row) h))

-- So two rows with the same positions are one.
same_positions : (new row : List ℕ) → T (all_packed new) → T (all_packed row) → length new ≡ length row
    → row_positions new ≡ row_positions row → new ≡ row
same_positions new row h k e p = sym (row_bytes new h) ∙ ap₂ packed_bytes e p ∙ row_bytes row k

-- ---- An entry and its row

-- The row of an entry has the length of a row.
pub packed_length : (s : Trits) → length (packed s) ≡ row_length (length s)
packed_length s = bytes_length (row_length (length s)) s

-- A row has room for the positions of its entry.
pub row_room : (l : ℕ) → l ≤ row_length l * 5
unfolding row_length
row_room l = omega arith

-- The entry of l positions has l positions.
pub unpacked_length : (l : ℕ) (row : List ℕ) → length row ≡ row_length l → length (unpacked l row) ≡ l
unpacked_length l row e = length-take-le l (row_positions row) (rw (row_positions_length row, e) (row_room l))

-- An entry packed is a good row.
pub packed_good : (s : Trits) → good_row (length s) (packed s) ≡ true
unfolding good_row
packed_good s =
    let k : ℕ = row_length (length s) in
    true_of _ (and_both (all_packed (packed s)) (all_zero (drop (length s) (row_positions (packed s))))
    (bytes_packed k s) (rw (bytes_back k s) (filled_rest (k * 5) s)))

-- An entry packed and unpacked comes back.
pub packed_back : (s : Trits) → unpacked (length s) (packed s) ≡ s
packed_back s =
    let k : ℕ = row_length (length s) in
    rw (bytes_back k s) (filled_front (k * 5) s (row_room (length s)))

-- A good row unpacked and packed comes back.
pub row_back : (l : ℕ) (row : List ℕ) → length row ≡ row_length l → good_row l row ≡ true → packed (unpacked l row) ≡ row
unfolding good_row
row_back l row e g =
    let good : T (good_row l row) = rw g tt in
    let s : Trits = unpacked l row in
    rw (unpacked_length l row e, ← e)
    (same_positions (packed_bytes (length row) s) row (bytes_packed (length row) s)
    (and_first (all_packed row) (all_zero (drop l (row_positions row))) good) (bytes_length (length row) s)
    (bytes_back (length row) s
    ∙ rw (← row_positions_length row) (filled_cut l (row_positions row) (and_second (all_packed row) _ good))))
