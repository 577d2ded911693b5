-- Five positions to a byte (02, request 1).
use Rattle.std.specs.Prelude.{◌≡◌, Bool, true, ◌&&◌, cond, List, [], ◌∷◌, ◌++◌, ℕ, zero, suc, ◌+◌, ◌*◌, ◌/◌, ◌%◌, ◌<◌, ltb, length, get_or, take, drop, Option, Some, None}
use Rattle.model.specs.Strings.{Trit, t0, t1, t*, Trits, all_zero}
use Rattle.words.specs.Words.{care_of, value_of, entry}
use Rattle.words.specs.declared.Entry.{Entry}

-- ---- Packing

-- A digit is 0, 1, or 2 for `*`.
abbrev pub digit : Trit → ℕ
digit t0 = 0
digit t1 = 1
digit t* = 2

-- The byte of up to five positions: the sum of digit times 1, 3, 9, 27, 81, lowest position first.
unfoldable pub packed_byte : Trits → ℕ
packed_byte [] = 0
packed_byte (t ∷ s) = digit t + 3 * packed_byte s

-- The first k bytes of a string, five positions each; digits past its end are 0.
unfoldable pub packed_bytes : ℕ → Trits → List ℕ
packed_bytes zero s = []
packed_bytes (suc k) s = packed_byte (take 5 s) ∷ packed_bytes k (drop 5 s)

-- An entry of l positions takes l/5 bytes, rounded up.
unfoldable pub row_length : ℕ → ℕ
row_length l = (l + 4) / 5

-- The row of an entry.
abbrev pub packed : Trits → List ℕ
packed s = packed_bytes (row_length (length s)) s

-- ---- Unpacking

-- The position that a digit stands for.
abbrev pub position : ℕ → Trit
position zero = t0
position (suc zero) = t1
position (suc (suc d)) = t*

-- The positions of the k lowest digits of a byte.
unfoldable pub positions : ℕ → ℕ → Trits
positions zero b = []
positions (suc k) b = position (b % 3) ∷ positions k (b / 3)

-- The positions of a row of bytes, five of each.
unfoldable pub row_positions : List ℕ → Trits
row_positions [] = []
row_positions (b ∷ row) = positions 5 b ++ row_positions row

-- The entry of l positions that a row stands for.
abbrev pub unpacked : ℕ → List ℕ → Trits
unpacked l row = take l (row_positions row)

-- No byte is 243 or more.
unfoldable pub all_packed : List ℕ → Bool
all_packed [] = true
all_packed (b ∷ row) = ltb b 243 && all_packed row

-- A good row of an entry of l positions: no byte of 243 or more, and every unused digit 0.
unfoldable pub good_row : ℕ → List ℕ → Bool
good_row l row = all_packed row && all_zero (drop l (row_positions row))

-- What unpacking a row answers: its entry, where the row is good.
unfoldable pub unpacked_row : ℕ → List ℕ → Option Entry
unpacked_row l row = cond (good_row l row) (Some (entry (unpacked l row))) None

-- ---- The tables of the code

-- The number of a byte in the table of 256: the care word of its five positions and 32 times their value word; 1024 for none.
abbrev pub table_number : ℕ → ℕ
table_number b = cond (ltb b 243) (care_of (positions 5 b) + 32 * value_of (positions 5 b)) 1024

-- A table of 256 numbers whose rule holds at every byte.
abbrev pub Ruled : List ℕ → Type 0
Ruled table = (b : ℕ) → b < 256 → get_or table b 0 ≡ table_number b

-- The sum of 1, 3, 9, 27, .. at the k lowest bits of a word.
unfoldable pub powers : ℕ → ℕ → ℕ
powers zero w = 0
powers (suc k) w = w % 2 + 3 * powers k (w / 2)
