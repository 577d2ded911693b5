-- A string as one word of 64 bits: bit i of its high half is 1 where position i is 0, bit i of its low half where position i
-- is 1. As a table has it, a string is two words: bit i of `care` is 1 where position i is fixed, bit i of `value` is its
-- value there, and 0 where `care` is 0. Positions are counted from 0.
use Rattle.std.specs.Prelude.{◌≡◌, ℕ, zero, suc, ◌+◌, ◌-◌, ◌*◌, ◌/◌, ◌%◌, ◌^◌, Bool, true, false, cond, ◌&&◌, [], ◌∷◌, map, ◌==◌, bit_and, bit_or, bit_xor, nat_lt}
use Rattle.model.specs.Groups.{Bits}
use Rattle.model.specs.Strings.{Trit, t0, t1, t*, Trits, fixed_digit, flip, subsumes_digit, subsumes}
use Rattle.words.specs.declared.Entry.{Entry}

-- ---- Strings and sets as words

-- Care is 1 where fixed.
abbrev pub care_bit : Trit → ℕ
care_bit t0 = 1
care_bit t1 = 1
care_bit t* = 0

-- Value is 0 where care is 0.
abbrev pub value_bit : Trit → ℕ
value_bit t0 = 0
value_bit t1 = 1
value_bit t* = 0

-- The care word of a string: position i is bit i.
unfoldable pub care_of : Trits → ℕ
care_of [] = 0
care_of (t ∷ s) = care_of s * 2 + care_bit t

-- The value word of a string.
unfoldable pub value_of : Trits → ℕ
value_of [] = 0
value_of (t ∷ s) = value_of s * 2 + value_bit t

-- The care and the value word of a string.
abbrev pub entry : Trits → Entry
entry s = record { care = care_of s; value = value_of s }

-- The word of a set of variables, or of a string of 0 and 1: bit i - 1 for Xi.
unfoldable pub set_word : Bits → ℕ
set_word [] = 0
set_word (b ∷ g) = set_word g * 2 + cond b 1 0

-- 1 where the position is 0.
abbrev pub zero_bit : Trit → ℕ
zero_bit t0 = 1
zero_bit t1 = 0
zero_bit t* = 0

-- The word of the positions that are 0.
unfoldable pub zeros_of : Trits → ℕ
zeros_of [] = 0
zeros_of (t ∷ s) = zeros_of s * 2 + zero_bit t

-- The word of a string: its zeros in the high half, its ones, which are the value word, in the low half.
unfoldable pub word : Trits → ℕ
word s = zeros_of s * 2 ^ 32 + value_of s

-- ---- And back

-- The position that a care bit and a value bit stand for.
abbrev pub trit_of : ℕ → ℕ → Trit
trit_of zero v = t*
trit_of (suc c) zero = t0
trit_of (suc c) (suc v) = t1

-- The string of l positions that care and value stand for.
unfoldable pub string : ℕ → Entry → Trits
string zero e = []
string (suc l) e = trit_of (e.care % 2) (e.value % 2) ∷ string l (record { care = e.care / 2; value = e.value / 2 })

-- The set of l variables that a word stands for.
unfoldable pub set : ℕ → ℕ → Bits
set zero w = []
set (suc l) w = (w % 2 == 1) ∷ set l (w / 2)

-- Care and value encode a string of l positions: no bit above l, no value without care.
abbrev pub Encodes : ℕ → Entry → Type 0
Encodes l e = e ≡ entry (string l e)

-- ---- The positions of one string that another opens

-- The fixed positions of y at which y with that value flipped is subsumed by e.
unfoldable pub openings : Trits → Trits → Bits
openings [] y = []
openings (t ∷ e) [] = []
openings (t ∷ e) (u ∷ y) =
    (fixed_digit u && subsumes_digit t (flip u) && subsumes e y)
    ∷ cond (subsumes_digit t u) (openings e y) (map (λ (b : Bool). false) (openings e y))

-- Every position is fixed.
unfoldable pub starless : Trits → Bool
starless [] = true
starless (t ∷ s) = fixed_digit t && starless s

-- How many positions e is fixed at and y is not fixed to the same value.
unfoldable pub lack_count : Trits → Trits → ℕ
lack_count [] y = 0
lack_count (t ∷ e) [] = 0
lack_count (t ∷ e) (u ∷ y) = cond (subsumes_digit t u) (lack_count e y) (suc (lack_count e y))

-- e lacks at most one position of y: only such an entry can subsume what y is widened to, or that with one value flipped.
unfoldable pub near : Trits → Trits → Bool
near e y = nat_lt (lack_count e y) 2

-- ---- What each operation makes of any words

-- The zeros of a word, its high half.
abbrev pub high : ℕ → ℕ
high a = a / 2 ^ 32

-- The ones of a word, its low half.
abbrev pub low : ℕ → ℕ
low a = a % 2 ^ 32

-- The word with these two halves.
abbrev pub halves : ℕ → ℕ → ℕ
halves z o = z * 2 ^ 32 + o

-- Care without value is the high half, value the low half.
unfoldable pub word_of : Entry → ℕ
word_of e = halves (bit_xor e.care e.value) e.value

-- Value is the low half, and care has the bits of both.
unfoldable pub entry_of : ℕ → Entry
entry_of a = record { care = bit_or (high a) (low a); value = low a }

-- The fixed positions: the bits of both halves.
unfoldable pub fixed_word : ℕ → ℕ
fixed_word a = bit_or (high a) (low a)

-- Bit i of a word is 1.
abbrev pub has : ℕ → ℕ → Bool
has i a = a / 2 ^ i % 2 == 1

-- Every bit of a is one of b.
unfoldable pub subsumes_word : ℕ → ℕ → Bool
subsumes_word a b = bit_and a b == a

-- The positions where one is 0 and the other 1: those in both halves of "a or b".
unfoldable pub clash_word : ℕ → ℕ → ℕ
clash_word a b = bit_and (high (bit_or a b)) (low (bit_or a b))

-- There is no such position.
unfoldable pub matches_word : ℕ → ℕ → Bool
matches_word a b = clash_word a b == 0

-- 0 where both are 0, 1 where one is 1.
unfoldable pub or_word : ℕ → ℕ → ℕ
or_word a b = halves (bit_and (high a) (high b)) (low (bit_or a b))

-- The word of the all-zero string of l positions.
unfoldable pub zero_word : ℕ → ℕ
zero_word l = halves (2 ^ l - 1) 0

-- Bit i in both halves.
unfoldable pub both : ℕ → ℕ
both i = halves (2 ^ i) (2 ^ i)

-- Both bits of position i turned over.
unfoldable pub flipped_word : ℕ → ℕ → ℕ
flipped_word i a = bit_xor a (both i)

-- Neither bit of position i.
unfoldable pub starred_word : ℕ → ℕ → ℕ
starred_word i a = bit_xor a (bit_and a (both i))

-- The two halves exchanged: the opposite at each fixed position.
unfoldable pub opposite_word : ℕ → ℕ
opposite_word v = halves (low v) (high v)

-- y with what v has at position i, exchanged.
unfoldable pub opposed_word : ℕ → ℕ → ℕ → ℕ
opposed_word i v y = bit_or y (bit_and (opposite_word v) (both i))

-- The bits of e that y lacks: where e is fixed and y is not fixed to the same value.
unfoldable pub lacks_word : ℕ → ℕ → ℕ
lacks_word e y = bit_xor (bit_and e y) e

-- A word has at most one bit.
unfoldable pub lone : ℕ → Bool
lone w = bit_and w (w - 1) == 0

-- The bit of e that y lacks, where it is one alone; else 0.
unfoldable pub lone_lack : ℕ → ℕ → ℕ
lone_lack e y = cond (lone (lacks_word e y)) (lacks_word e y) 0

-- e where every bit of it is one of y; else 0.
unfoldable pub if_over : ℕ → ℕ → ℕ
if_over e y = cond (subsumes_word e y) e 0

-- Of the bits w that y lacks of e: where there is none, the fixed positions of y that e leaves open; where there is one, its
-- position, if y is fixed there.
unfoldable pub openings_of : ℕ → ℕ → ℕ → ℕ
openings_of w e y =
    cond (w == 0) (bit_xor (fixed_word y) (bit_and (fixed_word y) (fixed_word e)))
    (cond (lone w) (bit_and (fixed_word w) (fixed_word y)) 0)

-- Where an entry e near y can open: at the position that y lacks of it, or where y lacks none at those that e leaves open.
unfoldable pub opens_word : ℕ → ℕ → ℕ
opens_word e y = cond (lacks_word e y == 0) (bit_xor (fixed_word e) (2 ^ 32 - 1)) (fixed_word (lacks_word e y))

-- What widening y needs of an entry e near y: in the high half the positions that e fixes, in the low where it can open.
unfoldable pub shade_word : ℕ → ℕ → ℕ
shade_word e y = halves (fixed_word e) (opens_word e y)

-- The bits of w at the chosen positions among the lowest n, moved together, in rising order.
unfoldable pub gather : ℕ → ℕ → ℕ → ℕ
gather zero keep w = 0
gather (suc n) keep w = cond (keep % 2 == 1) (gather n (keep / 2) (w / 2) * 2 + w % 2) (gather n (keep / 2) (w / 2))

-- Both halves cut to the chosen positions.
unfoldable pub cut_word : ℕ → ℕ → ℕ
cut_word keep a = halves (gather 32 keep (high a)) (gather 32 keep (low a))
