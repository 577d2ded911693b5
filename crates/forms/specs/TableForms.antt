-- The written forms of a table: sizes l and n, then the entries. A plain form has n care words, then n value words (01, "Written
-- form" and "Refusals"), of 16 bits for up to 16 variables and of 32 above (02, request 5); a packed one a row of bytes for
-- each entry, five positions to a byte (02, request 1).
use Rattle.std.specs.Prelude.{◌≡◌, Bool, true, ◌&&◌, cond, List, [], ◌∷◌, ◌++◌, map, ℕ, ◌+◌, ◌*◌, leb, eqb, length, take, drop}
use Rattle.model.specs.Growth.{Entries, limit, grow_all}
use Rattle.words.specs.declared.Entry.{Entry}
use Rattle.tables.specs.declared.Table.{Table}
use Rattle.tables.specs.declared.Refusal.{Refusal}
use Rattle.tables.specs.declared.Refusal.TheVariants as R
use Rattle.tables.specs.Refusals.{Answer}
use Rattle.tables.specs.Refusals.{Accepted, Refused}
use Rattle.tables.specs.declared.Answered.{Answered}
use Rattle.tables.specs.Refusals.{refusal_number, if_accepted}
use Rattle.tables.specs.Lists.{strings}
use Rattle.tables.specs.Values.{entries_of, good_width, entry_at, all_clean, zero_table, refuses, made_or_full, check_table}
use Rattle.codec.specs.Numbers.{number_at, rows, words, joined, bytes}
use Rattle.packing.specs.Packing.{row_length, packed, unpacked, good_row}
use Rattle.forms.specs.declared.Extent.{Extent}
use Rattle.forms.specs.declared.Extent.TheVariants.{Whole, Front}
use Rattle.forms.specs.declared.Layout.{Layout}
use Rattle.forms.specs.declared.Layout.TheVariants.{Plain, Packed}

-- ---- Sizes and lengths

-- Both sizes are present.
unfoldable pub sized : List ℕ → Bool
sized b = leb 4 (length b)

-- The first size: l of a table, e of equations.
abbrev pub first_size : List ℕ → ℕ
first_size b = number_at b 0

-- The second size: n of a table, m of equations.
abbrev pub second_size : List ℕ → ℕ
second_size b = number_at b 2

-- How many bytes a care or value word of entries of l positions has: two up to 16 positions, four above.
unfoldable pub word_length : ℕ → ℕ
word_length l = cond (leb l 16) 2 4

-- The length of the plain form of n entries of l positions: n care and n value words.
abbrev pub table_length : ℕ → ℕ → ℕ
table_length l n = 4 + 2 * (word_length l * n)

-- The length of a form of n entries of l positions: packed, each takes l/5 bytes, rounded up.
abbrev pub form_length : Layout → ℕ → ℕ → ℕ
form_length Plain l n = table_length l n
form_length Packed l n = 4 + row_length l * n

-- The length of the plain form at the front of bytes, by the sizes written.
abbrev pub front_length : List ℕ → ℕ
front_length b = table_length (first_size b) (second_size b)

-- The size is right: exactly what the sizes give, or, where more may follow, not too short.
unfoldable pub fits : Extent → ℕ → ℕ → Bool
fits Whole size room = eqb size room
fits Front size room = leb size room

-- ---- The entries

-- The n care words of entries of l positions.
abbrev pub cares : ℕ → ℕ → List ℕ → List ℕ
cares l n b = words (word_length l) n (drop 4 b)

-- The n value words, which follow them.
abbrev pub values : ℕ → ℕ → List ℕ → List ℕ
values l n b = words (word_length l) n (drop (4 + word_length l * n) b)

-- The care and value word at an index.
abbrev pub written_at : ℕ → ℕ → List ℕ → ℕ → Entry
written_at l n b = entry_at (cares l n b) (values l n b)

-- The n packed rows of entries of l positions.
abbrev pub packed_rows : ℕ → ℕ → List ℕ → List (List ℕ)
packed_rows l n b = rows (row_length l) n (drop 4 b)

-- Every row of entries of l positions is good.
unfoldable pub all_good : ℕ → List (List ℕ) → Bool
all_good l [] = true
all_good l (row ∷ rs) = good_row l row && all_good l rs

-- The entries that are written, as strings of l positions.
unfoldable pub written_entries : Layout → ℕ → ℕ → List ℕ → Entries
written_entries Plain l n b = strings l (cares l n b) (values l n b) n
written_entries Packed l n b = map (unpacked l) (packed_rows l n b)

-- Each entry is well written: no bit above l and no value without care; or no byte of 243 or more and every unused digit 0.
unfoldable pub all_well : Layout → ℕ → ℕ → List ℕ → Bool
all_well Plain l n b = all_clean l n (cares l n b) (values l n b)
all_well Packed l n b = all_good l (packed_rows l n b)

-- The refusal of an entry that is not: 12 takes the place of 4 for packed rows.
abbrev pub bad_entry : Layout → Refusal
bad_entry Plain = R.Stray
bad_entry Packed = R.Digit

-- The numbers by which reading refuses: 1, 2, 3, and 4 or, packed, 12; so never 8.
abbrev pub form_numbers : Layout → List ℕ
form_numbers f = 1 ∷ 2 ∷ 3 ∷ refusal_number (bad_entry f) ∷ []

-- ---- Reading

-- 4 or 12 by entry; then the entries are grown in order.
unfoldable pub read_entries : Layout → ℕ → ℕ → List ℕ → Answered
read_entries f l n b =
    cond (all_well f l n b) (made_or_full l zero_table (grow_all [] (written_entries f l n b)))
    (refuses (bad_entry f) zero_table)

-- Reading a table of those sizes: 2, 3, length (1), 4 or 12 by entry.
unfoldable pub read_sized : Layout → Extent → ℕ → ℕ → List ℕ → Answered
read_sized f extent l n b =
    cond (good_width l)
    (cond (leb n limit)
    (cond (fits extent (form_length f l n) (length b)) (read_entries f l n b) (refuses R.Torn zero_table))
    (refuses R.Entries zero_table))
    (refuses R.Width zero_table)

-- Reading a table: sizes present (1), then as they say.
unfoldable pub read_form : Layout → Extent → List ℕ → Answered
read_form f extent b =
    cond (sized b) (read_sized f extent (first_size b) (second_size b) b) (refuses R.Torn zero_table)

-- Reading a plain form.
abbrev pub read_table : Extent → List ℕ → Answered
read_table extent b = read_form Plain extent b

-- Reading a packed form, which is all the bytes.
abbrev pub read_packed : List ℕ → Answered
read_packed b = read_form Packed Whole b

-- A form that passes every test of reading: sizes present, 2, 3, length, 4 or 12 by entry.
pub record Passed (f : Layout) (x : Extent) (b : List ℕ) : Type 0 where
  pub sizes : sized b ≡ true
  pub width : good_width (first_size b) ≡ true
  pub few : leb (second_size b) limit ≡ true
  pub long : fits x (form_length f (first_size b) (second_size b)) (length b) ≡ true
  pub clean : all_well f (first_size b) (second_size b) b ≡ true

-- ---- Writing

-- The packed rows of entries, one after the other.
abbrev pub rows_of : Entries → List ℕ
rows_of τ = joined (map packed τ)

-- The bytes of a table's entries as they are.
unfoldable pub entry_bytes : Layout → Table → List ℕ
entry_bytes Plain t = bytes (word_length t.l) (take t.n t.care ++ take t.n t.value)
entry_bytes Packed t = rows_of (entries_of t)

-- The bytes of a table's form.
unfoldable pub form_of : Layout → Table → List ℕ
form_of f t = bytes 2 (t.l ∷ t.n ∷ []) ++ entry_bytes f t

-- The plain form.
abbrev pub table_form : Table → List ℕ
table_form t = form_of Plain t

-- The packed form.
abbrev pub packed_form : Table → List ℕ
packed_form t = form_of Packed t

-- What writing a table into so many bytes answers: 2, 3, 4 of the table, then 9.
unfoldable pub form_answer : Layout → Table → ℕ → Answer
form_answer f t room =
    if_accepted (check_table t) Refused
    (cond (leb (form_length f t.l t.n) room) Accepted (Refused R.Narrow))

-- What writing the plain form answers.
abbrev pub write_answer : Table → ℕ → Answer
write_answer t room = form_answer Plain t room

-- The bytes of an output after an answer: past the form they keep what they held, and a refusal writes nothing.
unfoldable pub written : Answer → List ℕ → List ℕ → List ℕ
written a form out = if_accepted a (λ r. out) (form ++ drop (length form) out)
