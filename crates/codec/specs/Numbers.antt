-- Numbers in bytes, low byte first: sizes, names and tokens have two bytes (01, "Written form"), the words of entries two or
-- four (02, request 5). So numbers are defined for any k bytes.
use Rattle.std.specs.Prelude.{ℕ, zero, suc, ◌+◌, ◌-◌, ◌*◌, ◌/◌, ◌%◌, ◌≡◌, ◌⊎◌, List, [], ◌∷◌, ◌++◌, map, length, take, drop, replicate}

-- The words of entries have two bytes or four.
abbrev pub WordSize : ℕ → Type 0
WordSize k = (k ≡ 2) ⊎ (k ≡ 4)

-- ---- Reading

-- The number that a row of bytes is.
unfoldable pub number : List ℕ → ℕ
number [] = 0
number (x ∷ xs) = x + 256 * number xs

-- The number of k bytes that stands at index i.
abbrev pub word_at : ℕ → List ℕ → ℕ → ℕ
word_at k b i = number (take k (drop i b))

-- The first n rows of k bytes.
unfoldable pub rows : ℕ → ℕ → List ℕ → List (List ℕ)
rows k zero b = []
rows k (suc n) b = take k b ∷ rows k n (drop k b)

-- The first n numbers of k bytes.
abbrev pub words : ℕ → ℕ → List ℕ → List ℕ
words k n b = map number (rows k n b)

-- The number of two bytes at index i.
abbrev pub number_at : List ℕ → ℕ → ℕ
number_at b i = word_at 2 b i

-- The first n numbers of two bytes.
abbrev pub numbers : ℕ → List ℕ → List ℕ
numbers n b = words 2 n b

-- The sum of a row of numbers.
unfoldable pub sum : List ℕ → ℕ
sum [] = 0
sum (w ∷ ws) = w + sum ws

-- The row with zeros up to n numbers.
unfoldable pub with_zeros : ℕ → List ℕ → List ℕ
with_zeros n ws = ws ++ replicate (n - length ws) 0

-- ---- Writing

-- The k bytes of a number, cut to so many.
unfoldable pub word_bytes : ℕ → ℕ → List ℕ
word_bytes zero w = []
word_bytes (suc k) w = w % 256 ∷ word_bytes k (w / 256)

-- Rows of bytes, one after the other.
unfoldable pub joined : List (List ℕ) → List ℕ
joined [] = []
joined (r ∷ rs) = r ++ joined rs

-- The bytes of a row of numbers, k for each.
abbrev pub bytes : ℕ → List ℕ → List ℕ
bytes k ws = joined (map (word_bytes k) ws)
