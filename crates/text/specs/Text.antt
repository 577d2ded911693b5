-- Numbers, lines and entries as text, in bytes (01, "The program `sharerun`").
use Rattle.std.specs.Prelude.{cond, List, [], ◌∷◌, ◌++◌, ℕ, ◌+◌, ◌/◌, ◌%◌, ltb}
use Rattle.model.specs.Strings.{Trit, t0, t1, t*, Trits}
use Rattle.model.specs.Growth.{Entries}

-- The newline that ends a line.
abbrev pub newline : ℕ
newline = 10

-- ---- Numbers

-- The character of a digit 0 to 9; that of 0 is 48.
abbrev pub digit : ℕ → ℕ
digit d = 48 + d

-- A number below 1000, in decimal without padding.
unfoldable pub decimal : ℕ → List ℕ
decimal n =
    cond (ltb n 10) (digit n ∷ [])
    (cond (ltb n 100) (digit (n / 10) ∷ digit (n % 10) ∷ [])
    (digit (n / 100) ∷ digit (n / 10 % 10) ∷ digit (n % 10) ∷ []))

-- A line of two words, each with a number.
unfoldable pub line : List ℕ → ℕ → List ℕ → ℕ → List ℕ
line v a w b = v ++ (decimal a ++ (w ++ (decimal b ++ (newline ∷ []))))

-- ---- Entries

-- The character `*`.
abbrev pub star : ℕ
star = 42

-- The character of a position.
abbrev pub character : Trit → ℕ
character t0 = digit 0
character t1 = digit 1
character t* = star

-- An entry: its characters, position 1 first, and a newline.
unfoldable pub entry_text : Trits → List ℕ
entry_text [] = newline ∷ []
entry_text (t ∷ s) = character t ∷ entry_text s

-- Entries, a line each.
unfoldable pub entries_text : Entries → List ℕ
entries_text [] = []
entries_text (s ∷ τ) = entry_text s ++ entries_text τ
