-- What a run says, as bytes (01, "The program `sharerun`").
use Rattle.std.specs.Prelude.{List, [], ◌∷◌, ◌++◌, ℕ}
use Rattle.tables.specs.declared.Table.{Table}
use Rattle.tables.specs.Refusals.{Answer}
use Rattle.tables.specs.Refusals.{Accepted, Refused}
use Rattle.tables.specs.Refusals.{refusal_number}
use Rattle.tables.specs.Values.{entries_of}
use Rattle.text.specs.Text.{line, entries_text}

-- ---- Words

-- "vars "
abbrev pub vars : List ℕ
vars = 118 ∷ 97 ∷ 114 ∷ 115 ∷ 32 ∷ []

-- "eq "
abbrev pub eq : List ℕ
eq = 101 ∷ 113 ∷ 32 ∷ []

-- " entries "
abbrev pub entries : List ℕ
entries = 32 ∷ 101 ∷ 110 ∷ 116 ∷ 114 ∷ 105 ∷ 101 ∷ 115 ∷ 32 ∷ []

-- "refused "
abbrev pub refused : List ℕ
refused = 114 ∷ 101 ∷ 102 ∷ 117 ∷ 115 ∷ 101 ∷ 100 ∷ 32 ∷ []

-- ---- Lines

-- A word and a number, the number of entries of a table, then its entries.
unfoldable pub block : List ℕ → ℕ → Table → List ℕ
block w a t = line w a entries t.n ++ entries_text (entries_of t)

-- Of the table that was read: its variables and entries, then the entries.
abbrev pub first_text : Table → List ℕ
first_text t = block vars t.l t

-- Of the equation numbered k: its number and entries, then the entries. Where it is refused, its number and that of the
-- refusal, as in `eq N refused 8`.
unfoldable pub equation_text : ℕ → Answer → Table → List ℕ
equation_text k Accepted t = block eq k t
equation_text k (Refused r) t = line eq k (32 ∷ refused) (refusal_number r)
