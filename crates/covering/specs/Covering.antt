-- Whether a list covers all groups of a string or of a list, and what is found on the way to the answer.
use Rattle.std.specs.Prelude.{◌≡◌, Bool, true, false, not, ◌||◌, [], ◌∷◌, ℕ, zero, suc, ◌<◌, length, get_or, Option, Some, None}
use Rattle.model.specs.Groups.{Bits}
use Rattle.model.specs.Strings.{Trits, covers, matches, subsumes}
use Rattle.model.specs.Growth.{Entries, covered}
use Rattle.model.specs.Questions.{every_group}
use Rattle.words.specs.Words.{word}

-- The index of an entry that matches y, or none where none does.
abbrev pub Nearest : Entries → Trits → Option ℕ → Type 0
Nearest τ y (Some r) = (r < length τ) × (matches (get_or τ r []) y ≡ true)
Nearest τ y None = (i : ℕ) → i < length τ → matches (get_or τ i []) y ≡ false

-- r is the word of a string that y subsumes, and that covers all that y covers but what passes the test p: only positions
-- that are forced are fixed (in the field: unit propagation).
pub record Narrows (p : Bits → Bool) (y : Trits) (r : ℕ) : Type 0 where
  pub string : Trits
  pub is : r ≡ word string
  pub long : length string ≡ length y
  pub inside : subsumes y string ≡ true
  pub rest : (g : Bits) → covers y g ≡ true → p g ≡ false → covers string g ≡ true

-- y with v's value at position i. The piece with the opposite of v there being taken off, this is left (in the field: the
-- disjoint sharp operation).
unfoldable pub agreed : ℕ → Trits → Trits → Trits
agreed i [] y = y
agreed i (u ∷ v) [] = []
agreed zero (u ∷ v) (t ∷ y) = u ∷ y
agreed (suc i) (u ∷ v) (t ∷ y) = t ∷ agreed i v y

-- Every group that y covers is covered by an entry.
unfoldable pub all_covered : ℕ → Entries → Trits → Bool
all_covered l τ y = every_group l (λ g. not (covers y g) || covered τ g)

-- Every group that the first list covers is covered by the second.
unfoldable pub within : ℕ → Entries → Entries → Bool
within l τ ρ = every_group l (λ g. not (covered τ g) || covered ρ g)
