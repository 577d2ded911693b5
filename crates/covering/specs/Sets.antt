-- Groups that meet a set of variables.
use Rattle.std.specs.Prelude.{Bool, true, false, not, ◌&&◌, ◌||◌, [], ◌∷◌, ℕ, zero, suc, length}
use Rattle.model.specs.Groups.{Bits, meets}
use Rattle.model.specs.Strings.{Trit, t0, t1, t*, Trits, covers, stars}
use Rattle.model.specs.Growth.{Entries, covered}
use Rattle.model.specs.Questions.{every_group}

-- Of the digits that a position covers, the greatest.
abbrev pub greatest_digit : Trit → Bool
greatest_digit t0 = false
greatest_digit t1 = true
greatest_digit t* = true

-- Of the strings of 0 and 1 that s covers, the one with the most 1s.
unfoldable pub greatest : Trits → Bits
greatest [] = []
greatest (t ∷ s) = greatest_digit t ∷ greatest s

-- 1 at position i, 0 at the variables of the set before it, and `*` elsewhere.
unfoldable pub first_string : Bits → ℕ → Trits
first_string [] i = []
first_string (b ∷ k) zero = t1 ∷ stars (length k)
first_string (true ∷ k) (suc i) = t0 ∷ first_string k i
first_string (false ∷ k) (suc i) = t* ∷ first_string k i

-- Every group that y covers and that meets the set is covered by an entry.
unfoldable pub apart : ℕ → Entries → Trits → Bits → Bool
apart l τ y k = every_group l (λ g. not (covers y g && meets k g) || covered τ g)
