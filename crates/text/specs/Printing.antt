-- An entry as it stands in an output (request 4 of 02).
use Rattle.std.specs.Prelude.{◌≡◌, List, ◌⊎◌, ℕ, ◌+◌, ◌≤◌, ◌<◌, length, get_or}
use Rattle.model.specs.Strings.{t*, Trits}
use Rattle.text.specs.Text.{newline, character}

-- The place i is none of the m places from `at` on.
abbrev pub Elsewhere : (at m i : ℕ) → Type 0
Elsewhere at m i = (i < at) ⊎ (at + m ≤ i)

-- The characters of the entry s, position 1 first, and the newline stand in an output from the place `at` on, and every other
-- byte of the output holds what it held.
pub record Printed (s : Trits) (at : ℕ) (before after : List ℕ) : Type 0 where
  pub characters : (i : ℕ) → i < length s → get_or after (at + i) 0 ≡ character (get_or s i t*)
  pub ended : get_or after (at + length s) 0 ≡ newline
  pub others : (i : ℕ) → Elsewhere at (length s + 1) i → get_or after i 0 ≡ get_or before i 0
  pub long : length after ≡ length before
