-- The largest group inside a set s of variables that an entry covers, as a set and as a word; an index that was found.
use Rattle.std.specs.Prelude.{Bool, true, false, ◌&&◌, cond, List, [], ◌∷◌, map, ◌≡◌, ℕ, zero, suc, eqb, length, get_or}
use Rattle.std.specs.Prelude.{Option as CodeOption, Some, None}
use Rattle.std.proofs.Math.Option.{Option, some, none}
use Rattle.std.specs.Int.Bits.{bit_and, bit_or, bit_xor}
use Rattle.model.specs.Groups.{Bits}
use Rattle.model.specs.Strings.{Trit, t0, t1, t*, Trits}
use Rattle.model.specs.Growth.{Entries}
use Rattle.words.specs.Words.{set_word, high, low}
use Rattle.lists.specs.WorkingLists.{WordsOf}
use Rattle.covering.specs.Sets.{greatest_digit}

-- ---- One entry

-- Where the position is 1 the variable is in s.
abbrev pub fits_digit : Bool → Trit → Bool
fits_digit b t0 = true
fits_digit b t1 = b
fits_digit b t* = true

-- Every 1 of the entry is in s.
unfoldable pub fits : Bits → Trits → Bool
fits [] e = true
fits (b ∷ s) [] = true
fits (b ∷ s) (t ∷ e) = fits_digit b t && fits s e

-- What of s is not 0 in the entry.
unfoldable pub rest : Bits → Trits → Bits
rest [] e = []
rest (b ∷ s) [] = []
rest (b ∷ s) (t ∷ e) = (b && greatest_digit t) ∷ rest s e

-- The largest string of 0 and 1 inside s that the entry covers; all zero where it covers none.
unfoldable pub largest : Bits → Trits → Bits
largest s e = cond (fits s e) (rest s e) (map (λ (b : Bool). false) s)

-- ---- As words

-- The same on the word of the entry and that of s: 0 where the low half has a bit outside s, else what of s is not in the high
-- half.
unfoldable pub largest_word : ℕ → ℕ → ℕ
largest_word e s = cond (eqb (bit_and (low e) s) (low e)) (bit_xor s (bit_and s (high e))) 0

-- That, where it has a bit of m; else 0.
unfoldable pub part_word : ℕ → ℕ → ℕ → ℕ
part_word e s m = cond (eqb (bit_and (largest_word e s) m) 0) 0 (largest_word e s)

-- The bits of the parts of the first n entries.
unfoldable pub parts_word : List ℕ → ℕ → ℕ → ℕ → ℕ
parts_word list s m zero = 0
parts_word list s m (suc i) = bit_or (parts_word list s m i) (part_word (get_or list i 0) s m)

-- P of any list of strings of l positions whose words the slice has, and any sets whose words are s and m.
abbrev pub OfParts : (l : ℕ) (list : List ℕ) (s m : ℕ) → (Entries → Bits → Bits → Type 0) → Type 0
OfParts l list s m P =
    (τ : Entries) (r k : Bits) → WordsOf l list τ → length r ≡ l → length k ≡ l → s ≡ set_word r → m ≡ set_word k → P τ r k

-- ---- An index

-- An index that the code found, or none, as an option of the model.
abbrev pub found : CodeOption ℕ → Option ℕ
found (Some i) = some i
found None = none
