-- Ternary strings (01, "Strings and groups"), for any number of positions. Positions are counted from 0 here: Xi is position i - 1.
use Rattle.std.specs.Prelude.{Bool, true, false, not, ◌&&◌, cond, List, [], ◌∷◌, map, ℕ, zero, suc, length, get_or, replicate}
use Rattle.model.specs.Groups.{Bits}

-- A position is 0, 1 or `*` (either).
pub data Trit : Type 0 where
  t0 t1 t* : Trit

-- A string of 0, 1 and `*`, X1 first.
abbrev pub Trits : Type 0
Trits = List Trit

-- ---- One position

-- `*` covers either digit, 0 and 1 only themselves.
abbrev pub covers_digit : Trit → Bool → Bool
covers_digit t0 b = not b
covers_digit t1 b = b
covers_digit t* b = true

-- Match: equal, or one is `*`.
abbrev pub match_digit : Trit → Trit → Bool
match_digit t0 t0 = true
match_digit t0 t1 = false
match_digit t0 t* = true
match_digit t1 t0 = false
match_digit t1 t1 = true
match_digit t1 t* = true
match_digit t* u = true

-- Meet: the fixed value, else `*`. (Of 0 and 1, which do not match, 1: no procedure forms that meet.)
abbrev pub meet_digit : Trit → Trit → Trit
meet_digit t0 t0 = t0
meet_digit t0 t1 = t1
meet_digit t0 t* = t0
meet_digit t1 u = t1
meet_digit t* u = u

-- Or: 1 with anything is 1; 0 with 0 is 0; 0 with `*` is `*`; `*` with `*` is `*`.
abbrev pub or_digit : Trit → Trit → Trit
or_digit t0 t0 = t0
or_digit t0 t1 = t1
or_digit t0 t* = t*
or_digit t1 u = t1
or_digit t* t0 = t*
or_digit t* t1 = t1
or_digit t* t* = t*

-- Covers all digits that the other covers.
abbrev pub subsumes_digit : Trit → Trit → Bool
subsumes_digit t0 t0 = true
subsumes_digit t0 t1 = false
subsumes_digit t0 t* = false
subsumes_digit t1 t0 = false
subsumes_digit t1 t1 = true
subsumes_digit t1 t* = false
subsumes_digit t* u = true

-- The digit is 0.
abbrev pub zero_digit : Trit → Bool
zero_digit t0 = true
zero_digit t1 = false
zero_digit t* = false

-- Fixed: 0 or 1.
abbrev pub fixed_digit : Trit → Bool
fixed_digit t0 = true
fixed_digit t1 = true
fixed_digit t* = false

-- The value flipped, the opposite.
abbrev pub flip : Trit → Trit
flip t0 = t1
flip t1 = t0
flip t* = t*

-- A digit of a string of 0 and 1 as a position.
abbrev pub digit : Bool → Trit
digit true = t1
digit false = t0

-- ---- Whole strings

-- The string of 0 and 1 agrees with every fixed position.
unfoldable pub covers : Trits → Bits → Bool
covers [] [] = true
covers [] (b ∷ g) = false
covers (t ∷ s) [] = false
covers (t ∷ s) (b ∷ g) = covers_digit t b && covers s g

-- Match: at each position equal, or one is `*`.
unfoldable pub matches : Trits → Trits → Bool
matches [] [] = true
matches [] (u ∷ r) = false
matches (t ∷ s) [] = false
matches (t ∷ s) (u ∷ r) = match_digit t u && matches s r

-- Meet of matching strings.
unfoldable pub meet : Trits → Trits → Trits
meet [] r = []
meet (t ∷ s) [] = []
meet (t ∷ s) (u ∷ r) = meet_digit t u ∷ meet s r

-- Or.
unfoldable pub or_strings : Trits → Trits → Trits
or_strings [] r = r
or_strings (t ∷ s) [] = t ∷ s
or_strings (t ∷ s) (u ∷ r) = or_digit t u ∷ or_strings s r

-- One string subsumes another: it covers all that the other covers.
unfoldable pub subsumes : Trits → Trits → Bool
subsumes [] [] = true
subsumes [] (u ∷ r) = false
subsumes (t ∷ s) [] = false
subsumes (t ∷ s) (u ∷ r) = subsumes_digit t u && subsumes s r

-- The all-zero string.
unfoldable pub all_zero : Trits → Bool
all_zero [] = true
all_zero (t ∷ s) = zero_digit t && all_zero s

-- The string that covers just one string of 0 and 1.
unfoldable pub exactly : Bits → Trits
exactly g = map digit g

-- `*` at all l positions.
unfoldable pub stars : ℕ → Trits
stars l = replicate l t*

-- ---- One position of a string

-- Position i is fixed.
unfoldable pub fixed : ℕ → Trits → Bool
fixed i [] = false
fixed zero (t ∷ s) = fixed_digit t
fixed (suc i) (t ∷ s) = fixed i s

-- How many positions are fixed.
unfoldable pub fixed_count : Trits → ℕ
fixed_count [] = 0
fixed_count (t ∷ s) = cond (fixed_digit t) (suc (fixed_count s)) (fixed_count s)

-- s with the value at position i flipped.
unfoldable pub flipped : ℕ → Trits → Trits
flipped i [] = []
flipped zero (t ∷ s) = flip t ∷ s
flipped (suc i) (t ∷ s) = t ∷ flipped i s

-- s with `*` at position i.
unfoldable pub starred : ℕ → Trits → Trits
starred i [] = []
starred zero (t ∷ s) = t* ∷ s
starred (suc i) (t ∷ s) = t ∷ starred i s

-- y with the opposite of v at position i.
unfoldable pub opposed : ℕ → Trits → Trits → Trits
opposed i v [] = []
opposed i [] (t ∷ y) = t ∷ y
opposed zero (u ∷ v) (t ∷ y) = flip u ∷ y
opposed (suc i) (u ∷ v) (t ∷ y) = t ∷ opposed i v y

-- ---- Strings of sets of variables

-- 1 at position i and `*` elsewhere.
unfoldable pub one_at : ℕ → ℕ → Trits
one_at zero i = []
one_at (suc l) zero = t1 ∷ stars l
one_at (suc l) (suc i) = t* ∷ one_at l i

-- 0 at a named variable and `*` elsewhere.
abbrev pub zero_if : Bool → Trit
zero_if true = t0
zero_if false = t*

-- 0 at all variables of the set and `*` elsewhere.
unfoldable pub zeros : Bits → Trits
zeros m = map zero_if m

module _ {A : Type 0} where
  -- f at each position from i on, n of them, rising, where p holds.
  unfoldable pub rising : (ℕ → Bool) → (ℕ → A) → ℕ → ℕ → List A
  rising p f i zero = []
  rising p f i (suc n) = cond (p i) (f i ∷ rising p f (suc i) n) (rising p f (suc i) n)

-- For each variable of the set, rising, the string with 1 there and `*` elsewhere.
unfoldable pub ones : Bits → List Trits
ones m = rising (λ i. get_or m i false) (one_at (length m)) 0 (length m)

-- What is left of y without v (in the field: the sharp operation): for each position rising where y is `*` and v is fixed, y
-- with the opposite of v there.
unfoldable pub pieces : Trits → Trits → List Trits
pieces y v = rising (λ i. not (fixed i y) && fixed i v) (λ i. opposed i v y) 0 (length y)
