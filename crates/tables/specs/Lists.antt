-- How two arrays of 256 words and a count store a list of strings.
use Rattle.std.specs.Prelude.{◌≡◌, Bool, false, ◌||◌, List, [], ◌∷◌, ◌++◌, map, ℕ, zero, suc, ◌-◌, length, take, replicate}
use Rattle.model.specs.Strings.{Trits}
use Rattle.model.specs.Growth.{Entries, limit}
use Rattle.model.specs.Tables.{Good}
use Rattle.words.specs.declared.Entry.{Entry}
use Rattle.words.specs.Words.{entry, string}

-- Care and value word both 0.
abbrev pub zero_entry : Entry
zero_entry = record { care = 0; value = 0 }

-- The words, with zeros up to 256.
unfoldable pub padded : List Entry → List Entry
padded ws = ws ++ replicate (limit - length ws) zero_entry

-- The words of a list of strings, with zeros up to 256.
unfoldable pub list_words : Entries → List Entry
list_words τ = padded (map entry τ)

-- The two arrays have the care and the value words of ws.
pub record Arrays (care value : List ℕ) (ws : List Entry) : Type 0 where
  pub cares : care ≡ map (λ (e : Entry). e.care) ws
  pub values : value ≡ map (λ (e : Entry). e.value) ws

-- The arrays and the count n store τ, a good list of strings of l positions; past the count the arrays are zero.
pub record Stores (l : ℕ) (care value : List ℕ) (n : ℕ) (τ : Entries) : Type 0 where
  pub arrays : Arrays care value (list_words τ)
  pub count : n ≡ length τ
  pub good : Good l τ

-- The words at each index of two arrays.
unfoldable pub pairs : List ℕ → List ℕ → List Entry
pairs [] vs = []
pairs (c ∷ cs) [] = []
pairs (c ∷ cs) (v ∷ vs) = record { care = c; value = v } ∷ pairs cs vs

-- The strings of l positions that the first n entries of two arrays stand for.
unfoldable pub strings : ℕ → List ℕ → List ℕ → ℕ → Entries
strings l care value n = map (string l) (take n (pairs care value))

-- Some entry passes the test.
unfoldable pub any : (Trits → Bool) → Entries → Bool
any p [] = false
any p (s ∷ τ) = p s || any p τ

-- The test holds of one of the n indexes from i on.
unfoldable pub some_from : ℕ → ℕ → (ℕ → Bool) → Bool
some_from i zero p = false
some_from i (suc n) p = p i || some_from (suc i) n p
