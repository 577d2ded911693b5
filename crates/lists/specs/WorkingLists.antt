-- Working lists: one array of 256 words and a count; what they hold, and what they are grown to.
use Rattle.std.specs.Prelude.{◌≡◌, false, List, [], ℕ, ◌≤◌, ◌<◌, length, get_or, Option as CodeOption, Some, None}
use Rattle.std.proofs.Math.Option.{Option, some, none}
use Rattle.model.specs.Strings.{Trits}
use Rattle.model.specs.Growth.{Entries, limit}
use Rattle.model.specs.Tables.{Good}
use Rattle.words.specs.Words.{word, subsumes_word}

-- The array and the count n hold τ, a good list of strings of l positions, which are at most 32; nothing is said of what is
-- past the count.
pub record Holds (l : ℕ) (list : List ℕ) (n : ℕ) (τ : Entries) : Type 0 where
  pub here : (i : ℕ) → i < n → get_or list i 0 ≡ word (get_or τ i [])
  pub room : length list ≡ limit
  pub count : n ≡ length τ
  pub good : Good l τ
  pub short : l ≤ 32

-- The slice has the words of τ, a good list of strings of l positions, which are at most 32, and no more.
pub record WordsOf (l : ℕ) (list : List ℕ) (τ : Entries) : Type 0 where
  pub here : (i : ℕ) → i < length list → get_or list i 0 ≡ word (get_or τ i [])
  pub count : length list ≡ length τ
  pub good : Good l τ
  pub short : l ≤ 32

-- P of any list of strings of l positions whose words the slice has, and any string whose word is y.
abbrev pub OfWords : (l : ℕ) (list : List ℕ) → ℕ → (Entries → Trits → Type 0) → Type 0
OfWords l list y P = (τ : Entries) (s : Trits) → WordsOf l list τ → length s ≡ l → y ≡ word s → P τ s

-- P of any list of strings of l positions that the array holds, and any string whose word is y.
abbrev pub OfString : (l : ℕ) (list : List ℕ) (n : ℕ) → ℕ → (Entries → Trits → Type 0) → Type 0
OfString l list n y P = (τ : Entries) (s : Trits) → Holds l list n τ → length s ≡ l → y ≡ word s → P τ s

-- The new count of a list, or full: it needs entry 257. In the code that is an `Option<usize>`.
abbrev pub Grown : Type 0
Grown = CodeOption ℕ

pattern abbrev pub Count : ℕ → Grown
Count n = Some n

pattern abbrev pub Full : Grown
Full = None

-- A count that was answered is within the limit.
abbrev pub Within : Grown → Type 0
Within (Count n) = n ≤ limit
Within Full = Unit {0}

-- What a call makes and answers, by what it was to compute: the list and its count; or full, with nothing said of the array.
pub data Makes (l : ℕ) (list : List ℕ) : Grown → Option Entries → Type 0 where
  makes : {n : ℕ} {τ : Entries} → Holds l list n τ → Makes l list (Count n) (some τ)
  stops : Makes l list Full none

-- y subsumes none of the entries before index r.
abbrev pub Free : List ℕ → ℕ → ℕ → Type 0
Free list y r = (i : ℕ) → i < r → subsumes_word y (get_or list i 0) ≡ false
