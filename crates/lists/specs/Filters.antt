-- A filter: strings by which growing a list changed nothing, each as of a version of the list. Such a string still changes
-- nothing unless a string appended since then stirs it.
use Rattle.std.specs.Prelude.{◌≡◌, List, [], ◌++◌, ◌⊎◌, ℕ, ◌+◌, ◌≤◌, ◌<◌, T, length, get_or}
use Rattle.model.specs.Strings.{Trits, subsumes, all_zero}
use Rattle.model.specs.Growth.{Entries, subsumed, widen}
use Rattle.model.specs.Stirring.{stirs}
use Rattle.model.specs.Widest.{EntryOf}
use Rattle.words.specs.Words.{word, care_of, high, low}

-- Growing τ by s changes nothing: s is all zero, or it is widened to z and an entry subsumes that.
abbrev pub Idle : Entries → Trits → Trits → Type 0
Idle τ s z = T (all_zero s) ⊎ ((widen τ s ≡ z) × T (subsumed τ z))

-- No string of ν stirs s, which was widened to z.
abbrev pub Quiet : Entries → Trits → Trits → Type 0
Quiet ν s z = (e : Trits) → EntryOf ν e → ¬ (T (stirs e s z))

-- None of the entries from index j up to n stirs s, which was widened to z.
abbrev pub QuietFrom : Entries → (s z : Trits) → (j n : ℕ) → Type 0
QuietFrom τ s z j n = (i : ℕ) → j ≤ i → i < n → ¬ (T (stirs (get_or τ i []) s z))

-- What a slot says of its string s, for a list τ of version v: the high half of the word a has the positions that stay fixed
-- where s is widened, the low half the slot's version. The entries of τ appended since then are its last ones, and no more
-- than the versions since; where none of them stirs s, growing τ by s changes nothing.
pub record Noted (a v : ℕ) (τ : Entries) (s : Trits) : Type 0 where
  pub widened : Trits
  pub kept : high a ≡ care_of widened
  pub over : T (subsumes widened s)
  pub before : Entries
  pub since : Entries
  pub split : τ ≡ before ++ since
  pub few : low a + length since ≤ v
  pub still : Quiet since s widened → Idle τ s widened

-- The word w of a slot is that of a string of l positions.
pub record Slot (l w a v : ℕ) (τ : Entries) : Type 0 where
  pub string : Trits
  pub long : length string ≡ l
  pub is : w ≡ word string
  pub noted : Noted a v τ string

-- A filter has 512 slots, each a string and what is noted of it, and after these the version of the list.
abbrev pub slots : ℕ
slots = 512

-- So many words.
abbrev pub filter_size : ℕ
filter_size = 1025

-- The string of a slot.
abbrev pub string_at : List ℕ → ℕ → ℕ
string_at seen i = get_or seen i 0

-- What a slot has noted of its string.
abbrev pub note_at : List ℕ → ℕ → ℕ
note_at seen i = get_or seen (slots + i) 0

-- The version of the list stands after the slots.
abbrev pub version_index : ℕ
version_index = 1024

-- The version of the list, in the low half of its word.
abbrev pub version : List ℕ → ℕ
version seen = low (get_or seen version_index 0)

-- What each slot says holds of τ.
pub record Filters (l : ℕ) (seen : List ℕ) (τ : Entries) : Type 0 where
  pub room : length seen ≡ filter_size
  pub slot : (i : ℕ) → i < slots → Slot l (string_at seen i) (note_at seen i) (version seen) τ

-- Each word of the row from j up to r stands in some slot of the list's version.
abbrev pub Seen : List ℕ → List ℕ → ℕ → ℕ → Type 0
Seen row seen j r =
    (i : ℕ) → j ≤ i → i < r
    → (k : ℕ) × (k < slots) × (string_at seen k ≡ get_or row i 0) × (low (note_at seen k) ≡ version seen)
