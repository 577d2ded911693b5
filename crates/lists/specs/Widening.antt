-- What widening a string against a working list looks at, and where that stands.
use Rattle.std.specs.Prelude.{◌≡◌, Bool, true, false, cond, List, [], ◌∷◌, ◌⊎◌, ℕ, ◌+◌, ◌≤◌, ◌<◌, T, length, get_or}
use Rattle.model.specs.Groups.{Bits, or}
use Rattle.model.specs.Strings.{Trits, subsumes, fixed, flipped}
use Rattle.model.specs.Growth.{Entries, subsumed, widen, absorbed}
use Rattle.model.specs.Tables.{Wide}
use Rattle.model.specs.Widest.{EntryOf}
use Rattle.tables.specs.Lists.{some_from}
use Rattle.words.specs.Words.{word, zero_word, near, openings, shade_word, has, fixed_word, subsumes_word, lone_lack}
use Rattle.words.specs.Words.{if_over, set_word}
use Rattle.lists.specs.declared.widening.Standing.{Standing}
use Rattle.lists.specs.declared.widening.Standing.TheVariants.{Absorbed, Stays, Open}
use Rattle.lists.specs.WorkingLists.{Holds}

-- The entries that lack at most one position of y, in order.
unfoldable pub near_list : Entries → Trits → Entries
near_list [] y = []
near_list (e ∷ τ) y = cond (near e y) (e ∷ near_list τ y) (near_list τ y)

-- The positions of y that some entry opens: those fixed positions at which y with that value flipped is subsumed by one entry.
unfoldable pub open_set : Entries → Trits → Bits
open_set [] y = []
open_set (e ∷ τ) y = or (openings e y) (open_set τ y)

-- The upper half of an array begins at index 128.
abbrev pub half : ℕ
half = 128

-- The k words from index 128 on are those that f makes of the strings of ν.
pub record Gathered (f : Trits → ℕ) (list : List ℕ) (k : ℕ) (ν : Entries) : Type 0 where
  pub here : (i : ℕ) → i < k → get_or list (half + i) 0 ≡ f (get_or ν i [])
  pub count : k ≡ length ν

-- They are the shades, for s, of the strings of ν.
abbrev pub Shaded : Trits → List ℕ → ℕ → Entries → Type 0
Shaded s = Gathered (λ e. shade_word (word e) (word s))

-- The array holds τ, and, if it has at most 128 entries, from index 128 on the shades of those near s.
pub record Ready (l : ℕ) (list : List ℕ) (n k : ℕ) (τ : Entries) (s : Trits) : Type 0 where
  pub held : Holds l list n τ
  pub shades : n ≤ half → Shaded s list k (near_list τ s)
  pub long : length s ≡ l

-- P where y is the word of s and z that of t, which is s with some positions made `*`, all as long as the entries of τ.
abbrev pub OfWidened : (y z : ℕ) → Entries → (s t : Trits) → Type 0 → Type 0
OfWidened y z τ s t P =
    y ≡ word s → z ≡ word t → Wide (length s) τ → length s ≤ 32 → length t ≡ length s → subsumes t s ≡ true → P

-- Every position that p fixes, as a word, q fixes too.
abbrev pub FixedIn : ℕ → ℕ → Type 0
FixedIn p q = (i : ℕ) → T (has i (fixed_word p)) → T (has i (fixed_word q))

-- What a scan of n entries for y finds: of each entry `lacks` has the bit that y lacks alone, `over` has the bits of those that
-- subsume y, and `found` is whether there is one.
pub record Scanned (list : List ℕ) (n y lacks over : ℕ) (found : Bool) : Type 0 where
  pub lacking : (m : ℕ) → m < n → FixedIn (lone_lack (get_or list m 0) y) lacks
  pub holding : (m : ℕ) → m < n → FixedIn (if_over (get_or list m 0) y) over
  pub some : found ≡ some_from 0 n (λ i. subsumes_word (get_or list i 0) y)

-- The entries that `guards` holds of guard s: each subsumes s, there is one, and where an entry that is none of them opens a
-- position of s they all leave it open. So one of them subsumes what s is widened to.
pub record Guarded (τ : Entries) (s : Trits) : Type 0 where
  pub guards : Trits → Bool
  pub over : (d : Trits) → EntryOf τ d → T (guards d) → T (subsumes d s)
  pub one : (d : Trits) × EntryOf τ d × T (guards d)
  pub shut : (e : Trits) (i : ℕ) → EntryOf τ e → T (fixed i s) → T (subsumes e (flipped i s))
      → T (guards e) ⊎ ((d : Trits) → EntryOf τ d → T (guards d) → T (subsumes d (flipped i s)))

-- No entry subsumes s, and none opens a position of it.
abbrev pub Untouched : Entries → Trits → Type 0
Untouched τ s = (subsumed τ s ≡ false) × ((i : ℕ) → T (fixed i s) → ¬ (T (subsumed τ (flipped i s))))

-- What a survey says of s: growing by it changes nothing; it comes in as it is; or nothing.
abbrev pub Surveyed : Entries → Trits → Standing → Type 0
Surveyed τ s Absorbed = Guarded τ s
Surveyed τ s Stays = Untouched τ s
Surveyed τ s Open = Unit {0}

-- Every entry that opens a position of s subsumes s: none that is opposed to s at one position alone.
unfoldable pub Unedged : Entries → Trits → Type 0
Unedged [] s = Unit {0}
Unedged (e ∷ τ) s = (subsumes e s ≡ false → set_word (openings e s) ≡ 0) × Unedged τ s

-- The word of s widened, or that of the all-zero string of l positions where growing by s changes nothing.
unfoldable pub fresh_word : ℕ → Entries → Trits → ℕ
fresh_word l τ s = cond (absorbed τ s) (zero_word l) (word (widen τ s))
