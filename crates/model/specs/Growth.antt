-- The growth rule (01, "The growth rule and what stands on it", with request 3 of 02). A procedure gives a list, or nothing
-- where entry 257 is needed.
use Rattle.std.specs.Prelude.{◌≡◌, Bool, false, ◌&&◌, ◌||◌, cond, List, [], ◌∷◌, ◌++◌, map, ℕ, zero, suc, ◌≤◌, T, ltb, length}
use Rattle.std.proofs.Math.Option.{Option, some, none}
use Rattle.model.specs.Groups.{Bits}
use Rattle.model.specs.Strings.{Trits, covers, subsumes, all_zero, exactly, fixed, fixed_count, flipped, starred}

module _ {A B : Type 0} where
  infixl 20 ◌>>=◌
  -- Go on with what was given; nothing stays nothing.
  unfoldable pub ◌>>=◌ : Option A → (A → Option B) → Option B
  none >>= k = none
  some a >>= k = k a

module _ {S X : Type 0} where
  -- The step for each x in turn; it stops at nothing.
  unfoldable pub fold : (S → X → Option S) → S → List X → Option S
  fold step s [] = some s
  fold step s (x ∷ xs) = step s x >>= λ t. fold step t xs

-- The entries of a table, in order.
abbrev pub Entries : Type 0
Entries = List Trits

-- A table has 0 to 256 entries.
abbrev pub limit : ℕ
limit = 256

-- Some entry covers g.
unfoldable pub covered : Entries → Bits → Bool
covered [] g = false
covered (s ∷ τ) g = covers s g || covered τ g

-- Some entry subsumes y.
unfoldable pub subsumed : Entries → Trits → Bool
subsumed [] y = false
subsumed (s ∷ τ) y = subsumes s y || subsumed τ y

-- The list without the entries that y subsumes.
unfoldable pub remove : Trits → Entries → Entries
remove y [] = []
remove y (s ∷ τ) = cond (subsumes y s) (remove y τ) (s ∷ remove y τ)

-- The list with y appended, or nothing where that needs entry 257.
unfoldable pub append : Entries → Trits → Option Entries
append τ y = cond (ltb (length τ) limit) (some (τ ++ (y ∷ []))) none

-- One position of Widen: while more than one position is fixed, if the position is fixed and y with that value flipped is
-- subsumed by one entry, the position becomes `*`.
unfoldable pub widen_at : Entries → ℕ → Trits → Trits
widen_at τ i y = cond (ltb 1 (fixed_count y) && fixed i y && subsumed τ (flipped i y)) (starred i y) y

-- The n positions from i on in turn.
unfoldable pub widen_from : Entries → ℕ → ℕ → Trits → Trits
widen_from τ i zero y = y
widen_from τ i (suc n) y = widen_from τ (suc i) n (widen_at τ i y)

-- Widen y against a list, for positions 1 to l in turn. (In the field: expansion of a cube against a cover; not the
-- widening operator of abstract interpretation.)
unfoldable pub widen : Entries → Trits → Trits
widen τ y = widen_from τ 0 (length y) y

-- Growing by y changes nothing: y is all zero, or an entry subsumes it once it is widened.
unfoldable pub absorbed : Entries → Trits → Bool
absorbed τ y = all_zero y || subsumed τ (widen τ y)

-- Grow a list by y: an all-zero y changes nothing. Any other is widened; then, if an entry subsumes it, it changes nothing;
-- else remove all entries that it subsumes and append it. (In the field: insertion of an expanded cube with absorption.)
unfoldable pub grow : Entries → Trits → Option Entries
grow τ y = cond (absorbed τ y) (some τ) (append (remove (widen τ y) τ) (widen τ y))

-- Grow by each string in turn.
unfoldable pub grow_all : Entries → List Trits → Option Entries
grow_all τ ys = fold grow τ ys

-- Growing τ by y needs entry 257: once widened, y is to be appended to 256 entries or more.
abbrev pub Full : Entries → Trits → Type 0
Full τ y = ¬ (T (absorbed τ y)) × (limit ≤ length (remove (widen τ y) τ))

module _ {S X : Type 0} where
  -- Some x of xs, in the state that those before it lead to, is one of which F holds.
  pub record Meets (F : S → X → Type 0) (step : S → X → Option S) (s : S) (xs : List X) : Type 0 where
    pub before : List X
    pub x : X
    pub after : List X
    pub state : S
    pub is : xs ≡ before ++ (x ∷ after)
    pub reached : fold step s before ≡ some state
    pub full : F state x

-- Growing τ by ys needs entry 257: growing by some y of ys does, in the list that those before it lead to.
abbrev pub Overflows : Entries → List Trits → Type 0
Overflows = Meets Full grow

-- Convert groups, in the given order, from the empty list; growing skips a zero string and widens any other.
unfoldable pub convert : List Bits → Option Entries
convert gs = grow_all [] (map exactly gs)

-- ---- What a grown list is

-- Neither s nor an entry of the list subsumes the other.
unfoldable pub Apart : Trits → Entries → Type 0
Apart s [] = Unit {0}
Apart s (r ∷ τ) = (¬ (T (subsumes s r)) × ¬ (T (subsumes r s))) × Apart s τ

-- No entry that another subsumes, and none all zero.
unfoldable pub Irredundant : Entries → Type 0
Irredundant [] = Unit {0}
Irredundant (s ∷ τ) = ¬ (T (all_zero s)) × Apart s τ × Irredundant τ

-- Each string of the second list is stable against those of the first and those before it: widening it against them changes
-- nothing.
unfoldable pub Stable : Entries → Entries → Type 0
Stable τ [] = Unit {0}
Stable τ (y ∷ ys) = (widen τ y ≡ y) × Stable (τ ++ (y ∷ [])) ys

-- A grown list: no entry subsumes another, none is all zero, and each is stable against those before it. It is one that
-- growing from empty by its own entries gives back (`regrown_exact` of Shape).
pub record Reduced (τ : Entries) : Type 0 where
  pub irredundant : Irredundant τ
  pub stable : Stable [] τ
