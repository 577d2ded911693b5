-- The two sides of a table and the procedures on them (01, "The growth rule and what stands on it").
use Rattle.std.specs.Prelude.{◌≡◌, cond, List, [], ◌∷◌, ◌++◌, map, ℕ, ◌≤◌, T, length}
use Rattle.std.proofs.Math.Option.{Option}
use Rattle.model.specs.Groups.{Bits, Groups, Group, or, cut}
use Rattle.model.specs.Strings.{Trits, matches, meet, or_strings, stars, zeros, ones, pieces}
use Rattle.model.specs.Growth.{◌>>=◌, fold, Entries, limit, covered, grow, grow_all}

-- A table is positive or negative.
pub data Side : Type 0 where
  positive negative : Side

-- The other side.
unfoldable pub opposite : Side → Side
opposite positive = negative
opposite negative = positive

-- Every entry has l positions.
unfoldable pub Wide : ℕ → Entries → Type 0
Wide l [] = Unit {0}
Wide l (s ∷ τ) = (length s ≡ l) × Wide l τ

-- A good table: 0 to 256 entries of l positions.
pub record Good (l : ℕ) (τ : Entries) : Type 0 where
  pub wide : Wide l τ
  pub few : length τ ≤ limit

-- A positive table stands for the groups that some entry covers, a negative table for the groups that no entry covers.
unfoldable pub groups : Side → ℕ → Entries → Groups
groups positive l τ g = Group l g × T (covered τ g)
groups negative l τ g = Group l g × ¬ (T (covered τ g))

-- The entries of a table that stands for no groups: none where it is positive, one all-star entry where it is negative.
unfoldable pub no_groups : Side → ℕ → Entries
no_groups positive l = []
no_groups negative l = stars l ∷ []

-- ---- Lists of candidates for growth

-- The meet of two strings, if they match.
unfoldable pub meet_if : Trits → Trits → List Trits
meet_if s r = cond (matches s r) (meet s r ∷ []) []

-- The meets of s with each string that it matches.
unfoldable pub meets_with : Trits → List Trits → List Trits
meets_with s [] = []
meets_with s (r ∷ ρ) = meet_if s r ++ meets_with s ρ

-- The meets of matching entries, the first's outermost.
unfoldable pub meets_of : Entries → List Trits → List Trits
meets_of [] ρ = []
meets_of (s ∷ τ) ρ = meets_with s ρ ++ meets_of τ ρ

-- "a or b" for each a, each b.
unfoldable pub ors : Entries → Entries → List Trits
ors [] β = []
ors (a ∷ α) β = map (or_strings a) β ++ ors α β

-- The entries that do not match v.
unfoldable pub unmatched : Trits → Entries → Entries
unmatched v [] = []
unmatched v (y ∷ τ) = cond (matches y v) (unmatched v τ) (y ∷ unmatched v τ)

-- The pieces of each entry that matches v, in order.
unfoldable pub pieces_of : Trits → Entries → List Trits
pieces_of v [] = []
pieces_of v (y ∷ τ) = cond (matches y v) (pieces y v ++ pieces_of v τ) (pieces_of v τ)

-- ---- Procedures

-- Relevant: for each entry, for each named variable rising, its meet with the string having 1 there and `*` elsewhere.
unfoldable pub relevant : Bits → Entries → Option Entries
relevant m τ = grow_all [] (meets_of τ (ones m))

-- Irrelevant: each entry's meet with the string having 0 at all named variables.
unfoldable pub irrelevant : Bits → Entries → Option Entries
irrelevant m τ = grow_all [] (meets_of τ (zeros m ∷ []))

-- Cross: for each a, each b, grow "a or b" (cross-union).
unfoldable pub cross : Entries → Entries → Option Entries
cross α β = grow_all [] (ors α β)

-- One c of Close: the list R grown by "r or c" for each r of R, then by c.
unfoldable pub close_with : Entries → Trits → Option Entries
close_with R c = grow_all R (ors R (c ∷ []) ++ (c ∷ []))

-- Close: for each c in turn (star-union: the closure under "or").
unfoldable pub close : Entries → Option Entries
close cs = fold close_with [] cs

-- One entry v of Change of side: the entries matching v are taken out; the others are grown by the pieces of these.
unfoldable pub take_away : Entries → Trits → Option Entries
take_away τ v = grow_all (unmatched v τ) (pieces_of v τ)

-- Change of side: start with one all-star entry, and take away each entry of the given table (complement of a cover).
unfoldable pub change_side : ℕ → Entries → Option Entries
change_side l τ = fold take_away (stars l ∷ []) τ

-- Equation, positive, for x alone in mx and t's variables in mt: the irrelevant entries, then those of the closed cross.
unfoldable pub positive_equation : Bits → Bits → Entries → Option Entries
positive_equation mx mt τ = do
  I ← irrelevant (or mx mt) τ
  A ← relevant mx τ
  B ← relevant mt τ
  C ← cross A B
  K ← close C
  grow_all I K

-- Equation, negative: P and Q hold what A and B leave out, C what the irrelevant groups leave out, K what the closed
-- cross leaves out.
unfoldable pub negative_equation : ℕ → Bits → Bits → Entries → Option Entries
negative_equation l mx mt τ = do
  P ← grow τ (zeros mx)
  Q ← grow τ (zeros mt)
  C ← grow_all τ (ones (or mx mt))
  A ← change_side l P
  B ← change_side l Q
  J ← cross A B
  R ← close J
  K ← change_side l R
  grow_all [] (meets_of C K)

-- Equation, for a set with x alone and the set of t's variables.
unfoldable pub equation_of_sets : Side → ℕ → Bits → Bits → Entries → Option Entries
equation_of_sets positive l mx mt τ = positive_equation mx mt τ
equation_of_sets negative l mx mt τ = negative_equation l mx mt τ

-- Join: positive, grow the first by the second's entries; negative, grow the meets of matching entries.
unfoldable pub join : Side → Entries → Entries → Option Entries
join positive τ ρ = grow_all τ ρ
join negative τ ρ = grow_all [] (meets_of τ ρ)

-- Projection, positive: cut each entry and grow.
unfoldable pub positive_projection : Bits → Entries → Option Entries
positive_projection k τ = grow_all [] (map (cut k) τ)

-- How many positions are kept.
unfoldable pub kept : Bits → ℕ
kept k = length (cut k k)

-- Projection of either side onto the set k; negative by way of positive.
unfoldable pub projection : Side → ℕ → Bits → Entries → Option Entries
projection positive l k τ = positive_projection k τ
projection negative l k τ = do
  P ← change_side l τ
  C ← positive_projection k P
  change_side (kept k) C
