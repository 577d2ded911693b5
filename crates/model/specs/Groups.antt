-- Groups of program variables and the binary definitions of Jacobs and Langen (01, "Binary definitions"; 002, 2.2 to 2.7).
-- A set of groups is the statement that a string is one of them. A shorter string counts as followed by zeros.
use Rattle.std.specs.Prelude.{◌≡◌, Bool, true, false, ◌&&◌, ◌||◌, List, [], ◌∷◌, ◌⊎◌, ℕ, zero, suc, T, length, get_or}

-- A string of 0 and 1, X1 first.
abbrev pub Bits : Type 0
Bits = List Bool

-- A set of strings of 0 and 1.
abbrev pub Groups : Type 1
Groups = Bits → Type 0

-- At least one 1.
unfoldable pub nonzero : Bits → Bool
nonzero [] = false
nonzero (b ∷ g) = b || nonzero g

-- A group: a string of 0 and 1 of l positions with at least one 1.
abbrev pub Group : ℕ → Groups
Group l g = (length g ≡ l) × T (nonzero g)

-- The group has the variable numbered x, from 1.
unfoldable pub has : Bits → ℕ → Bool
has g zero = false
has g (suc i) = get_or g i false

-- The group has some variable of the set m.
unfoldable pub meets : Bits → Bits → Bool
meets [] g = false
meets (a ∷ m) [] = false
meets (a ∷ m) (b ∷ g) = a && b || meets m g

-- "Or" of two strings of 0 and 1.
unfoldable pub or : Bits → Bits → Bits
or [] h = h
or (a ∷ g) [] = a ∷ g
or (a ∷ g) (b ∷ h) = (a || b) ∷ or g h

-- Every "or" of one or more strings of P (star-union, the closure under union).
pub data Ors (P : Groups) : Bits → Type 0 where
  one : {g : Bits} → P g → Ors P g
  more : {g h : Bits} → P g → Ors P h → Ors P (or g h)

-- An a-or-b with a in A and b in B (cross-union).
pub record AOrB (A B : Groups) (g : Bits) : Type 0 where
  pub a : Bits
  pub b : Bits
  pub in_a : A a
  pub in_b : B b
  pub is : g ≡ or a b

-- The groups of S of which X holds.
abbrev pub Those : Groups → Groups → Groups
Those S X g = S g × X g

-- Equation x = t on the groups S (abstract unification), where X says that a group has x and Y that it has some variable of t:
-- the groups with neither, together with every "or" of one or more strings, each an a-or-b with a in A and b in B. Where t
-- holds x, `Equations.AfterKind` has another rule.
abbrev pub Equated : Groups → Groups → Groups → Groups
Equated X Y S g = (S g × ¬ (X g) × ¬ (Y g)) ⊎ Ors (AOrB (Those S X) (Those S Y)) g

module _ {A : Type 0} where
  -- The chosen positions, in rising order.
  unfoldable pub cut : Bits → List A → List A
  cut [] s = []
  cut (c ∷ k) [] = []
  cut (true ∷ k) (t ∷ s) = t ∷ cut k s
  cut (false ∷ k) (t ∷ s) = cut k s

-- Projection keeps chosen positions in rising order and drops the all-zero string.
abbrev pub Projected : Bits → Groups → Groups
Projected k S h = T (nonzero h) × ((g : Bits) × S g × h ≡ cut k g)

-- Join is union.
abbrev pub Joined : Groups → Groups → Groups
Joined S R g = S g ⊎ R g

-- The string is one of the row.
unfoldable pub Among : List Bits → Groups
Among [] g = ⊥
Among (h ∷ gs) g = (g ≡ h) ⊎ Among gs g

-- Convert: the groups among the strings of the row.
abbrev pub Listed : ℕ → List Bits → Groups
Listed l gs g = Group l g × Among gs g
