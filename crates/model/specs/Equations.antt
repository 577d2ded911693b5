-- An equation x = t: its kind, its binary definition and its procedure on either side (01; 02, request 6).
use Rattle.std.specs.Prelude.{cond, ℕ, T}
use Rattle.std.proofs.Math.Option.{Option, some}
use Rattle.model.specs.Groups.{Groups, has, Equated}
use Rattle.model.specs.Growth.{Entries}
use Rattle.model.specs.Tables.{Side, no_groups, equation_of_sets}
use Rattle.model.specs.Terms.{Term, var, head, occurs, variables}

-- x = t.
pub record Equation : Type 0 where
  pub left : ℕ
  pub right : Term

-- How x stands in t: t is exactly x; it holds x deeper, so that no finite term solves the equation (the occurs check of
-- unification fails); or it does not hold x.
pub data Kind : Type 0 where
  itself deeper plain : Kind

-- A term that holds x is x itself, or has a head and holds it deeper.
unfoldable pub holding : Term → Kind
holding (var y) = itself
holding (head f ts) = deeper

-- The kind of x = t.
unfoldable pub kind : Equation → Kind
kind e = cond (occurs e.left e.right) (holding e.right) plain

-- ---- Groups

-- The groups with x.
abbrev pub WithVariable : ℕ → Groups
WithVariable x g = T (has g x)

-- The groups with some variable of t.
abbrev pub WithSome : Term → Groups
WithSome t g = (y : ℕ) × T (occurs y t) × T (has g y)

-- The groups after an equation of a kind: x = x leaves those that there are; after a deeper one there are none.
unfoldable pub AfterKind : Kind → Equation → Groups → Groups
AfterKind itself e S g = S g
AfterKind deeper e S g = ⊥
AfterKind plain e S g = Equated (WithVariable e.left) (WithSome e.right) S g

-- The groups after an equation, by the binary definition.
abbrev pub After : Equation → Groups → Groups
After e S = AfterKind (kind e) e S

-- ---- Entries

-- The entries after an equation of a kind on a table of l variables: x = x leaves the table as given, a deeper one gives a
-- table that stands for no groups, and any other is done by the growth rule.
unfoldable pub equation_of_kind : Kind → Side → ℕ → Equation → Entries → Option Entries
equation_of_kind itself side l e τ = some τ
equation_of_kind deeper side l e τ = some (no_groups side l)
equation_of_kind plain side l e τ = equation_of_sets side l (variables l (var e.left)) (variables l e.right) τ

-- The entries after an equation.
unfoldable pub equation : Side → ℕ → Equation → Entries → Option Entries
equation side l e τ = equation_of_kind (kind e) side l e τ
