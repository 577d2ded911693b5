-- Two terms set equal (02, request 2; abstract unification of two terms): the groups and the entries after their walk.
use Rattle.std.specs.Prelude.{List, [], ◌∷◌, ℕ}
use Rattle.std.proofs.Math.Option.{Option, some, none}
use Rattle.model.specs.Groups.{Groups}
use Rattle.model.specs.Growth.{fold, Entries}
use Rattle.model.specs.Tables.{Side, no_groups}
use Rattle.model.specs.Equations.{Equation, After, equation}
use Rattle.model.specs.Walk.{Sides, Walked, walk_sides}

-- ---- Groups

-- The groups after equations in order, each by the binary definition.
unfoldable pub AfterEach : List Equation → Groups → Groups
AfterEach [] S g = S g
AfterEach (e ∷ es) S g = AfterEach es (After e S) g

-- The groups after a walk: those of the found equations in order; none after a clash.
unfoldable pub AfterWalk : Walked → Groups → Groups
AfterWalk none S g = ⊥
AfterWalk (some es) S g = AfterEach es S g

-- The groups after two terms are set equal.
abbrev pub AfterSides : Sides → Groups → Groups
AfterSides s S = AfterWalk (walk_sides s) S

-- ---- Entries

-- The entries after one more equation.
abbrev pub next_equation : Side → ℕ → Entries → Equation → Option Entries
next_equation side l τ e = equation side l e τ

-- The entries after a walk, by the growth rule: those that the found equations give, applied in order. After a clash, which
-- is never full, those that stand for no groups.
unfoldable pub walk_entries : Side → ℕ → Walked → Entries → Option Entries
walk_entries side l none τ = some (no_groups side l)
walk_entries side l (some es) τ = fold (next_equation side l) τ es

-- The entries after two terms are set equal.
unfoldable pub unification : Side → ℕ → Sides → Entries → Option Entries
unification side l s τ = walk_entries side l (walk_sides s) τ
