-- Reasons behind groups (02, request 7), by computing the definition. The table is 100 01* 0*1, the parish register of the
-- README, and the equation X1 = f(X2): the group of all three is joined from entries 0 and 1. On 100 010 001 it is not made up,
-- since no group with X1 or X2 has X3. Assumes nothing.
use mathlib.Core.Path.{◌≡◌, refl}
use mathlib.Core.Bool.{true, false}
use mathlib.Core.List.{[], ◌∷◌}
use Rattle.model.specs.Groups.{Bits}
use Rattle.model.specs.Strings.{t0, t1, t*}
use Rattle.model.specs.Growth.{Entries}
use Rattle.model.specs.Terms.{var, head, nil, cons}
use Rattle.model.specs.Equations.{Equation}
use Rattle.model.specs.Questions.{every, every_group}
use Rattle.model.specs.Reasons.{some_group, inside, touches, covers_inside, next, lowest, together, made_up}
use Rattle.model.proofs.Computing.{strings, growth, equations}
use Rattle.reasons.specs.declared.Reason.TheVariants.{NoXEntry, NoTEntry, NotMadeUp, NotThere, NoSolution}
use Rattle.reasons.specs.Verdicts.{Kept, Joined, Absent}
use Rattle.reasons.specs.Verdicts.{untouched, joins, touched, verdict_of_sets, verdict_of_kind, verdict}

-- The register before the rule.
abbrev pub register : Entries
register = (t1 ∷ t0 ∷ t0 ∷ []) ∷ (t0 ∷ t1 ∷ t* ∷ []) ∷ (t0 ∷ t* ∷ t1 ∷ []) ∷ []

-- Three variables that share nothing.
abbrev pub singles : Entries
singles = (t1 ∷ t0 ∷ t0 ∷ []) ∷ (t0 ∷ t1 ∷ t0 ∷ []) ∷ (t0 ∷ t0 ∷ t1 ∷ []) ∷ []

-- X1 = f(X2).
abbrev pub dated : Equation
dated = record { left = 1; right = head 1 (cons (var 2) nil) }

-- X1 = X1.
abbrev pub self : Equation
self = record { left = 1; right = var 1 }

-- X1 = f(X1).
abbrev pub deeper : Equation
deeper = record { left = 1; right = head 1 (cons (var 1) nil) }

-- The group of all three variables.
abbrev pub all : Bits
all = true ∷ true ∷ true ∷ []

-- The group of X3 alone.
abbrev pub third : Bits
third = false ∷ false ∷ true ∷ []

-- ---- Verdicts

unfoldable reasons : Unit {0}
unfolding every every_group some_group inside touches covers_inside next lowest together made_up untouched joins touched
reasons = tt

unfoldable computed : Unit {0}
unfolding strings growth equations reasons verdict_of_sets verdict_of_kind verdict
computed = tt

-- All three after X1 = f(X2): joined, from the entries 100 and 01*.
pub joined : verdict 3 dated register all ≡ Joined 0 1
unfolding computed
joined = refl

-- X3 alone: kept.
pub kept : verdict 3 dated register third ≡ Kept
unfolding computed
kept = refl

-- X2 and X3: no group inside them has X1.
pub no_x : verdict 3 dated register (false ∷ true ∷ true ∷ []) ≡ Absent NoXEntry
unfolding computed
no_x = refl

-- X1 and X3: no group inside them has X2.
pub no_t : verdict 3 dated register (true ∷ false ∷ true ∷ []) ≡ Absent NoTEntry
unfolding computed
no_t = refl

-- All three where nothing shares: X3 is in no group with X1 or X2.
pub not_made_up : verdict 3 dated singles all ≡ Absent NotMadeUp
unfolding computed
not_made_up = refl

-- All three after X1 = X1: not there, as before.
pub not_there : verdict 3 self register all ≡ Absent NotThere
unfolding computed
not_there = refl

-- X3 after X1 = f(X1), which no finite term solves.
pub no_solution : verdict 3 deeper register third ≡ Absent NoSolution
unfolding computed
no_solution = refl
