-- `covered` meets its contract, by recursion: each piece has one position more fixed, and so has the narrowed string where
-- it is another, so that its word is greater. The loop's invariant is `Left`: all groups of the string are covered exactly
-- if those of what is left of it are.
use mathlib.Core.List.{[]}
use Prim.Native.Nat.{◌≤◌, ◌-◌, ◌^◌}
use lib.ListN.{get_or}
use Rattle.lists.specs.WorkingLists.{OfWords}
use Rattle.covering.proofs.Pieces.{Left}
use Rattle.covering.proofs.cover.+covered.Given as goal

abbrev pub decreases-covered : goal.decreases-covered
decreases-covered l = 2 ^ 64 - l.y

abbrev pub invariant-loop-i : goal.invariant-loop-i
invariant-loop-i l = (l.y ≤ l.z)
    × OfWords l.l l.list l.y (λ τ s. Left l.l l.i τ (get_or τ l.at []) s l.z)
