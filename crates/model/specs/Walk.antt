-- The walk of two terms together (02, request 2): the equations found, in order, or a clash.
use Rattle.std.specs.Prelude.{◌&&◌, cond, List, [], ◌∷◌, ◌++◌, eqb}
use Rattle.std.proofs.Math.Option.{Option, some, none}
use Rattle.model.specs.Growth.{◌>>=◌}
use Rattle.model.specs.Terms.{Term, Terms, var, head, nil, cons, arity}
use Rattle.model.specs.Equations.{Equation}

-- The two sides of an equation of terms. An equation x = t is one whose left side is the variable x.
pub record Sides : Type 0 where
  pub left : Term
  pub right : Term

-- What a walk finds: the equations in order, or none where there is a clash.
abbrev pub Walked : Type 0
Walked = Option (List Equation)

-- One walk and then another: a clash in either is a clash.
unfoldable pub both : Walked → Walked → Walked
both o p = do
  es ← o
  fs ← p
  some (es ++ fs)

-- A variable on the left makes an equation with the term across; else a variable on the right does. Equal symbol and arity
-- goes down, arguments left to right; anything else is a clash.
unfoldable mutual
  pub walk : Term → Term → Walked
  walk (var x) t = some (record { left = x; right = t } ∷ [])
  walk (head f ss) (var y) = some (record { left = y; right = head f ss } ∷ [])
  walk (head f ss) (head g ts) = cond (eqb f g && eqb (arity ss) (arity ts)) (walk_row ss ts) none

  pub walk_row : Terms → Terms → Walked
  walk_row nil nil = some []
  walk_row nil (cons t ts) = none
  walk_row (cons s ss) nil = none
  walk_row (cons s ss) (cons t ts) = both (walk s t) (walk_row ss ts)

-- The walk of the two sides of an equation of terms.
abbrev pub walk_sides : Sides → Walked
walk_sides s = walk s.left s.right
