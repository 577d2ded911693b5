-- The rows a to j of 01, "Marked for proof", computed by the checker. Assumes nothing.
use mathlib.Core.Path.{◌≡◌, refl}
use mathlib.Core.List.{[]}
use mathlib.Core.Option.{some}
use Prim.Native.Nat.{ℕ}
use Rattle.model.specs.Tables.{positive}
use Rattle.model.specs.Equations.{Equation, Kind, itself, deeper, plain, kind, equation_of_kind}
use Rattle.model.specs.Questions.{every, every_group, stands_for, equal, ground}
use Rattle.model.specs.Marked.{Holds, All, marked}
use Rattle.model.proofs.Computing.{procedures}

-- row j, for an equation of any kind
no_entries : (k : Kind) (l : ℕ) (e : Equation) → equation_of_kind k positive l e [] ≡ some []
unfolding procedures
no_entries itself l e = refl
no_entries deeper l e = refl
no_entries plain l e = refl

pub marked_rows : All marked
unfolding procedures every every_group stands_for equal ground Holds All marked
marked_rows = (refl, (refl, (refl, (refl, (refl, (refl, (refl, (refl, (refl, (refl, (refl, (λ l e. no_entries (kind e) l e, tt))))))))))))
