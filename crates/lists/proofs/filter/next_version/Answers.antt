-- A slot says the same of the list with one string appended and the version risen by one (`filter_next`); a filter filled
-- anew is good for any list (`filter_start`).
use mathlib.Core.List.{[], ◌∷◌, ◌++◌}
use native.Mathlib.Omega.{arith}
use Rattle.model.specs.Growth.{remove}
use Rattle.lists.proofs.Absorption.{filter_start, filter_next}
use Rattle.lists.proofs.filter.next_version.Goals as goal

pub returns-then-version-lt-LOW : goal.returns-then-version-lt-LOW
returns-then-version-lt-LOW c = λ τ e f. filter_next f (omega arith) e

pub returns : goal.returns
returns c = λ τ e f. filter_start (remove e τ ++ (e ∷ [])) (omega arith) c.zero-seen.ensures.words
