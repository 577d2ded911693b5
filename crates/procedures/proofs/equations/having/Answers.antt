-- Growth by one string and then change of side, full where one of them is (`makes_then`, `stops_then`).
use mathlib.Core.Path.{◌∙◌}
use native.Mathlib.Omega.{arith}
use Rattle.model.specs.Strings.{zeros}
use Rattle.model.specs.Tables.{change_side}
use Rattle.model.proofs.Candidates.{zeros_length}
use Rattle.lists.proofs.Holding.{within_count}
use Rattle.lists.proofs.BindLaws.{makes_then, stops_then}
use Rattle.procedures.specs.Parts.{having_set}
use Rattle.candidates.proofs.Sets.{zeros_shl}
use Rattle.procedures.proofs.equations.having.Goals as goal

pub change_side_lent-requires : goal.change_side_lent-requires
change_side_lent-requires c =
    (within_count c.grow.ensures.within c.in_ok-n.was, omega arith)

pub returns : goal.returns
unfolding having_set
returns c =
    let small = c.ranges.m.fits in record {
      within = c.change_side_lent.ensures.within;
      made = λ τ k h e is.
          makes_then (c.grow.ensures.made τ (zeros k) h (zeros_length k ∙ e) (zeros_shl k small is)) (change_side _)
          c.in_ok-n.was c.change_side_lent.ensures.made;
    }

pub returns-in_err-n : goal.returns-in_err-n
unfolding having_set
returns-in_err-n c =
    let small = c.ranges.m.fits in rw c.from_residual.ensures (record {
      within = tt;
      made = λ τ k h e is.
          stops_then (c.grow.ensures.made τ (zeros k) h (zeros_length k ∙ e) (zeros_shl k small is)) (change_side _)
          c.in_err-n.was;
    })
