-- Its three parts one after another, full where one of them is (`makes_then`, `stops_then`).
use native.Mathlib.Omega.{arith}
use Rattle.model.specs.Growth.{◌>>=◌}
use Rattle.model.specs.Tables.{relevant}
use Rattle.lists.proofs.Holding.{within_count}
use Rattle.lists.proofs.BindLaws.{makes_then, stops_then}
use Rattle.procedures.specs.Parts.{closed_cross, positive_closed_cross}
use Rattle.procedures.proofs.equations.positive_closed_cross.Goals as goal

pub closed_cross-requires : goal.closed_cross-requires
closed_cross-requires c = (
  within_count c.relevant_by_entry.ensures.within c.in_ok-an.was,
  within_count c.relevant_by_entry-2.ensures.within c.in_ok-bn.was,
  omega arith,
)

pub returns : goal.returns
unfolding positive_closed_cross
returns c =
    record {
      within = c.closed_cross.ensures.within;
      made = λ τ x t h ex et ix it.
          makes_then (c.relevant_by_entry.ensures.made τ x h ex ix) (λ A. relevant t τ >>= closed_cross A) c.in_ok-an.was
          (λ A p.
          makes_then (c.relevant_by_entry-2.ensures.made τ t h et it) (closed_cross A) c.in_ok-bn.was
          (λ B q. c.closed_cross.ensures.made A B p q));
    }

pub returns-in_err-bn : goal.returns-in_err-bn
unfolding positive_closed_cross
returns-in_err-bn c =
    rw c.from_residual-in_err-bn.ensures (record {
      within = tt;
      made = λ τ x t h ex et ix it.
          makes_then (c.relevant_by_entry.ensures.made τ x h ex ix) (λ A. relevant t τ >>= closed_cross A) c.in_ok-an.was
          (λ A p. stops_then (c.relevant_by_entry-2.ensures.made τ t h et it) (closed_cross A) c.in_err-bn.was);
    })

pub returns-in_err-an : goal.returns-in_err-an
unfolding positive_closed_cross
returns-in_err-an c =
    rw c.from_residual.ensures (record {
      within = tt;
      made = λ τ x t h ex et ix it.
          stops_then (c.relevant_by_entry.ensures.made τ x h ex ix) (λ A. relevant t τ >>= closed_cross A)
          c.in_err-an.was;
    })
