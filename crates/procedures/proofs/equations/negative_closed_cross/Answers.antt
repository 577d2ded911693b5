-- Its four parts one after another, full where one of them is (`makes_then`, `stops_then`).
use native.Mathlib.Omega.{arith}
use Rattle.model.specs.Growth.{◌>>=◌}
use Rattle.model.specs.Tables.{change_side}
use Rattle.lists.proofs.Holding.{within_count}
use Rattle.lists.proofs.BindLaws.{makes_then, stops_then}
use Rattle.procedures.specs.Parts.{closed_cross, having_set, negative_closed_cross}
use Rattle.procedures.proofs.equations.negative_closed_cross.Goals as goal

pub closed_cross-requires : goal.closed_cross-requires
closed_cross-requires c = (
  within_count c.having.ensures.within c.in_ok-an.was,
  within_count c.having-2.ensures.within c.in_ok-bn.was,
  omega arith,
)

pub change_side_lent-requires : goal.change_side_lent-requires
change_side_lent-requires c =
    (within_count c.closed_cross.ensures.within c.in_ok-n.was, c.requires.1)

pub returns : goal.returns
unfolding negative_closed_cross
returns c =
    record {
      within = c.change_side_lent.ensures.within;
      made = λ τ x t h ex et ix it.
          makes_then (c.having.ensures.made τ x h ex ix)
          (λ A. having_set _ t τ >>= λ B. closed_cross A B >>= change_side _) c.in_ok-an.was
          (λ A p.
          makes_then (c.having-2.ensures.made τ t h et it) (λ B. closed_cross A B >>= change_side _) c.in_ok-bn.was
          (λ B q.
          makes_then (c.closed_cross.ensures.made A B p q) (change_side _) c.in_ok-n.was
          c.change_side_lent.ensures.made));
    }

pub returns-in_err-n : goal.returns-in_err-n
unfolding negative_closed_cross
returns-in_err-n c =
    rw c.from_residual-in_err-n.ensures (record {
      within = tt;
      made = λ τ x t h ex et ix it.
          makes_then (c.having.ensures.made τ x h ex ix)
          (λ A. having_set _ t τ >>= λ B. closed_cross A B >>= change_side _) c.in_ok-an.was
          (λ A p.
          makes_then (c.having-2.ensures.made τ t h et it) (λ B. closed_cross A B >>= change_side _) c.in_ok-bn.was
          (λ B q. stops_then (c.closed_cross.ensures.made A B p q) (change_side _) c.in_err-n.was));
    })

pub returns-in_err-bn : goal.returns-in_err-bn
unfolding negative_closed_cross
returns-in_err-bn c =
    rw c.from_residual-in_err-bn.ensures (record {
      within = tt;
      made = λ τ x t h ex et ix it.
          makes_then (c.having.ensures.made τ x h ex ix)
          (λ A. having_set _ t τ >>= λ B. closed_cross A B >>= change_side _) c.in_ok-an.was
          (λ A p.
          stops_then (c.having-2.ensures.made τ t h et it) (λ B. closed_cross A B >>= change_side _)
          c.in_err-bn.was);
    })

pub returns-in_err-an : goal.returns-in_err-an
unfolding negative_closed_cross
returns-in_err-an c =
    rw c.from_residual.ensures (record {
      within = tt;
      made = λ τ x t h ex et ix it.
          stops_then (c.having.ensures.made τ x h ex ix)
          (λ A. having_set _ t τ >>= λ B. closed_cross A B >>= change_side _) c.in_err-an.was;
    })
