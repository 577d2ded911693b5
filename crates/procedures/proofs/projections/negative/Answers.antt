-- Its three parts one after another, full where one is; the last width is the number of kept positions (`kept_ones`).
use mathlib.Core.Path.{ap, ◌∙◌}
use lib.Count.{ones, ones-le}
use Rattle.model.specs.Growth.{◌>>=◌}
use Rattle.model.specs.Tables.{change_side, kept, positive_projection, projection}
use Rattle.lists.proofs.Holding.{within_count}
use Rattle.lists.proofs.BindLaws.{makes_then, stops_then}
use Rattle.candidates.proofs.Sets.{kept_ones}
use Rattle.procedures.proofs.projections.negative.Goals as goal

pub positive-requires : goal.positive-requires
positive-requires c =
    within_count c.change_side_lent.ensures.within c.in_ok-n.was

pub change_side_lent-requires-2 : goal.change_side_lent-requires-2
change_side_lent-requires-2 c =
    (within_count c.positive.ensures.within c.in_ok-k.was, ones-le 32 _ c.ranges.keep.fits)

pub returns : goal.returns
unfolding projection
returns c =
    record {
      within = c.change_side_lent-2.ensures.within;
      made = λ k τ h e is.
          makes_then (c.change_side_lent.ensures.made τ h) (λ P. positive_projection k P >>= change_side (kept k))
          c.in_ok-n.was
          (λ P p.
          makes_then (c.positive.ensures.made k P (rw e p) is) (change_side (kept k)) c.in_ok-k.was
          (λ C q. rw (ap ones is ∙ kept_ones k) at c.change_side_lent-2.ensures.made C q));
    }

pub returns-in_err-k : goal.returns-in_err-k
unfolding projection
returns-in_err-k c =
    rw c.from_residual-in_err-k.ensures (record {
      within = tt;
      made = λ k τ h e is.
          makes_then (c.change_side_lent.ensures.made τ h) (λ P. positive_projection k P >>= change_side (kept k))
          c.in_ok-n.was
          (λ P p.
          stops_then (c.positive.ensures.made k P (rw e p) is) (change_side (kept k)) c.in_err-k.was);
    })

pub returns-in_err-n : goal.returns-in_err-n
unfolding projection
returns-in_err-n c =
    rw c.from_residual.ensures (record {
      within = tt;
      made = λ k τ h e is.
          stops_then (c.change_side_lent.ensures.made τ h) (λ P. positive_projection k P >>= change_side (kept k))
          c.in_err-n.was;
    })
