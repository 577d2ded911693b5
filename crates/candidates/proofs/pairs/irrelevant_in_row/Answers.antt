-- The row of the meets with the one string that has 0 at all of the set (`zeros_shl`), which are those of the table with it
-- (`meets_row`), grown.
use mathlib.Core.Path.{◌∙◌}
use Rattle.model.specs.Strings.{zeros}
use Rattle.model.specs.Tables.{irrelevant}
use Rattle.model.proofs.Candidates.{zeros_length}
use Rattle.lists.proofs.Holding.{holds_empty}
use Rattle.candidates.specs.Pairs.{row_of}
use Rattle.candidates.proofs.ProceduresAsFolds.{meets_row}
use Rattle.candidates.proofs.Sets.{zeros_shl}
use Rattle.candidates.proofs.pairs.irrelevant_in_row.Goals as goal

pub returns : goal.returns
unfolding irrelevant row_of
returns c =
    record {
      within = c.grow_each.ensures.within;
      made = λ τ k h e is.
          rw (meets_row τ (zeros k))
          (c.grow_each.ensures.made _ _ (holds_empty _ _ c.told-list h.short)
          (c.pair_row-k.ensures.made _ τ (zeros k) h (zeros_length k ∙ e) (zeros_shl k c.ranges.m.fits is)));
    }
