-- The meets of the table with the one string that has 0 at all of the set, which `other` holds (`holds_one`, `zeros_shl`).
use mathlib.Core.Path.{◌∙◌}
use Rattle.model.specs.Strings.{zeros}
use Rattle.model.specs.Tables.{irrelevant}
use Rattle.model.proofs.Candidates.{zeros_length}
use Rattle.candidates.specs.Pairs.{pairs_of}
use Rattle.candidates.proofs.RowEnds.{holds_one}
use Rattle.candidates.proofs.Sets.{zeros_shl}
use Rattle.candidates.proofs.pairs.irrelevant.Goals as goal

pub returns : goal.returns
unfolding irrelevant pairs_of
returns c =
    let m = c.pairs.ensures in record {
      within = m.within;
      made = λ τ k h e is.
          m.made τ _ h
          (holds_one c.args.other.now c.told-other h.short (zeros k) (zeros_length k ∙ e)
          (zeros_shl k c.ranges.m.fits is));
    }
