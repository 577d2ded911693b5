-- The row of cut strings, grown; their width is the number of kept positions (`kept_ones`).
use mathlib.Core.Path.{ap, ◌∙◌}
use mathlib.Core.List.{[]}
use native.Mathlib.Omega.{arith}
use lib.Count.{ones, ones-le}
use Rattle.model.specs.Tables.{positive_projection, projection}
use Rattle.lists.proofs.Holding.{holds_empty}
use Rattle.candidates.proofs.Sets.{kept_ones}
use borrow.Author.Rules.{rules}
use Rattle.procedures.proofs.projections.positive.Goals as goal

pub grow_each-requires : goal.grow_each-requires
grow_each-requires c =
    (omega arith, ones-le 32 _ c.ranges.keep.fits, omega arith)

pub returns : goal.returns
unfolding projection positive_projection
returns c =
    let g = c.grow_each.ensures in record {
      within = g.within;
      made = λ k τ h is.
          let row = c.cut_row.ensures k τ h is in
          rw (ap ones is ∙ kept_ones k) at g.made [] _ (holds_empty _ _ (search rules) row.short) row;
    }
