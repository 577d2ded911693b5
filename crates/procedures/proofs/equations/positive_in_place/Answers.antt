-- The code makes the closed cross in one call, which comes to the same (`positive_regrouped`); full where one part is.
use mathlib.Core.Path.{sym}
use native.Mathlib.Omega.{arith}
use Rattle.model.specs.Groups.{or}
use Rattle.model.specs.Growth.{◌>>=◌, grow_all}
use Rattle.model.proofs.Bits.{or_length}
use Rattle.words.proofs.Codec.{set_word_or}
use Rattle.lists.proofs.Holding.{within_count}
use Rattle.lists.proofs.BindLaws.{makes_then, stops_then}
use Rattle.procedures.specs.Parts.{positive_closed_cross}
use Rattle.procedures.proofs.EquationsRegrouped.{positive_regrouped}
use Rattle.procedures.proofs.equations.positive_in_place.Goals as goal

pub grow_each-requires : goal.grow_each-requires
grow_each-requires c = (
  within_count c.irrelevant_in_row.ensures.within c.in_ok-n.was,
  omega arith,
  within_count c.positive_closed_cross.ensures.within c.in_ok-k.was,
)

pub returns : goal.returns
returns c =
    record {
      within = c.grow_each.ensures.within;
      made = λ τ x t h ex et ix it.
          rw (positive_regrouped x t τ)
          (makes_then
          (c.irrelevant_in_row.ensures.made τ (or x t) h (or_length x t _ ex et) (rw (ix, it) (sym (set_word_or x t))))
          (λ I. positive_closed_cross x t τ >>= grow_all I) c.in_ok-n.was
          (λ I p.
          makes_then (c.positive_closed_cross.ensures.made τ x t h ex et ix it) (grow_all I) c.in_ok-k.was
          (λ K q. c.grow_each.ensures.made I K p q)));
    }

pub returns-in_err-k : goal.returns-in_err-k
returns-in_err-k c =
    rw c.from_residual-in_err-k.ensures (record {
      within = tt;
      made = λ τ x t h ex et ix it.
          rw (positive_regrouped x t τ)
          (makes_then
          (c.irrelevant_in_row.ensures.made τ (or x t) h (or_length x t _ ex et) (rw (ix, it) (sym (set_word_or x t))))
          (λ I. positive_closed_cross x t τ >>= grow_all I) c.in_ok-n.was
          (λ I p.
          stops_then (c.positive_closed_cross.ensures.made τ x t h ex et ix it) (grow_all I)
          c.in_err-k.was));
    })

pub returns-in_err-n : goal.returns-in_err-n
returns-in_err-n c =
    rw c.from_residual.ensures (record {
      within = tt;
      made = λ τ x t h ex et ix it.
          rw (positive_regrouped x t τ)
          (stops_then
          (c.irrelevant_in_row.ensures.made τ (or x t) h (or_length x t _ ex et) (rw (ix, it) (sym (set_word_or x t))))
          (λ I. positive_closed_cross x t τ >>= grow_all I) c.in_err-n.was);
    })
