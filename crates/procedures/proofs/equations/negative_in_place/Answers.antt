-- The code makes the closed cross first, which comes to the same (`negative_regrouped`); full where one part is.
use mathlib.Core.Path.{sym}
use mathlib.Core.List.{[]}
use native.Mathlib.Omega.{arith}
use Rattle.model.specs.Groups.{or}
use Rattle.model.specs.Strings.{ones}
use Rattle.model.specs.Growth.{◌>>=◌, grow_all}
use Rattle.model.specs.Tables.{meets_of}
use Rattle.model.proofs.Bits.{or_length}
use Rattle.words.proofs.Codec.{set_word_or}
use Rattle.lists.proofs.Holding.{within_count}
use Rattle.lists.proofs.BindLaws.{makes_then, stops_then}
use Rattle.candidates.specs.Pairs.{pairs_of}
use Rattle.procedures.proofs.EquationsRegrouped.{negative_regrouped}
use Rattle.procedures.proofs.equations.negative_in_place.Goals as goal

pub pairs-requires : goal.pairs-requires
pairs-requires c = (
  within_count c.lacking.ensures.within c.in_ok-c.was,
  within_count c.negative_closed_cross.ensures.within c.in_ok-k.was,
  omega arith,
)

pub returns : goal.returns
unfolding pairs_of
returns c =
    record {
      within = c.pairs.ensures.within;
      made = λ τ x t h ex et ix it.
          rw (negative_regrouped _ x t τ)
          (makes_then (c.negative_closed_cross.ensures.made τ x t h ex et ix it)
          (λ K. grow_all τ (ones (or x t)) >>= λ C. grow_all [] (meets_of C K)) c.in_ok-k.was
          (λ K p.
          makes_then
          (c.lacking.ensures.made τ (or x t) h (or_length x t _ ex et) (rw (ix, it) (sym (set_word_or x t))))
          (λ C. grow_all [] (meets_of C K)) c.in_ok-c.was
          (λ C q. c.pairs.ensures.made C K q p)));
    }

pub returns-in_err-c : goal.returns-in_err-c
returns-in_err-c c =
    rw c.from_residual-in_err-c.ensures (record {
      within = tt;
      made = λ τ x t h ex et ix it.
          rw (negative_regrouped _ x t τ)
          (makes_then (c.negative_closed_cross.ensures.made τ x t h ex et ix it)
          (λ K. grow_all τ (ones (or x t)) >>= λ C. grow_all [] (meets_of C K)) c.in_ok-k.was
          (λ K p.
          stops_then
          (c.lacking.ensures.made τ (or x t) h (or_length x t _ ex et) (rw (ix, it) (sym (set_word_or x t))))
          (λ C. grow_all [] (meets_of C K)) c.in_err-c.was));
    })

pub returns-in_err-k : goal.returns-in_err-k
returns-in_err-k c =
    rw c.from_residual.ensures (record {
      within = tt;
      made = λ τ x t h ex et ix it.
          rw (negative_regrouped _ x t τ)
          (stops_then (c.negative_closed_cross.ensures.made τ x t h ex et ix it)
          (λ K. grow_all τ (ones (or x t)) >>= λ C. grow_all [] (meets_of C K)) c.in_err-k.was);
    })
