use mathlib.Core.Path.{◌≡◌, refl, sym, ◌∙◌}
use native.Mathlib.Omega.{arith}
use lib.ListN.{length, get_or, take}
use Rattle.model.specs.Strings.{Trits, ones}
use Rattle.model.specs.Growth.{Entries}
use Rattle.model.specs.Tables.{relevant}
use Rattle.words.specs.Words.{word}
use Rattle.lists.specs.WorkingLists.{Holds}
use Rattle.lists.proofs.Holding.{within_count}
use Rattle.candidates.specs.declared.Pairing.TheVariants.{Meet}
use Rattle.candidates.specs.Pairs.{row_of, pairs_of}
use Rattle.candidates.proofs.RowsGrown.{OnesOf, rows_start, rows_turn, rows_stop, rows_end}
use Rattle.candidates.proofs.pairs.relevant_by_entry.Goals as goal
use Rattle.candidates.proofs.pairs.relevant_by_entry.Goals.{After-relevant_row-k}

-- the row of one entry
filled : (c : After-relevant_row-k) (β : Entries) (s : Trits) → OnesOf c.args.l c.args.m β → length s ≡ c.args.l
    → get_or (take c.args.tn c.args.t.now) c.loop-e.e-index 0 ≡ word s
    → Holds c.args.l c.relevant_row-k.new.row c.relevant_row-k.result (row_of Meet s β)
unfolding row_of
filled c β s b long is =
    rw b.1 (rw long at (c.relevant_row-k.ensures.made s b.0 (omega (arith, long)) (b.2 ∙ sym long) is b.3))

pub loop-e-init : goal.loop-e-init
loop-e-init c = (omega arith, rows_start Meet _ _ _ (OnesOf _ _) _ c.told-list (λ short. tt))

pub returns-in_err-n-clause-made : goal.returns-in_err-n-clause-made
unfolding relevant pairs_of
returns-in_err-n-clause-made c =
    rw c.from_residual.ensures (λ τ g h e is.
    rows_stop Meet _ _ _ (OnesOf _ _) c.loop-e.invariant.1 c.loop-e-test.true
    (filled (goal.at.returns-in_err-n-clause-made c).After-relevant_row-k)
    (λ τ ρ h row known. c.grow_each.ensures.made τ ρ h row) c.in_err-n.was τ (ones g) h (g, refl, e, is))

pub loop-e-preserved : goal.loop-e-preserved
loop-e-preserved c = (
  within_count c.grow_each.ensures.within c.in_ok-n.was,
  rows_turn Meet _ _ _ (OnesOf _ _) c.loop-e.invariant.1 c.loop-e-test.true
      (filled (goal.at.loop-e-preserved c).After-relevant_row-k)
      (λ τ ρ h row known. c.grow_each.ensures.made τ ρ h row) c.in_ok-n.was (λ τ ρ κ h row known is. tt),
)

pub returns-clause-made : goal.returns-clause-made
unfolding relevant pairs_of
returns-clause-made c =
    λ τ g h e is. rows_end Meet _ _ _ (OnesOf _ _) c.loop-e.invariant.1 c.loop-e-test.false τ (ones g) h (g, refl, e, is)
