use mathlib.Core.Path.{◌∙◌}
use mathlib.Core.List.{[]}
use native.Mathlib.Omega.{arith}
use lib.ListN.{get_or, length-set}
use Rattle.words.specs.Words.{word}
use Rattle.tables.proofs.Arrays.{stores_at}
use Rattle.lists.proofs.Holding.{run_turn}
use Rattle.lists.proofs.values.load.Goals as goal

pub loop-i-preserved : goal.loop-i-preserved
loop-i-preserved c =
    let lp = c.loop-i in (
      length-set lp.list lp.i _ ∙ lp.invariant.0,
      λ l τ h.
          run_turn lp.list (λ m. word (get_or τ m [])) lp.i _ (omega (arith, lp.invariant.0)) (lp.invariant.1 l τ h)
          (c.from.ensures.1 (get_or τ lp.i []) (stores_at h lp.i (omega arith))),
    )
