use mathlib.Core.Path.{sym, ◌∙◌}
use mathlib.Core.List.{[]}
use native.Mathlib.Omega.{arith}
use lib.ListN.{get_or}
use Rattle.model.specs.Strings.{subsumes}
use Rattle.model.proofs.Tests.{true_of}
use Rattle.lists.proofs.Holding.{holds_length}
use Rattle.lists.proofs.Absorption.{quiet_more}
use Rattle.lists.proofs.filter.quiet.Goals as goal

pub loop-i-preserved : goal.loop-i-preserved
loop-i-preserved c =
    let lp = c.loop-i in
    λ l τ s h e y z k o.
    let q = c.stirs.ensures.strings (get_or τ lp.i []) s z (holds_length h lp.i (omega arith) ∙ sym e)
    (rw e h.short) (h.here lp.i (omega arith)) y k (true_of (subsumes z s) o) in
    quiet_more τ s z _ lp.i (lp.invariant l τ s h e y z k o) (sym q ∙ c.if-stirs.false)
