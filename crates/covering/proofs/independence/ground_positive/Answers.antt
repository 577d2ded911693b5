-- No group has x exactly where the set of x alone is independent of itself (`ground_only`).
use mathlib.Core.Path.{◌∙◌}
use Prim.Native.Nat.{◌-◌}
use native.Mathlib.Omega.{arith}
use Rattle.model.specs.Tables.{positive}
use Rattle.words.proofs.Positions.{one_shl}
use Rattle.covering.proofs.FirstVariables.{only_length, only_word}
use Rattle.covering.proofs.MeetingSets.{ground_only}
use Rattle.covering.proofs.independence.ground_positive.Goals as goal

pub returns : goal.returns
returns c =
    λ l τ h n.
    let x = c.args.x in
    let bit = one_shl (x - 1) 32 (omega arith) ∙ only_word l (x - 1) (omega arith) in
    let wide = only_length l (x - 1) in
    c.independent_positive.ensures l τ _ _ h wide wide bit bit ∙ ground_only positive l τ x (omega arith) n
