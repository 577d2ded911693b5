-- No group has x exactly where all groups with x are covered (`ground_one`).
use mathlib.Core.Path.{sym, ◌∙◌}
use Prim.Native.Nat.{◌-◌}
use native.Mathlib.Omega.{arith}
use Rattle.model.proofs.Positions.{one_at_length}
use Rattle.words.proofs.Positions.{one_shl}
use Rattle.words.proofs.Words.{one_word}
use Rattle.covering.proofs.MeetingSets.{ground_one}
use Rattle.covering.proofs.independence.ground_negative.Goals as goal

pub returns : goal.returns
returns c =
    λ τ h.
    let a = c.args in
    c.covered.ensures τ _ h (one_at_length a.l (a.x - 1))
    (one_shl (a.x - 1) 64 (omega arith) ∙ sym (one_word a.l (a.x - 1) (omega arith)))
    ∙ ground_one a.l τ a.x (omega arith) (omega arith)
