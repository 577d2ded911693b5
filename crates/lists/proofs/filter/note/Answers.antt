-- The slot of y then notes a string that changes nothing, of the list's version; no other slot changes (`filter_note`).
use Rattle.lists.proofs.Absorption.{filter_note}
use Rattle.lists.proofs.filter.note.Goals as goal

pub returns : goal.returns
returns c =
    λ l τ s z short f long is kept over idle.
    filter_note f short _ _ _ s z c.slot-s.ensures long is kept over idle
