-- A bit of the set's word (`set_bit`).
use Rattle.words.proofs.Codec.{set_bit}
use Rattle.covering.proofs.independence.in_set.Goals as goal

pub returns : goal.returns
returns c =
    λ k e.
    rw e (set_bit k _)
