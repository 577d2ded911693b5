-- A fixed position has its bit in one of the halves, so that both together are the care word (`care_word`).
use Rattle.std.proofs.Common.{refl}
use Rattle.words.specs.Words.{fixed_word}
use Rattle.words.proofs.Halves.{fixed_lt, care_word}
use Rattle.words.proofs.fixed.Goals as goal

pub returns : goal.returns
unfolding fixed_word
returns c =
    record {
      words = refl;
      below = fixed_lt c.args.a c.ranges.a.fits;
      strings = λ s short ea. rw ea (care_word s short);
    }
