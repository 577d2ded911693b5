-- Each fixed position has one bit, in one of the halves (`word_count`).
use Rattle.std.proofs.Common.{refl}
use Rattle.words.proofs.Positions.{word_count}
use Rattle.words.proofs.fixed_count.Goals as goal

pub returns : goal.returns
returns c =
    record {
      words = refl;
      strings = λ s short ea. rw ea (word_count s short);
    }
