-- The bits of position i in the two halves are exchanged where it is fixed (`word_flipped`).
use Rattle.std.proofs.Common.{refl}
use Rattle.words.specs.Words.{flipped_word}
use Rattle.words.proofs.Positions.{word_flipped}
use Rattle.words.proofs.flipped.Goals as goal

pub returns : goal.returns
unfolding flipped_word
returns c =
    rw c.both.ensures record {
      words = refl;
      strings = λ s short ea k. rw ea (word_flipped c.args.i c.requires s short k);
    }
