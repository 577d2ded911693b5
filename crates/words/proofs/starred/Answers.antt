-- Without its bits in both halves, position i is `*` (`word_starred`).
use Rattle.std.proofs.Common.{refl}
use Rattle.words.specs.Words.{starred_word}
use Rattle.words.proofs.Positions.{word_starred}
use Rattle.words.proofs.starred.Goals as goal

pub returns : goal.returns
unfolding starred_word
returns c =
    rw c.both.ensures record {
      words = refl;
      strings = λ s short ea. rw ea (word_starred c.args.i c.requires s short);
    }
