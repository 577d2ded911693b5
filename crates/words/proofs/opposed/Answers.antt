-- y gets the bit that the opposite of v has at position i, where y has none (`word_opposed`).
use Rattle.std.proofs.Common.{refl}
use Rattle.words.specs.Words.{opposed_word}
use Rattle.words.proofs.Positions.{word_opposed}
use Rattle.words.proofs.opposed.Goals as goal

pub returns : goal.returns
unfolding opposed_word
returns c =
    rw (c.opposite.ensures.words, c.both.ensures)
    record {
      words = refl;
      strings = λ s t n short es et k h. rw (es, et) (word_opposed c.args.i c.requires t s n short k);
    }
