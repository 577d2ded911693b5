-- The halves exchanged are the word of the string with each value flipped (`word_opposite`).
use Rattle.std.proofs.Common.{◌∙◌}
use Rattle.words.specs.Words.{opposite_word}
use Rattle.words.proofs.Halves.{halves_or, high_lt, low_lt}
use Rattle.words.proofs.Words.{word_opposite}
use Rattle.words.proofs.opposite.Goals as goal

pub returns : goal.returns
unfolding opposite_word
returns c =
    let a = c.args.a in
    let is = halves_or _ _ (low_lt a) (high_lt a c.ranges.a.fits) in
    record {
      words = is;
      strings = λ s short ea. is ∙ rw ea (word_opposite s short);
    }
