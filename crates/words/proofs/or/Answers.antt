-- A position of the result is 0 where both are, and 1 where one is: half by half (`word_or`).
use Rattle.std.proofs.Common.{◌∙◌}
use lib.Bits.{bit_or, and_lt}
use Rattle.words.specs.Words.{or_word}
use Rattle.words.proofs.Halves.{halves_or, high_lt, low_lt}
use Rattle.words.proofs.Words.{word_or}
use Rattle.words.proofs.or.Goals as goal

pub returns : goal.returns
unfolding or_word
returns c =
    let a = c.args.a in
    let b = c.args.b in
    let zeros = and_lt 32 _ _ (high_lt a c.ranges.a.fits) (high_lt b c.ranges.b.fits) in
    let is = halves_or _ _ zeros (low_lt (bit_or a b)) in
    record {
      words = is;
      strings = λ s t n short ea eb. is ∙ rw (ea, eb) (word_or s t n short);
    }
