-- Strings match exactly where no position has a bit in both halves of their words together (`word_matches`).
use Rattle.std.proofs.Common.{refl}
use Rattle.words.specs.Words.{clash_word, matches_word}
use Rattle.words.proofs.Words.{word_matches}
use Rattle.words.proofs.matches.Goals as goal

pub returns : goal.returns
unfolding matches_word clash_word
returns c =
    record {
      words = refl;
      strings = λ s t n short ea eb. rw (ea, eb) (word_matches s t n short);
    }
