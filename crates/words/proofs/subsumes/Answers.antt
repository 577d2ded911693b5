-- a subsumes b exactly where b has each bit of a (`word_subsumes`); the code's test of that is `xor_test`.
use Rattle.std.proofs.Common.{refl}
use Rattle.words.specs.Words.{subsumes_word}
use Rattle.words.proofs.Words.{xor_test, word_subsumes}
use Rattle.words.proofs.subsumes.Goals as goal

pub returns : goal.returns
unfolding subsumes_word
returns c =
    rw xor_test record {
      words = refl;
      strings = λ s t n short ea eb. rw (ea, eb) (word_subsumes s t n short);
    }
