-- Without its lowest bit the word of what y lacks is 0 exactly where that is one bit or none (`wrapped`, `word_near`).
use Rattle.std.proofs.Common.{◌∙◌, rules}
use Rattle.words.specs.Words.{lacks_word}
use Rattle.words.proofs.LackedBits.{wrapped, word_near}
use Rattle.words.proofs.near.Goals as goal

pub returns : goal.returns
unfolding lacks_word
returns c =
    let is = wrapped _ _ c.wrapping_sub_u64.ensures.value (search rules) in
    record {
      words = is;
      strings = λ s t n short es et. is ∙ rw (es, et) (word_near s t n short);
    }
