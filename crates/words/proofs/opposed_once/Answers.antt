-- Opposed positions have a bit in both halves; without the lowest such bit none is left (`wrapped`, `word_opposed_once`).
use Rattle.std.proofs.Common.{◌∙◌, rules}
use Rattle.words.specs.Words.{clash_word}
use Rattle.words.proofs.LackedBits.{wrapped}
use Rattle.words.proofs.Clashes.{word_opposed_once}
use Rattle.words.proofs.opposed_once.Goals as goal

pub returns : goal.returns
unfolding clash_word
returns c =
    let is = wrapped _ _ c.wrapping_sub_u64.ensures.value (search rules) in
    record {
      words = is;
      strings = λ s t n short ea eb. is ∙ rw (ea, eb) (word_opposed_once s t n short);
    }
