-- Where one bit lacks, it is what is opened (`word_edge`).
use Rattle.words.specs.Words.{lacks_word}
use Rattle.words.proofs.Shades.{word_edge}
use Rattle.words.proofs.edge.Goals as goal

pub returns : goal.returns
unfolding lacks_word
returns c =
    record {
      strings = let w = c.fixed in
          let y = c.fixed-2 in
          λ s t n short es et near h. rw (w.ensures.words, y.ensures.words, es, et) (word_edge s t n short near h);
    }
