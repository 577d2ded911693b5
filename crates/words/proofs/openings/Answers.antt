-- By the bits of e that y lacks: none, one, more (`none_lacks`, `one_lacks`, `more_lack`); together `word_openings`.
use Rattle.std.proofs.Common.{◌∙◌}
use Rattle.words.specs.Words.{lacks_word}
use Rattle.words.proofs.LackedBits.{word_openings, none_lacks, one_lacks, more_lack}
use Rattle.words.proofs.openings.Goals as goal

pub returns-then-w-eq0 : goal.returns-then-w-eq0
unfolding lacks_word
returns-then-w-eq0 c =
    let a = c.args in
    let r = none_lacks (lacks_word a.e a.y) a.e a.y c.if-w-eq0.true in
    rw (c.fixed-care.ensures.words, c.fixed.ensures.words)
    record {
      words = r;
      strings = λ s t n short es et. r ∙ rw (es, et) (word_openings s t n short);
    }

pub returns-then-w-eq0-2 : goal.returns-then-w-eq0-2
unfolding lacks_word
returns-then-w-eq0-2 c =
    let a = c.args in
    let r = one_lacks (lacks_word a.e a.y) a.e a.y c.if-w-eq0.false c.if-w-eq0-2.true in
    rw (c.fixed-then-w-eq0-2.ensures.words, c.fixed-care.ensures.words)
    record {
      words = r;
      strings = λ s t n short es et. r ∙ rw (es, et) (word_openings s t n short);
    }

pub returns : goal.returns
unfolding lacks_word
returns c =
    let a = c.args in
    let r = more_lack (lacks_word a.e a.y) a.e a.y c.if-w-eq0.false c.if-w-eq0-2.false in
    record {
      words = r;
      strings = λ s t n short es et. r ∙ rw (es, et) (word_openings s t n short);
    }
