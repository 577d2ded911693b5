-- The chosen bits of each half, moved together, are the halves of the cut string's word (`word_cut`).
use Rattle.std.proofs.Common.{◌∙◌, ap₂, rules}
use Rattle.words.specs.Words.{halves, cut_word}
use Rattle.words.proofs.Halves.{halves_or}
use Rattle.words.proofs.GatheredBits.{word_cut}
use Rattle.words.proofs.cut.Goals as goal

pub returns : goal.returns
unfolding cut_word
returns c =
    let z = c.gathered-z in
    let o = c.gathered-o in
    let is = halves_or z.result o.result (search rules) (search rules) ∙ ap₂ halves z.ensures o.ensures in
    record {
      words = is;
      strings = λ k s e h ek es. is ∙ rw (ek, es) (word_cut k s e h);
    }
