-- y gets v's bit at position i, where it has none (`agreed_word`); a word with more bits is no less (`or_more`).
use borrow.Author.Rules.{rules}
use Rattle.covering.proofs.Splitting.{agreed_word, or_more}
use Rattle.covering.proofs.cover.agreed.Goals as goal

pub returns : goal.returns
returns c =
    record {
      more = (or_more c.args.y _).0;
      strings = λ s t n short es et k f. agreed_word _ _ _ s t (search rules) n short es et k;
    }
