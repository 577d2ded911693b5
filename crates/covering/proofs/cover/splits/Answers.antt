-- Both tests are of a bit of a care word (`splits_word`).
use borrow.Author.Rules.{rules}
use Rattle.covering.proofs.Splitting.{splits_word, opposed_more}
use Rattle.covering.proofs.cover.splits.Goals as goal

pub returns : goal.returns
returns c =
    let v = c.fixed.ensures in
    let y = c.fixed-2.ensures in
    let a = c.args in record {
      more = (λ e. opposed_more a.i a.y a.v _ _ (search rules) (search rules) v.words y.words e);
      strings = λ s t ss st es et. splits_word a.i _ _ s t (v.strings t st et) (y.strings s ss es);
    }
