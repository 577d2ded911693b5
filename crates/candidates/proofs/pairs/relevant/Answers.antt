-- The meets of the table with the strings that `ones_row` makes.
use Rattle.model.specs.Tables.{relevant}
use Rattle.candidates.specs.Pairs.{pairs_of}
use Rattle.candidates.proofs.pairs.relevant.Goals as goal

pub returns : goal.returns
unfolding relevant pairs_of
returns c =
    let m = c.pairs.ensures in
    record {
      within = m.within;
      made = λ τ k h e is. m.made τ _ h (c.ones_row-k.ensures.made k e is);
    }
