-- The table grown by the row that `ones_row` makes.
use Rattle.procedures.proofs.equations.lacking.Goals as goal

pub returns : goal.returns
returns c =
    let g = c.grow_each.ensures in
    record {
      within = g.within;
      made = λ τ k h e is. g.made τ _ h (c.ones_row-k.ensures.made k e is);
    }
