-- Cross and then close, full where one of them is (`makes_then`, `stops_then`).
use native.Mathlib.Omega.{arith}
use Rattle.model.specs.Tables.{cross, close}
use Rattle.lists.proofs.Holding.{within_count}
use Rattle.lists.proofs.BindLaws.{makes_then, stops_then}
use Rattle.candidates.specs.Pairs.{pairs_of}
use Rattle.procedures.specs.Parts.{closed_cross}
use Rattle.procedures.proofs.equations.closed_cross.Goals as goal

pub close-requires : goal.close-requires
close-requires c =
    (within_count c.pairs.ensures.within c.in_ok-k.was, omega arith)

pub returns : goal.returns
unfolding closed_cross cross pairs_of
returns c =
    record {
      within = c.close.ensures.within;
      made = λ α β h b. makes_then (c.pairs.ensures.made α β h b) close c.in_ok-k.was c.close.ensures.made;
    }

pub returns-in_err-k : goal.returns-in_err-k
unfolding closed_cross cross pairs_of
returns-in_err-k c =
    rw c.from_residual.ensures (record {
      within = tt;
      made = λ α β h b. stops_then (c.pairs.ensures.made α β h b) close c.in_err-k.was;
    })
