-- The sets are handed on; `kind_of` gives the kind.
use Rattle.terms.proofs.equation_of.Goals as goal

pub returns : goal.returns
returns c =
    λ l e k. record {
      left_set = k.left_set;
      right_set = k.right_set;
      same_kind = c.kind_of.ensures l e k;
    }
