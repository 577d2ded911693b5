-- y stays (`narrows_same`), or v has one position that y lacks, and there all that is left has the opposite (`narrows_one`).
use native.Mathlib.Omega.{arith}
use Rattle.covering.proofs.Narrowing.{narrows_same, narrows_one}
use Rattle.covering.proofs.Splitting.{or_more}
use Rattle.covering.proofs.cover.narrowed_by.Goals as goal

pub returns-then-w-eq0 : goal.returns-then-w-eq0
returns-then-w-eq0 c =
    record {
      more = omega arith;
      strings = λ s t n short es et. narrows_same _ t et;
    }

pub returns-then-w-ne0 : goal.returns-then-w-ne0
returns-then-w-ne0 c =
    record {
      more = omega arith;
      strings = λ s t n short es et. narrows_same _ t et;
    }

pub returns : goal.returns
returns c =
    let a = c.args in record {
      more = (or_more c.opposite.result a.y).1;
      strings = λ s t n short es et.
          narrows_one a.v a.y _ s t n short es et c.if-w-ne0.false c.opposite.ensures.words;
    }
