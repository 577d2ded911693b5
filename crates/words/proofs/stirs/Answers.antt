-- Where e opens nothing that stays fixed it does not stir y (`stirs_not`); else by the lowest that it opens (`stirs_below`).
use Rattle.words.proofs.Stirring.{stirs_not, stirs_below}
use Rattle.words.proofs.stirs.Goals as goal

pub returns-then-opens-eq0 : goal.returns-then-opens-eq0
returns-then-opens-eq0 c =
    record {
      strings = λ d s t n short ed es et h.
          let o = c.openings.ensures.strings d s n (rw n short) ed es in
          stirs_not d s t n h (rw (o, et) at c.if-opens-eq0.true);
    }

pub returns : goal.returns
returns c =
    record {
      strings = λ d s t n short ed es et h.
          let o = c.openings.ensures.strings d s n (rw n short) ed es in
          let f = c.fixed-fixes.ensures.strings d (rw n short) ed in
          rw (o, f, et) (stirs_below d s t n h (rw (o, et) at c.if-opens-eq0.false));
    }
