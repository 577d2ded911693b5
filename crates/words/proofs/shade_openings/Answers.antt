-- Where e fixes a position that became `*` it opens nothing (`shade_shut`); else as before, where z is fixed (`shade_open`).
use lib.Bits.{and_lt}
use Rattle.std.proofs.Common.{lit<}
use Rattle.words.proofs.Halves.{low_lt}
use Rattle.words.proofs.Shades.{shade_open, shade_shut}
use Rattle.words.proofs.shade_openings.Goals as goal

pub returns-then-shade-fixed-eq0 : goal.returns-then-shade-fixed-eq0
returns-then-shade-fixed-eq0 c =
    let z = c.fixed-care in
    let y = c.fixed in record {
      below = and_lt 32 _ z.result (low_lt c.args.shade) z.ensures.below;
      strings = λ e s t n m short es ey ez near h.
          rw (z.ensures.words, es, ez) (shade_open e s t n m short h near
          (rw (z.ensures.words, y.ensures.words, es, ey, ez) at c.if-shade-fixed-eq0.true));
    }

pub returns : goal.returns
returns c =
    let z = c.fixed-care in
    let y = c.fixed in record {
      below = lit< tt;
      strings = λ e s t n m short es ey ez near h.
          shade_shut e s t n m short h (rw (z.ensures.words, y.ensures.words, es, ey, ez) at c.if-shade-fixed-eq0.false);
    }
