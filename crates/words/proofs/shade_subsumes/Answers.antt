-- e subsumes z where it fixes neither a position that became `*` nor one where it can open (`shade_subsumes`).
use Rattle.words.proofs.Shades.{shade_subsumes}
use Rattle.words.proofs.shade_subsumes.Goals as goal

pub returns : goal.returns
returns c =
    record {
      strings = λ e s t n m short es ey ez near h.
          rw (c.fixed.ensures.words, c.fixed-2.ensures.words, es, ey, ez) (shade_subsumes e s t n m short h);
    }
