-- A string without `*` removes nothing (`starless_removes`); for any other `pack` keeps just what is not removed.
use mathlib.Core.Path.{sym, ◌∙◌}
use Rattle.model.specs.Growth.{remove}
use Rattle.lists.proofs.Growing.{starless_removes}
use Rattle.lists.proofs.growth.insert.Goals as goal

pub returns-then-starless : goal.returns-then-starless
returns-then-starless c =
    record {
      within = c.append.ensures.within;
      made = λ τ s h e y none.
          rw (starless_removes s τ (sym (c.starless.ensures.strings s e y) ∙ c.if-starless.true) none)
          (c.append.ensures.made _ τ s h e y);
    }

pub returns : goal.returns
returns c =
    let free = c.free_up_to-j.ensures.1 in record {
      within = c.append-2.ensures.within;
      made = λ τ s h e y none. c.append-2.ensures.made _ (remove s τ) s (c.pack-kept.ensures.made _ τ s h e y free) e y;
    }
