-- A string that the list absorbs changes nothing (`grow_absorbed`); any other is widened and inserted (`grow_new`).
use mathlib.Core.Path.{sym, ◌∙◌}
use native.Mathlib.Omega.{arith}
use Rattle.model.proofs.Growth.{grow_absorbed}
use Rattle.model.proofs.Stability.{widen_length}
use Rattle.lists.specs.WorkingLists.{makes}
use Rattle.lists.proofs.Growing.{grow_new, new_unsubsumed, fresh_new, fresh_test}
use Rattle.lists.proofs.growth.grow.Goals as goal

pub returns-then-is_zero : goal.returns-then-is_zero
returns-then-is_zero c =
    record {
      within = omega arith;
      made = λ τ s h e y.
          let f = c.fresh-z.ensures τ s h e y in
          let t = fresh_test _ τ s e h.short f.1 c.is_zero.ensures.words in
          rw (grow_absorbed τ s (rw (sym t ∙ c.if-is_zero.true) tt)) (makes f.0);
    }

pub returns : goal.returns
returns c =
    record {
      within = c.insert.ensures.within;
      made = λ τ s h e y.
          let f = c.fresh-z.ensures τ s h e y in
          let t = sym (fresh_test _ τ s e h.short f.1 c.is_zero.ensures.words) ∙ c.if-is_zero.false in
          rw (grow_new τ s t)
          (c.insert.ensures.made τ _ f.0 (widen_length τ s ∙ e) (f.1 ∙ fresh_new _ τ s t) (new_unsubsumed τ s t));
    }
