-- By the survey: a string that entries guard changes nothing; one that none touches is inserted as it is, and the version
-- rises; else it is widened.
use mathlib.Core.Path.{subst}
use mathlib.Core.Logic.{inr}
use Rattle.model.proofs.Quiet.{own_grown}
use Rattle.model.proofs.Subsuming.{subsumes_same}
use Rattle.lists.specs.Widening.{Surveyed}
use Rattle.lists.proofs.Absorption.{absorbed_makes, absorbed_filter, grown_filter}
use Rattle.lists.proofs.Growing.{grow_new, guarded_idle, untouched_new}
use Rattle.lists.proofs.Guards.{untouched_stays}
use Rattle.lists.proofs.filter.grow_surveyed.Goals as goal

pub returns-in-Absorbed : goal.returns-in-Absorbed
returns-in-Absorbed c =
    let s-ensures = c.survey.ensures in record {
      within = c.requires.0;
      made = λ τ s h e y nonzero.
          let g = subst (Surveyed τ s) c.in-Absorbed.is (s-ensures _ τ s h e y) in
          absorbed_makes τ s (rw (guarded_idle τ s nonzero g) tt) h;
      filter = λ τ s h e y κ nonzero f k.
          let g = subst (Surveyed τ s) c.in-Absorbed.is (s-ensures _ τ s h e y) in
          absorbed_filter τ s (rw (guarded_idle τ s nonzero g) tt) k f;
    }

pub returns-in-Stays : goal.returns-in-Stays
returns-in-Stays c =
    let s-ensures = c.survey.ensures in record {
      within = c.insert.ensures.within;
      made = λ τ s h e y nonzero.
          let u = subst (Surveyed τ s) c.in-Stays.is (s-ensures _ τ s h e y) in
          rw (grow_new τ s (untouched_new τ s nonzero u), untouched_stays τ s u)
          (c.insert.ensures.made τ s h e y u.0);
      filter = λ τ s h e y κ nonzero f k.
          let u = subst (Surveyed τ s) c.in-Stays.is (s-ensures _ τ s h e y) in
          let stays = untouched_stays τ s u in
          grown_filter τ s (untouched_new τ s nonzero u) k
          (rw stays
          (c.note.ensures _ _ s s h.short (c.next_version.ensures τ s f) e y
          (c.fixed.ensures.strings s (rw e h.short) y) (subsumes_same s) (inr (own_grown τ s s stays))));
    }
