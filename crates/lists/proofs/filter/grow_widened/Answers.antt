-- By cases: what y is widened to is subsumed, or it is inserted and the version rises. In both cases growing by y then changes
-- nothing, and y is noted.
use mathlib.Core.Path.{◌≡◌, refl, sym, ◌∙◌}
use mathlib.Core.Bool.{false}
use mathlib.Core.Logic.{inr}
use lib.Dec.{T}
use lib.ListN.{length}
use Rattle.model.specs.Strings.{Trits, all_zero}
use Rattle.model.specs.Growth.{Entries, widen, absorbed}
use Rattle.model.proofs.Quiet.{own_grown}
use Rattle.model.proofs.Stability.{widen_length}
use Rattle.model.proofs.Subsuming.{widen_up}
use Rattle.words.specs.Words.{word, care_of}
use Rattle.lists.specs.WorkingLists.{Holds}
use Rattle.lists.proofs.Growing.{grow_new, new_unsubsumed, by_subsumed}
use Rattle.lists.proofs.WideningByPasses.{of_over}
use Rattle.lists.proofs.Absorption.{absorbed_idle, absorbed_makes, absorbed_filter, grown_filter}
use Rattle.lists.proofs.filter.grow_widened.Goals as goal
use Rattle.lists.proofs.filter.grow_widened.Goals.{After-covered}

-- what y is widened to, which positions stay fixed, and whether the list absorbs it
widened : (c : After-covered) (τ : Entries) (s : Trits)
    → (let a = c.args in
    Holds a.l a.list.now a.n τ → length s ≡ a.l → a.y ≡ word s → all_zero s ≡ false
    → (c.widen-z.result ≡ word (widen τ s)) × (c.fixed-kept.result ≡ care_of (widen τ s))
    × (c.covered.result ≡ absorbed τ s))
widened c τ s h e y nonzero =
    let ready = c.prepare-k.ensures.made _ τ s h e y in
    let z = c.widen-z.ensures τ s ready y in
    let long = widen_length τ s ∙ e in
    let t = of_over ready y (widen τ s) z long (widen_up τ s) (c.covered.ensures _ τ s _ ready) in
    (z, c.fixed-kept.ensures.strings (widen τ s) (rw long h.short) z, t ∙ sym (by_subsumed τ s nonzero refl))

pub returns-then-covered : goal.returns-then-covered
returns-then-covered c =
    record {
      within = c.requires.0;
      made = λ τ s h e y nonzero.
          let w = widened (goal.at.returns-then-covered c).After-covered τ s h e y nonzero in
          absorbed_makes τ s (rw (sym w.2 ∙ c.if-covered.true) tt)
          (c.prepare-k.ensures.made _ τ s h e y).held;
      filter = λ τ s h e y κ nonzero f g.
          let w = widened (goal.at.returns-then-covered c).After-covered τ s h e y nonzero in
          let absorbs : T (absorbed τ s) = rw (sym w.2 ∙ c.if-covered.true) tt in
          absorbed_filter τ s absorbs g
          (c.note.ensures _ τ s (widen τ s) h.short f e y w.1 (widen_up τ s) (absorbed_idle τ s absorbs));
    }

pub returns : goal.returns
returns c =
    record {
      within = c.insert.ensures.within;
      made = λ τ s h e y nonzero.
          let w = widened (goal.at.returns c).After-covered τ s h e y nonzero in
          let changes = sym w.2 ∙ c.if-covered.false in
          rw (grow_new τ s changes)
          (c.insert.ensures.made τ (widen τ s) (c.prepare-k.ensures.made _ τ s h e y).held
          (widen_length τ s ∙ e) w.0 (new_unsubsumed τ s changes));
      filter = λ τ s h e y κ nonzero f g.
          let w = widened (goal.at.returns c).After-covered τ s h e y nonzero in
          let changes = sym w.2 ∙ c.if-covered.false in
          grown_filter τ s changes g
          (c.note-2.ensures _ _ s (widen τ s) h.short (c.next_version.ensures τ (widen τ s) f) e y
          w.1 (widen_up τ s) (inr (own_grown τ s (widen τ s) refl)));
    }
