-- By cases: y is all zero, or known to change nothing; else it is grown and noted, by widening it or by a survey first.
use mathlib.Core.Path.{◌≡◌, sym, ◌∙◌}
use mathlib.Core.Bool.{false}
use native.Mathlib.Omega.{arith}
use lib.ListN.{length}
use Rattle.model.specs.Strings.{Trits, all_zero}
use Rattle.words.specs.Words.{word}
use Rattle.lists.proofs.Growing.{zero_absorbed}
use Rattle.lists.proofs.Absorption.{absorbed_makes, absorbed_filter}
use Rattle.lists.proofs.filter.grow_noted.Goals as goal
use Rattle.lists.proofs.filter.grow_noted.Goals.{After-renewed}

-- a string that was found not to be all zero
nonzero : (c : After-renewed) (s : Trits)
    → (let a = c.args in length s ≡ a.l → a.y ≡ word s → all_zero s ≡ false)
nonzero c s e y =
    sym (c.is_zero.ensures.strings s e y) ∙ c.if-is_zero.false

pub returns-then-is_zero : goal.returns-then-is_zero
returns-then-is_zero c =
    let zero = c.is_zero.ensures.strings in record {
      within = omega arith;
      made = λ τ s h e y f. absorbed_makes τ s (rw (zero_absorbed τ s (sym (zero s e y) ∙ c.if-is_zero.true)) tt) h;
      filter = λ τ s h e y κ f g. absorbed_filter τ s (rw (zero_absorbed τ s (sym (zero s e y) ∙ c.if-is_zero.true)) tt) g f;
    }

pub returns-then-renewed : goal.returns-then-renewed
returns-then-renewed c =
    let known = c.renewed.ensures in record {
      within = omega arith;
      made = λ τ s h e y f. absorbed_makes τ s ((known _ τ s h e y f).1 c.if-renewed.true) h;
      filter = λ τ s h e y κ f g. absorbed_filter τ s ((known _ τ s h e y f).1 c.if-renewed.true) g (known _ τ s h e y f).0;
    }

pub returns-then-starless : goal.returns-then-starless
returns-then-starless c =
    let grown = c.grow_widened.ensures in record {
      within = grown.within;
      made = λ τ s h e y f. grown.made τ s h e y (nonzero (goal.at.returns-then-starless c).After-renewed s e y);
      filter = λ τ s h e y κ f g. grown.filter τ s h e y κ (nonzero (goal.at.returns-then-starless c).After-renewed s e y) (c.renewed.ensures _ τ s h e y f).0 g;
    }

pub returns : goal.returns
returns c =
    let grown = c.grow_surveyed.ensures in record {
      within = grown.within;
      made = λ τ s h e y f. grown.made τ s h e y (nonzero (goal.at.returns c).After-renewed s e y);
      filter = λ τ s h e y κ f g. grown.filter τ s h e y κ (nonzero (goal.at.returns c).After-renewed s e y) (c.renewed.ensures _ τ s h e y f).0 g;
    }
