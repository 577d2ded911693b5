-- The two tests come in the order of the definition; then it is what came of the list.
use mathlib.Core.Path.{◌≡◌, sym, ◌∙◌}
use mathlib.Core.Bool.{true}
use native.Mathlib.Omega.{arith}
use Rattle.tables.specs.declared.Refusal.TheVariants as R
use Rattle.tables.specs.Values.{good_width}
use Rattle.tables.proofs.Checking.{width_most}
use Rattle.lists.specs.Comings.{turned}
use Rattle.conversion.specs.Conversion.{all_below}
use Rattle.operations.specs.Operations.{convert_call}
use Rattle.operations.proofs.convert_list.Goals as goal
use Rattle.operations.proofs.convert_list.Goals.{Else-not-all_below, Else-not-good_width}

-- the width is good, where it was not refused
wide : (c : Else-not-good_width) → good_width c.args.l ≡ true
wide c = sym c.good_width.ensures ∙ c.if-not-good_width.false

-- no word has a bit above l, where none was refused
below : (c : Else-not-all_below) → let a = c.args in all_below a.l a.words.now ≡ true
below c = sym c.all_below.ensures ∙ c.if-not-all_below.false

pub returns-then-not-good_width : goal.returns-then-not-good_width
unfolding convert_call
returns-then-not-good_width c =
    record {
      bounded = tt;
      comes = rw (sym c.good_width.ensures ∙ c.if-not-good_width.true) (turned R.Width);
    }

pub all_below-requires : goal.all_below-requires
all_below-requires c = omega (arith, width_most _ (wide (goal.at.all_below-requires c).Else-not-good_width))

pub returns-then-not-all_below : goal.returns-then-not-all_below
unfolding convert_call
returns-then-not-all_below c =
    record {
      bounded = tt;
      comes = rw (wide (goal.at.returns-then-not-all_below c).Else-not-good_width, sym c.all_below.ensures ∙ c.if-not-all_below.true) (turned R.Stray);
    }

pub convert-requires : goal.convert-requires
convert-requires c = omega (arith, width_most _ (wide (goal.at.convert-requires c).Else-not-good_width))

pub came_of-requires : goal.came_of-requires
came_of-requires c = c.convert.ensures.within

pub returns : goal.returns
unfolding convert_call
returns c =
    record {
      bounded = c.came_of.ensures.bounded;
      comes = rw (wide (goal.at.returns c).Else-not-good_width, below (goal.at.returns c).Else-not-all_below)
          (c.came_of.ensures.comes _ _ _ _ (c.convert.ensures.made (below (goal.at.returns c).Else-not-all_below)));
    }
