-- One return for each test, in the definition's order: `check_refused` where one fails, `check_accepted` where all hold.
use mathlib.Core.Bool.{true}
use mathlib.Core.Path.{◌≡◌, sym, ◌∙◌}
use native.Mathlib.Omega.{arith}
use borrow.Author.Tests.{le-leb, lt-leb}
use Rattle.tables.specs.Values.{good_width, all_clean, check_table}
use Rattle.tables.proofs.Checking.{width_most, check_refused, check_accepted}
use borrow.Author.Rules.{rules}
use Rattle.tables.proofs.check_parts.Goals as goal
use Rattle.tables.proofs.check_parts.Goals.{Else-not-all_clean, Else-not-good_width}

-- the width passed
wide : (c : Else-not-good_width) → good_width c.args.t.now.l ≡ true
wide c = sym c.good_width.ensures ∙ c.if-not-good_width.false

-- the entries passed
clean : (c : Else-not-all_clean) → let t = c.args.t.now in
    all_clean t.l t.n t.care t.value ≡ true
clean c = sym c.all_clean.ensures ∙ c.if-not-all_clean.false

pub returns-then-not-good_width-clause-answer : goal.returns-then-not-good_width-clause-answer
unfolding check_table
returns-then-not-good_width-clause-answer c =
    rw (sym c.good_width.ensures ∙ c.if-not-good_width.true)

pub returns-then-not-good_width-clause-good : goal.returns-then-not-good_width-clause-good
returns-then-not-good_width-clause-good c =
    (check_refused c.args.t.now
    (returns-then-not-good_width-clause-answer c)).1

pub returns-then-t-gt-ENTRIES-clause-answer : goal.returns-then-t-gt-ENTRIES-clause-answer
unfolding check_table
returns-then-t-gt-ENTRIES-clause-answer c =
    rw (wide (goal.at.returns-then-t-gt-ENTRIES-clause-answer c).Else-not-good_width, lt-leb _ 256 c.if-t-gt-ENTRIES.true)

pub returns-then-t-gt-ENTRIES-clause-good : goal.returns-then-t-gt-ENTRIES-clause-good
returns-then-t-gt-ENTRIES-clause-good c =
    (check_refused c.args.t.now
    (returns-then-t-gt-ENTRIES-clause-answer c)).1

pub all_clean-requires : goal.all_clean-requires
all_clean-requires c =
    let w = width_most _ (wide (goal.at.all_clean-requires c).Else-not-good_width) in
    (c.if-t-gt-ENTRIES.false, omega arith)

pub returns-then-not-all_clean-clause-answer : goal.returns-then-not-all_clean-clause-answer
unfolding check_table
returns-then-not-all_clean-clause-answer c =
    rw (
      wide (goal.at.returns-then-not-all_clean-clause-answer c).Else-not-good_width,
      le-leb _ 256 c.if-t-gt-ENTRIES.false,
      sym c.all_clean.ensures ∙ c.if-not-all_clean.true,
    )

pub returns-then-not-all_clean-clause-good : goal.returns-then-not-all_clean-clause-good
returns-then-not-all_clean-clause-good c =
    (check_refused c.args.t.now
    (returns-then-not-all_clean-clause-answer c)).1

pub zero_past-requires : goal.zero_past-requires
zero_past-requires c = c.if-t-gt-ENTRIES.false

pub returns-then-not-zero_past-clause-answer : goal.returns-then-not-zero_past-clause-answer
unfolding check_table
returns-then-not-zero_past-clause-answer c =
    rw (
      wide (goal.at.returns-then-not-zero_past-clause-answer c).Else-not-good_width,
      le-leb _ 256 c.if-t-gt-ENTRIES.false,
      clean (goal.at.returns-then-not-zero_past-clause-answer c).Else-not-all_clean,
      sym c.zero_past.ensures ∙ c.if-not-zero_past.true,
    )

pub returns-then-not-zero_past-clause-good : goal.returns-then-not-zero_past-clause-good
returns-then-not-zero_past-clause-good c =
    (check_refused c.args.t.now
    (returns-then-not-zero_past-clause-answer c)).1

pub returns-clause-answer : goal.returns-clause-answer
unfolding check_table
returns-clause-answer c =
    rw (
      wide (goal.at.returns-clause-answer c).Else-not-good_width,
      le-leb _ 256 c.if-t-gt-ENTRIES.false,
      clean (goal.at.returns-clause-answer c).Else-not-all_clean,
      sym c.zero_past.ensures ∙ c.if-not-zero_past.false,
    )

pub returns-clause-good : goal.returns-clause-good
returns-clause-good c =
    (check_accepted c.args.t.now (search rules) (search rules)
    (returns-clause-answer c)).1
