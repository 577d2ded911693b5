-- A form that reads has passed its tests, so that its sizes are there and in their bounds, and it is within the bytes.
use mathlib.Core.Path.{ap₂, ◌∙◌}
use native.Mathlib.Omega.{arith}
use borrow.Author.Tests.{leb-true}
use Rattle.model.specs.Growth.{limit}
use Rattle.tables.proofs.Checking.{width_most}
use Rattle.forms.specs.declared.Extent.TheVariants.{Front}
use Rattle.forms.specs.declared.Layout.TheVariants.{Plain}
use Rattle.forms.specs.TableForms.{table_length, Passed}
use Rattle.forms.proofs.Reading.{read_passed, passed_sized, passed_room}
use Rattle.forms.proofs.front_length.Goals as goal
use Rattle.forms.proofs.front_length.Goals.{Start}

-- the tests that it has passed
passed : (c : Start) → Passed Plain Front c.args.b.now
passed c = read_passed Plain Front c.args.b.now c.requires

pub number_at-l-requires : goal.number_at-l-requires
number_at-l-requires c = omega (arith, passed_sized (passed (goal.at.number_at-l-requires c).Start))

pub number_at-n-requires : goal.number_at-n-requires
number_at-n-requires c = omega (arith, passed_sized (passed (goal.at.number_at-n-requires c).Start))

pub form_length-requires : goal.form_length-requires
form_length-requires c =
    let p = passed (goal.at.form_length-requires c).Start in (
      rw c.number_at-l.ensures (width_most _ p.width),
      rw c.number_at-n.ensures (leb-true _ limit p.few),
    )

pub returns : goal.returns
returns c =
    let long = c.form_length.ensures
    ∙ ap₂ table_length c.number_at-l.ensures c.number_at-n.ensures in
    record {
      length = long;
      within = rw long (passed_room (passed (goal.at.returns c).Start));
    }
