-- The sizes and the entries follow one another without a gap, so that together they are the form.
use native.Mathlib.Omega.{arith}
use Prim.Native.Nat.{◌≤◌}
use lib.ListN.{length}
use Rattle.tables.proofs.Checking.{width_most}
use Rattle.forms.specs.TableForms.{form_length}
use Rattle.forms.proofs.Outcomes.{form_sizes}
use Rattle.forms.proofs.Writing.{list_narrow, list_fits}
use Rattle.forms.proofs.write_list.Goals as goal
use Rattle.forms.proofs.write_list.Goals.{Else-out-form_length, Start}

-- a list holds no more strings than a table has entries
few : (c : Start) → c.args.n ≤ 256
few c = let h = c.requires.1.1 in omega (arith, h.count, h.good.few)

-- there is room for it
fits_in : (c : Else-out-form_length) → let a = c.args in form_length a.layout a.l a.n ≤ length a.out.now
fits_in c = rw c.form_length.ensures at c.if-out-form_length.false

-- and so for the sizes
sizes_in : (c : Else-out-form_length) → 4 ≤ length c.args.out.now
sizes_in c = let a = c.args in omega (arith, fits_in c, form_sizes a.layout a.l a.n)

pub form_length-requires : goal.form_length-requires
form_length-requires c = (omega (arith, width_most _ c.requires.0), few (goal.at.form_length-requires c).Start)

pub returns-then-out-form_length : goal.returns-then-out-form_length
returns-then-out-form_length c =
    let a = c.args in
    let short = rw c.form_length.ensures at c.if-out-form_length.true in
    λ τ h. list_narrow a.layout c.requires.0 h a.out.now short

pub write_number-requires : goal.write_number-requires
write_number-requires c = omega (arith, sizes_in (goal.at.write_number-requires c).Else-out-form_length)

pub write_number-requires-2 : goal.write_number-requires-2
write_number-requires-2 c =
    omega (arith, sizes_in (goal.at.write_number-requires-2 c).Else-out-form_length, c.write_number.auto.b)

pub write_listed-requires : goal.write_listed-requires
write_listed-requires c = (
  c.requires.1,
  omega (
    arith,
    fits_in (goal.at.write_listed-requires c).Else-out-form_length,
    c.write_number.auto.b,
    c.write_number-2.auto.b,
  ),
)

pub returns : goal.returns
returns c =
    let a = c.args in
    λ τ h. list_fits a.layout c.requires.0 h a.out.now (fits_in (goal.at.returns c).Else-out-form_length)
    c.write_number.ensures c.write_number-2.ensures (c.write_listed.ensures τ h)
