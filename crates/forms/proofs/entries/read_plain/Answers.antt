-- Where every entry is clean they are grown; else 4.
use mathlib.Core.Path.{◌≡◌, sym, ◌∙◌}
use mathlib.Core.Bool.{true}
use native.Mathlib.Omega.{arith}
use Rattle.tables.proofs.Checking.{width_most}
use Rattle.forms.specs.declared.Layout.TheVariants.{Plain}
use Rattle.forms.specs.TableForms.{all_well}
use Rattle.forms.proofs.Listing.{entries_bad, entries_good}
use Rattle.forms.proofs.entries.read_plain.Goals as goal
use Rattle.forms.proofs.entries.read_plain.Goals.{Else-not-clean}

-- every entry is clean, where it was not refused
all_clean : (c : Else-not-clean) → let a = c.args in all_well Plain a.l a.n a.b.now ≡ true
all_clean c = sym c.clean.ensures ∙ c.if-not-clean.false

pub clean-requires : goal.clean-requires
clean-requires c = let p = c.requires in (omega (arith, width_most _ p.0), p.1, p.2)

pub returns-then-not-clean : goal.returns-then-not-clean
returns-then-not-clean c =
    let a = c.args in
    entries_bad Plain a.l a.n a.b.now (sym c.clean.ensures ∙ c.if-not-clean.true)

pub grow_plain-g-requires : goal.grow_plain-g-requires
grow_plain-g-requires c =
    let p = c.requires in
    (omega (arith, width_most _ p.0), p.1, p.2, all_clean (goal.at.grow_plain-g-requires c).Else-not-clean)

pub returns : goal.returns
returns c =
    let a = c.args in
    entries_good Plain a.l a.n a.b.now (all_clean (goal.at.returns c).Else-not-clean)
    (c.listed.ensures _ _ c.requires.0 c.grow_plain-g.ensures)
