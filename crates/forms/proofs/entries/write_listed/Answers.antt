-- Each layout is its own writer; the table of a list holds the list.
use mathlib.Core.Path.{◌∙◌}
use native.Mathlib.Omega.{arith}
use Rattle.tables.proofs.Values.{entries_of_table}
use Rattle.forms.specs.TableForms.{entry_bytes}
use Rattle.forms.proofs.entries.write_listed.Goals as goal

pub write_plain-requires : goal.write_plain-requires
write_plain-requires c =
    let p = c.requires in
    let h = p.0.1 in
    let room = rw c.in-Plain.is at p.1 in
    (omega (arith, h.count, h.good.few), room)

pub write_rows-requires : goal.write_rows-requires
write_rows-requires c =
    let p = c.requires in
    let room = rw c.in-Packed.is at p.1 in
    (p.0, room)

pub returns-in-Plain : goal.returns-in-Plain
returns-in-Plain c =
    rw c.in-Plain.is c.write_plain.ensures

pub returns-in-Packed : goal.returns-in-Packed
unfolding entry_bytes
returns-in-Packed c =
    rw c.in-Packed.is
    (λ τ h. c.write_rows.ensures τ h ∙ rw (entries_of_table _ τ h.good))
