-- By what was read into the list: `reads_refused`, `reads_list`.
use mathlib.Core.Path.{sym, ap, ◌∙◌}
use Rattle.tables.specs.Values.{accepts}
use Rattle.forms.proofs.Listing.{reads_refused, reads_list, read_few}
use Rattle.forms.proofs.read.Goals as goal

pub table-requires : goal.table-requires
table-requires c = read_few (reads_list c.read_list.ensures c.in-Ok.is)

pub returns-in-Err : goal.returns-in-Err
returns-in-Err c =
    c.refused.ensures ∙ reads_refused c.read_list.ensures c.in-Err.is

pub returns-in-Ok : goal.returns-in-Ok
returns-in-Ok c =
    let m = reads_list c.read_list.ensures c.in-Ok.is in
    ap accepts (c.table.ensures m.entries m.held) ∙ sym m.is
