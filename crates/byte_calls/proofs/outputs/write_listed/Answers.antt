-- By what was read: a refusal writes nothing, and of a list `forms::write_list` promises the number and the bytes.
use mathlib.Core.Path.{sym}
use Rattle.forms.proofs.Listing.{reads_refused, reads_list}
use Rattle.byte_calls.proofs.Written.{output_refusal, output_table}
use Rattle.byte_calls.proofs.outputs.write_listed.Goals as goal

pub write_list-requires : goal.write_list-requires
write_list-requires c =
    let m = reads_list c.requires.1 c.in-Ok.is in
    (m.width, (m.entries, m.held))

pub returns-in-Err : goal.returns-in-Err
returns-in-Err c =
    let x = c.args in
    λ a reads. rw c.from.ensures
    (output_refusal x.layout x.out.now (reads_refused reads c.in-Err.is))

pub returns-in-Ok : goal.returns-in-Ok
returns-in-Ok c =
    let x = c.args in
    λ a reads.
    let m = reads_list reads c.in-Ok.is in
    rw c.answer_number.ensures
    (output_table x.layout x.out.now (sym m.is) (c.write_list.ensures m.entries m.held))
