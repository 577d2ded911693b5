-- By what came: a refusal writes nothing, and of a list `forms::write_list` promises the number and the bytes.
use Rattle.std.specs.Prelude.{Ok}
use mathlib.Core.Path.{sym, ap, ◌∙◌}
use Rattle.lists.proofs.TableValues.{came_refused, came_same, came_count}
use Rattle.byte_calls.proofs.Written.{output_refusal, output_zero, output_table}
use Rattle.byte_calls.proofs.outputs.write_came.Goals as goal

pub write_list-requires : goal.write_list-requires
write_list-requires c =
    let p = c.requires in
    rw (let arm = c.in-Ok-Count in arm.is ∙ ap Ok (rw arm.is at arm.field-0-is)) at p

pub returns-in-Err : goal.returns-in-Err
returns-in-Err c =
    let x = c.args in
    λ a comes. rw c.from.ensures
    (output_refusal x.layout x.out.now (came_refused comes c.in-Err.is))

pub returns-in-Ok-Same : goal.returns-in-Ok-Same
returns-in-Ok-Same c =
    let x = c.args in
    λ a comes. rw c.from-in-Ok-Same.ensures
    (output_zero x.layout x.out.now (came_same comes (let arm = c.in-Ok-Same in arm.is ∙ ap Ok (rw arm.is at arm.field-0-is))))

pub returns-in-Ok-Count : goal.returns-in-Ok-Count
returns-in-Ok-Count c =
    let x = c.args in
    λ a comes.
    let m = came_count comes (let arm = c.in-Ok-Count in arm.is ∙ ap Ok (rw arm.is at arm.field-0-is)) in
    rw c.answer_number.ensures
    (output_table x.layout x.out.now (sym m.2) (c.write_list.ensures m.0 m.1))
