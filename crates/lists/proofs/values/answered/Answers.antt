-- By what came: `came_refused`, `came_same`, `came_count`.
use Rattle.std.specs.Prelude.{Ok}
use mathlib.Core.Path.{sym, ap, ◌∙◌}
use Rattle.tables.specs.Values.{accepts}
use Rattle.lists.proofs.TableValues.{came_refused, came_same, came_count, bounded_count}
use Rattle.lists.proofs.values.answered.Goals as goal

pub table-requires : goal.table-requires
table-requires c =
    let arm = c.in-Ok-Count in bounded_count c.requires (arm.is ∙ ap Ok (rw arm.is at arm.field-0-is))

pub returns-in-Err : goal.returns-in-Err
returns-in-Err c = λ a comes. came_refused comes c.in-Err.is

pub returns-in-Ok-Same : goal.returns-in-Ok-Same
returns-in-Ok-Same c =
    let arm = c.in-Ok-Same in λ a comes. came_same comes (arm.is ∙ ap Ok (rw arm.is at arm.field-0-is))

pub returns-in-Ok-Count : goal.returns-in-Ok-Count
returns-in-Ok-Count c =
    let arm = c.in-Ok-Count in λ a comes.
    let m = came_count comes (arm.is ∙ ap Ok (rw arm.is at arm.field-0-is)) in
    ap accepts (c.table.ensures m.0 m.1) ∙ sym m.2
