-- A refusal keeps the whole state; else the table is as it was or that of the list, and one more is counted.
use Rattle.std.specs.Prelude.{Ok}
use mathlib.Core.Path.{sym, ap, ◌∙◌}
use Rattle.std.proofs.lemmas.Result.{err_from_is_err_and}
use Rattle.tables.specs.Values.{accepts}
use Rattle.lists.proofs.TableValues.{came_refused, came_same, came_count, bounded_count}
use Rattle.running.proofs.Advancing.{follows_refused, follows_accepted}
use Rattle.running.proofs.answered.Goals as goal
use Rattle.running.proofs.answered.Goals.{in-Same, in-Count}

pub table-s-requires : goal.table-s-requires
table-s-requires c = bounded_count c.requires (c.in_ok-came.was ∙ ap Ok c.in-Count.is)

pub returns-in_err-came : goal.returns-in_err-came
returns-in_err-came c =
    λ a comes.
    let p = err_from_is_err_and c.from_residual.result c.from_residual.ensures.1 in
    rw (p.1, p.2) (follows_refused _ (came_refused comes c.in_err-came.was))

pub returns : goal.returns
returns c =
    λ a comes.
    let more = c.one_more-s.ensures in
    elim c.match-branch-2.branch [
      | in-Same w ↦ follows_accepted _ (came_same comes (c.in_ok-came.was ∙ ap Ok w.in-Same.is)) w.s-is more
      | in-Count w ↦
          let m = came_count comes (c.in_ok-came.was ∙ ap Ok w.in-Count.is) in
          follows_accepted _ (ap accepts (w.table-s.ensures m.0 m.1) ∙ sym m.2) w.s-is more
    ]
