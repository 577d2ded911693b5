-- A table that is accepted is that of the list that is loaded from it, and the form of that list is written.
use mathlib.Core.Path.{sym, ◌∙◌}
use native.Mathlib.Omega.{arith}
use Rattle.std.proofs.lemmas.Result.{err_from_is_err_and}
use Rattle.tables.specs.Values.{entries_of, GoodTable}
use Rattle.tables.proofs.Checking.{good_few, good_holds, width_most}
use Rattle.lists.specs.WorkingLists.{Holds}
use Rattle.forms.proofs.Outcomes.{write_refused}
use Rattle.forms.proofs.write.Goals as goal
use Rattle.forms.proofs.write.Goals.{After-load}

-- the table, as it was accepted, is good
good : (c : After-load) → GoodTable c.args.t
good c = c.check.ensures.good.0 c.in_ok-check.was

-- and what the list that is loaded from it holds
held : (c : After-load) → let t = c.args.t in Holds t.l c.load.new.list t.n (entries_of t)
held c = c.load.ensures _ _ (omega (arith, width_most _ (good c).width)) (good_holds (good c))

pub load-requires : goal.load-requires
load-requires c = good_few (c.check.ensures.good.0 c.in_ok-check.was)

pub write_list-requires : goal.write_list-requires
write_list-requires c =
    let loaded = (goal.at.write_list-requires c).After-load in
    ((good loaded).width, (_, held loaded))

pub returns-in_err-check : goal.returns-in_err-check
returns-in_err-check c =
    let a = c.args in
    let p = err_from_is_err_and c.from_residual.result c.from_residual.ensures.1 in
    let w = write_refused a.layout a.t a.out.now (sym c.check.ensures.answer ∙ c.in_err-check.was) in
    rw (p.1, p.2) (record { answer = w.0; bytes = w.1 })

pub returns : goal.returns
returns c =
    let loaded = (goal.at.returns c).After-load in
    let w = c.write_list.ensures _ (held loaded) in
    let same = (good loaded).same in
    record { answer = rw same w.0; bytes = rw same w.1 }
