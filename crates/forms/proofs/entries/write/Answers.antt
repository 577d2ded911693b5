-- The list that is loaded from a good table holds its entries, and these are written.
use native.Mathlib.Omega.{arith}
use Rattle.tables.specs.Values.{entries_of}
use Rattle.tables.proofs.Checking.{good_few, good_holds, width_most}
use Rattle.lists.specs.WorkingLists.{Holds}
use Rattle.forms.proofs.entries.write.Goals as goal
use Rattle.forms.proofs.entries.write.Goals.{After-load}

-- what the list that is loaded holds
held : (c : After-load) → let t = c.args.t in Holds t.l c.load.new.list t.n (entries_of t)
held c =
    let g = c.requires.0 in
    c.load.ensures _ _ (omega (arith, width_most _ g.width)) (good_holds g)

pub load-requires : goal.load-requires
load-requires c = good_few c.requires.0

pub write_listed-requires : goal.write_listed-requires
write_listed-requires c = ((_, held (goal.at.write_listed-requires c).After-load), c.requires.1)

pub returns : goal.returns
returns c = rw c.requires.0.same (c.write_listed.ensures _ (held (goal.at.returns c).After-load))
