use Rattle.lists.proofs.Absorption.{seen_more}
use Rattle.lists.proofs.filter.unseen.Goals as goal

pub loop-i-preserved : goal.loop-i-preserved
loop-i-preserved c =
    let lp = c.loop-i in
    let a = c.args in
    seen_more a.row.now a.seen.now _ lp.i _ lp.invariant c.slot-s.ensures c.if-seen-s.false
