-- The two bytes are the number.
use Rattle.codec.proofs.Laws.{two_bytes}
use Rattle.codec.proofs.number_at.Goals as goal

pub returns : goal.returns
returns c =
    let a = c.args in
    let low = c.wide.ensures.0 in
    rw (low, c.wide-2.ensures.0) (two_bytes a.b.now a.at)
