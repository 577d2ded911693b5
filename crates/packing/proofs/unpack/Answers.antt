-- The words of all the positions tell whether the unused ones are 0, and have the entry below them (`answered`).
use Rattle.std.proofs.Common.{◌∙◌, ◌-◌, ◌*◌, length, rules}
use Rattle.std.proofs.Math.Pow.{pow_pos}
use Rattle.words.proofs.Positions.{one_shl}
use Rattle.packing.specs.Packing.{row_length}
use Rattle.packing.proofs.Unused.{answered, refused, refused_byte}
use Rattle.packing.proofs.unpack.Goals as goal

pub returns-in_err-p : goal.returns-in_err-p
returns-in_err-p c = c.from_residual.ensures ∙ refused_byte c.args.l c.args.row.now c.in_err-p.ensures

pub overflow_sub-last : goal.overflow_sub-last
unfolding row_length
overflow_sub-last c =
    let a = c.args in
    let unused = 5 * length a.row.now - a.l in
    rw (one_shl unused 64 (search rules)) (pow_pos unused)

pub returns-then-p-l : goal.returns-then-p-l
unfolding row_length
returns-then-p-l c =
    let l = c.args.l in
    let row = c.args.row.now in
    let p = c.in_ok-p.ensures in
    rw (one_shl l 64 (search rules))
    (answered l row _ _ p.0 p.1 p.2 (rw (one_shl (5 * length row - l) 64 (search rules)) at c.if-p-l.true))

pub returns : goal.returns
unfolding row_length
returns c =
    let l = c.args.l in
    let row = c.args.row.now in
    let p = c.in_ok-p.ensures in
    refused l row _ _ p.0 p.1 p.2 (rw (one_shl (5 * length row - l) 64 (search rules)) at c.if-p-l.false)
