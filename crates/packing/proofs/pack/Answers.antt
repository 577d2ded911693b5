use Rattle.std.proofs.Common.{arith, rules}
use Rattle.words.proofs.Codec.{string_length}
use Rattle.packing.proofs.Bytes.{left_fits, left_all, left_turn, left_none}
use Rattle.packing.proofs.Bytes.{entry_care, of_entry}
use Rattle.packing.proofs.pack.Goals as goal
use Rattle.packing.proofs.pack.Goals.{After-powers-in-loop-i}

pub overflow_sub-stars : goal.overflow_sub-stars
overflow_sub-stars c = entry_care c.args.l _ c.args.e c.requires.1 c.full.ensures

pub loop-i-init : goal.loop-i-init
loop-i-init c = λ s o t. left_all s _ _ _ _ _ o t

pub overflow_add-b : goal.overflow_add-b
overflow_add-b c =
    let a = c.args in
    let left = of_entry a.l _ a.e c.requires.1 c.full.ensures c.loop-i.invariant in
    omega (arith, left_fits _ _ _ _ _ _ _ left, c.powers.ensures, c.powers-in-loop-i.ensures)

pub overflow_mul-b : goal.overflow_mul-b
overflow_mul-b c = omega (arith, overflow_add-b (goal.at.overflow_mul-b c).After-powers-in-loop-i)

pub loop-i-preserved : goal.loop-i-preserved
loop-i-preserved c =
    let w = c.loop-i in
    λ s o t. left_turn s _ w.i w.ones w.stars _ _ _ w.b _ (search rules) c.powers.ensures c.powers-in-loop-i.ensures
    (w.invariant s o t)

pub returns : goal.returns
returns c =
    let l = c.args.l in
    let e = c.args.e in
    let left = of_entry l _ e c.requires.1 c.full.ensures c.loop-i.invariant in
    rw (string_length l e, ← c.row_length-k.ensures) (left_none _ _ _ _ _ _ _ _ (search rules) left)
