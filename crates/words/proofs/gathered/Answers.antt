use Rattle.std.proofs.Common.{◌≡◌, arith}
use Rattle.words.proofs.GatheredBits.{gathered_kept, gathered_left, gathered_end}
use Rattle.words.proofs.gathered.Goals as goal
use Rattle.words.proofs.gathered.Goals.{then-keep-i-eq1, else-keep-i-eq1}

pub loop-i-preserved : goal.loop-i-preserved
loop-i-preserved c =
    let l = c.loop-i in
    elim c.if-keep-i-eq1.branch [
      | then-keep-i-eq1 w ↦
          rw (w.out-is, w.at-is) (gathered_kept _ _ l.out l.at l.i l.invariant (omega arith) w.if-keep-i-eq1.true)
      | else-keep-i-eq1 w ↦
          rw (w.out-is, w.at-is) (gathered_left _ _ l.out l.at l.i l.invariant (omega arith) w.if-keep-i-eq1.false)
    ]

pub returns : goal.returns
returns c =
    let l = c.loop-i in
    let e : l.i ≡ 32 = omega arith in
    gathered_end _ _ l.out l.at (rw e at l.invariant)
