use Rattle.std.proofs.Common.{arith}
use Rattle.terms.proofs.TokenScans.{variable_at, word_variable, word_head, word_end}
use Rattle.terms.proofs.variables.Goals as goal
use Rattle.terms.proofs.variables.Goals.{then-t-lt-FIRST_HEAD, else-t-lt-FIRST_HEAD}

pub overflow_sub-set : goal.overflow_sub-set
overflow_sub-set c = (variable_at _ _ c.loop-t.t-index c.requires (omega arith) c.if-t-lt-FIRST_HEAD.true).0

pub overflow_shl-set : goal.overflow_shl-set
overflow_shl-set c = (variable_at _ _ c.loop-t.t-index c.requires (omega arith) c.if-t-lt-FIRST_HEAD.true).1

pub loop-t-preserved : goal.loop-t-preserved
loop-t-preserved c =
    let lp = c.loop-t in
    elim c.if-t-lt-FIRST_HEAD.branch [
      | then-t-lt-FIRST_HEAD w ↦
          rw w.set-is (word_variable _ lp.set lp.t-index lp.invariant _ c.requires (omega arith) w.if-t-lt-FIRST_HEAD.true)
      | else-t-lt-FIRST_HEAD w ↦
          rw w.set-is (word_head _ lp.set lp.t-index lp.invariant (omega arith) w.if-t-lt-FIRST_HEAD.false)
    ]

pub returns : goal.returns
returns c = let lp = c.loop-t in word_end _ lp.set lp.t-index lp.invariant (omega arith)
