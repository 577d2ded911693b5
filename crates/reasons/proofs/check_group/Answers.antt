-- s has no bit above l exactly where it is at most the word of all l bits.
use Prim.Native.Nat.{◌^◌}
use native.Mathlib.Omega.{arith}
use borrow.Author.Tests.{lt-ltb, le-ltb}
use lib.Pow.{pow_pos}
use Rattle.reasons.specs.Verdicts.{check_group}
use Rattle.reasons.proofs.check_group.Goals as goal

pub returns-then-full-s : goal.returns-then-full-s
unfolding check_group
returns-then-full-s c =
    let a = c.args in
    rw (le-ltb a.s (2 ^ a.l) (omega (arith, c.full.ensures, c.if-full-s.true)))

pub returns-then-s-eq0 : goal.returns-then-s-eq0
unfolding check_group
returns-then-s-eq0 c =
    let a = c.args in
    rw (
      lt-ltb a.s (2 ^ a.l) (omega (arith, c.full.ensures, c.if-full-s.false, pow_pos a.l)),
      le-ltb 0 a.s (omega (arith, c.if-s-eq0.true)),
    )

pub returns : goal.returns
unfolding check_group
returns c =
    let a = c.args in
    rw (
      lt-ltb a.s (2 ^ a.l) (omega (arith, c.full.ensures, c.if-full-s.false, pow_pos a.l)),
      lt-ltb 0 a.s (omega (arith, c.if-s-eq0.false)),
    )
