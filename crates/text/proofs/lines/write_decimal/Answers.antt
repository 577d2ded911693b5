-- Below 10, below 100 and above, the stored digits are those of the decimal, from its first place on.
use mathlib.Core.Path.{◌≡◌}
use Prim.Native.Nat.{suc, ◌+◌}
use native.Mathlib.Omega.{arith}
use native.Mathlib.Numerals.{add-one}
use lib.ListN.{length-set}
use Rattle.text.proofs.Writing.{one_digit, two_digits, three_digits}
use Rattle.text.proofs.lines.write_decimal.Goals as goal

pub bounds-out-at : goal.bounds-out-at
bounds-out-at c =
    let long = rw (one_digit _ c.if-n-lt10.true) at c.requires.1 in omega (arith, long)

pub bounds-out-at-then-n-lt100 : goal.bounds-out-at-then-n-lt100
bounds-out-at-then-n-lt100 c =
    let long = rw (two_digits _ c.if-n-lt10.false c.if-n-lt100.true) at c.requires.1 in omega (arith, long)

pub bounds-out-at-then-n-lt100-2 : goal.bounds-out-at-then-n-lt100-2
bounds-out-at-then-n-lt100-2 c =
    let long = rw (two_digits _ c.if-n-lt10.false c.if-n-lt100.true) at c.requires.1 in simp length-set
    (omega (arith, long))

pub bounds-out-at-else-n-lt100 : goal.bounds-out-at-else-n-lt100
bounds-out-at-else-n-lt100 c =
    let long = rw (three_digits _ c.if-n-lt100.false) at c.requires.1 in omega (arith, long)

pub bounds-out-at-else-n-lt100-2 : goal.bounds-out-at-else-n-lt100-2
bounds-out-at-else-n-lt100-2 c =
    let long = rw (three_digits _ c.if-n-lt100.false) at c.requires.1 in simp length-set (omega (arith, long))

pub bounds-out-at-else-n-lt100-3 : goal.bounds-out-at-else-n-lt100-3
bounds-out-at-else-n-lt100-3 c =
    let long = rw (three_digits _ c.if-n-lt100.false) at c.requires.1 in simp length-set (omega (arith, long))

pub returns-then-n-lt10 : goal.returns-then-n-lt10
returns-then-n-lt10 c = rw (one_digit _ c.if-n-lt10.true, c.digit.ensures)

pub returns-then-n-lt100 : goal.returns-then-n-lt100
returns-then-n-lt100 c =
    rw (
      two_digits _ c.if-n-lt10.false c.if-n-lt100.true,
      c.digit-then-n-lt100.ensures,
      c.digit-then-n-lt100-2.ensures,
      add-one,
    )

pub returns-else-n-lt100 : goal.returns-else-n-lt100
returns-else-n-lt100 c =
    let e : c.args.at + 2 ≡ suc (suc c.args.at) = omega arith in
    rw (
      three_digits _ c.if-n-lt100.false,
      c.digit-else-n-lt100.ensures,
      c.digit-else-n-lt100-2.ensures,
      c.digit-else-n-lt100-3.ensures,
      add-one,
      e,
    )
