-- The four parts and the newline follow one another without a gap, so that together they are the line.
use mathlib.Core.Path.{refl, ◌∙◌}
use Prim.Native.Nat.{◌+◌, ◌≤◌}
use native.Mathlib.Omega.{arith}
use lib.ListN.{length, length-set}
use Rattle.text.specs.Text.{decimal}
use Rattle.text.proofs.Writing.{line_length, line_written}
use Rattle.text.proofs.lines.write_line.Goals as goal
use Rattle.text.proofs.lines.write_line.Goals.{After-digits-2, Start}

-- the line fits, part by part
fits : (s : Start) → let a = s.args in
    a.at + (length a.v.now + (length (decimal a.a) + (length a.w.now + (length (decimal a.b) + 1))))
    ≤ length a.out.now
fits s = let a = s.args in omega (arith, line_length a.v.now a.w.now a.a a.b, s.requires.2)

-- the same by the digits that were counted
line_fits : (c : After-digits-2) → let a = c.args in
    a.at + (length a.v.now + (c.digits.result + (length a.w.now + (c.digits-2.result + 1))))
    ≤ length a.out.now
line_fits c =
    let a = c.args in
    omega (arith, line_length a.v.now a.w.now a.a a.b, c.requires.2, c.digits.ensures, c.digits-2.ensures)

pub overflow_add-first : goal.overflow_add-first
overflow_add-first c = omega (arith, fits (goal.at.overflow_add-first c).Start)

pub overflow_add-second : goal.overflow_add-second
overflow_add-second c = omega (arith, c.digits.ensures, fits (goal.at.overflow_add-second c).Start)

pub overflow_add-third : goal.overflow_add-third
overflow_add-third c = omega (arith, c.digits.ensures, fits (goal.at.overflow_add-third c).Start)

pub overflow_add-end : goal.overflow_add-end
overflow_add-end c = omega (arith, line_fits (goal.at.overflow_add-end c).After-digits-2)

pub write-requires : goal.write-requires
write-requires c = omega (arith, line_fits (goal.at.write-requires c).After-digits-2)

pub write_decimal-requires : goal.write_decimal-requires
write_decimal-requires c =
    (c.requires.0, omega (arith, line_fits (goal.at.write_decimal-requires c).After-digits-2, c.write.auto.out))

pub write-requires-2 : goal.write-requires-2
write-requires-2 c =
    omega (arith, line_fits (goal.at.write-requires-2 c).After-digits-2, c.write.auto.out, c.write_decimal.auto.out)

pub write_decimal-requires-2 : goal.write_decimal-requires-2
write_decimal-requires-2 c = (
  c.requires.1,
  omega (
    arith,
    line_fits (goal.at.write_decimal-requires-2 c).After-digits-2,
    c.write.auto.out,
    c.write_decimal.auto.out,
    c.write-2.auto.out,
  ),
)

pub bounds-out-end : goal.bounds-out-end
bounds-out-end c =
    omega (
      arith,
      line_fits (goal.at.bounds-out-end c).After-digits-2,
      c.write.auto.out,
      c.write_decimal.auto.out,
      c.write-2.auto.out,
      c.write_decimal-2.auto.out,
    )

pub shape_of-out : goal.shape_of-out
shape_of-out c =
    rw length-set
    (c.write_decimal-2.auto.out ∙ c.write-2.auto.out ∙ c.write_decimal.auto.out
    ∙ c.write.auto.out)

pub returns : goal.returns
returns c =
    let a = c.args in
    rw (
      c.write_decimal-2.ensures,
      c.write-2.ensures,
      c.write_decimal.ensures,
      c.write.ensures,
    )
    (line_written a.out.now a.v.now a.w.now a.a a.b a.at refl
    (omega (arith, c.digits.ensures)) refl (omega (arith, c.digits-2.ensures)))
