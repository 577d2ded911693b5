-- Each answer has its own text: the table after the equation, or the line of the refusal.
use native.Mathlib.Omega.{arith}
use Rattle.text.specs.Lines.{equation_text}
use Rattle.text.proofs.runs.write_equation.Goals as goal

pub write_table-requires : goal.write_table-requires
unfolding equation_text
write_table-requires c = (
  c.requires.0,
  omega arith,
  c.requires.1,
  c.requires.2,
  rw c.in-Ok.is at c.requires.3,
)

pub write_refused-requires : goal.write_refused-requires
write_refused-requires c =
    (c.requires.0, c.requires.1, rw c.in-Err.is at c.requires.3)

pub returns-in-Ok : goal.returns-in-Ok
unfolding equation_text
returns-in-Ok c =
    rw c.in-Ok.is c.write_table.ensures

pub returns-in-Err : goal.returns-in-Err
returns-in-Err c =
    rw c.in-Err.is c.write_refused.ensures
