-- The table of the state is written, and the number is that of the answer.
use Rattle.running.specs.States.{state_number, state_bytes}
use Rattle.running.proofs.write.Goals as goal

pub returns : goal.returns
unfolding state_number state_bytes
returns c = (
  rw (c.answer_number.ensures, c.write_table.ensures.answer),
  rw
      (c.write_table.ensures.bytes, c.write_table.ensures.answer),
)
