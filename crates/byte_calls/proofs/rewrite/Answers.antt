-- The output is that of what was read.
use Rattle.byte_calls.proofs.rewrite.Goals as goal

pub write_listed-requires : goal.write_listed-requires
write_listed-requires c = (_, c.read_list-read.ensures)

pub returns : goal.returns
returns c =
    let w = c.write_listed.ensures _ c.read_list-read.ensures in record { number = w.0; bytes = w.1 }
