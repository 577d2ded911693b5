-- A refusal writes nothing; of an accepted answer `forms::write` promises the number and the bytes.
use Rattle.byte_calls.proofs.Written.{output_refused, output_accepted_is}
use Rattle.byte_calls.proofs.outputs.write_as.Goals as goal

pub returns-in-Err : goal.returns-in-Err
returns-in-Err c =
    let a = c.args in
    let o = output_refused a.layout a.a a.out.now c.in-Err.is in
    record { number = rw c.from.ensures o.0; bytes = o.1 }

pub returns-in-Ok : goal.returns-in-Ok
returns-in-Ok c =
    let a = c.args in
    let o = output_accepted_is a.layout a.a a.out.now c.in-Ok.is c.write.ensures.answer c.write.ensures.bytes in
    record { number = rw c.answer_number.ensures o.0; bytes = o.1 }
