-- Two stores are the two bytes of the number.
use native.Mathlib.Numerals.{add-one}
use Rattle.codec.specs.Numbers.{word_bytes}
use Rattle.codec.proofs.write_number.Goals as goal

pub returns : goal.returns
unfolding word_bytes
returns c = rw add-one
