-- The high half is care without value, the positions that are 0; the low half is the value (`word_of_entry`).
use Rattle.std.proofs.Common.{◌^◌, ◌<◌, ◌∙◌, rules}
use lib.Bits.{bit_xor, xor_lt}
use Rattle.words.specs.Words.{word_of}
use Rattle.words.proofs.Halves.{halves_or}
use Rattle.words.proofs.Words.{word_of_entry}
use Rattle.words.proofs.U64FromEntry.from.Goals as goal

pub overflow_cast-result : goal.overflow_cast-result
overflow_cast-result c =
    let e = c.args.e in
    let h : bit_xor e.care e.value < 2 ^ 32 = xor_lt 32 e.care e.value (search rules) (search rules) in
    search rules

pub returns : goal.returns
unfolding word_of
returns c =
    let e = c.args.e in
    let is = halves_or (bit_xor e.care e.value) e.value
    (xor_lt 32 e.care e.value (search rules) (search rules))
    (search rules) in
    (is, λ s es. is ∙ rw es (word_of_entry s))
