-- l bits in the high half and none in the low (`zero_shl`) are the word of the all-zero string (`zero_word_is`).
use Rattle.std.proofs.Common.{◌∙◌, arith, pow_pos}
use Rattle.words.proofs.Positions.{one_shl}
use Rattle.words.proofs.Words.{zero_shl, zero_word_is}
use Rattle.words.proofs.zero.Goals as goal

pub overflow_sub-result : goal.overflow_sub-result
overflow_sub-result c = rw (one_shl c.args.l 64 (omega arith)) (pow_pos c.args.l)

pub returns : goal.returns
returns c =
    let is = zero_shl c.args.l c.requires in
    rw (one_shl c.args.l 64 (omega arith)) record {
      words = is;
      strings = λ s n z. is ∙ zero_word_is c.args.l s c.requires n z;
    }
