-- A string of l positions has no `*` exactly where its care word has l bits (`word_starless`).
use Rattle.std.proofs.Common.{refl, arith, pow_pos}
use Rattle.words.proofs.Positions.{one_shl}
use Rattle.words.proofs.Words.{word_starless}
use Rattle.words.proofs.starless.Goals as goal

pub overflow_sub-result : goal.overflow_sub-result
overflow_sub-result c = rw (one_shl c.args.l 64 (omega arith)) (pow_pos c.args.l)

pub returns : goal.returns
returns c =
    rw (c.fixed.ensures.words, one_shl c.args.l 64 (omega arith))
    record {
      words = refl;
      strings = λ s n ea. rw (ea, ← n) (word_starless s (rw n c.requires));
    }
