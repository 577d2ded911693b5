-- A string of l positions is all zero exactly where its word is that of `zero` (`word_zero`).
use Rattle.std.proofs.Common.{refl}
use Rattle.words.proofs.Words.{word_zero}
use Rattle.words.proofs.is_zero.Goals as goal

pub returns : goal.returns
returns c =
    rw c.zero.ensures.words record {
      words = refl;
      strings = λ s n ea. rw (ea, ← n) (word_zero s (rw n c.requires));
    }
