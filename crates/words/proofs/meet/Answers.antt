-- Of strings that match, the bits of either word are those of the meet (`word_meet`).
use Rattle.std.proofs.Common.{refl}
use Rattle.words.proofs.Words.{word_meet}
use Rattle.words.proofs.meet.Goals as goal

pub returns : goal.returns
returns c =
    record {
      words = refl;
      strings = λ s t n short ea eb m. rw (ea, eb) (word_meet s t n short m);
    }
