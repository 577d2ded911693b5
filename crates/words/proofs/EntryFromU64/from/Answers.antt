-- The care is what `fixed` gives, the value is the low half: the entry that the word was made of (`entry_back`).
use Rattle.std.proofs.Common.{refl}
use Rattle.words.specs.Words.{entry_of, fixed_word}
use Rattle.words.proofs.Words.{entry_back}
use Rattle.words.proofs.EntryFromU64.from.Goals as goal

pub returns : goal.returns
unfolding entry_of fixed_word
returns c =
    rw c.fixed-c.ensures.words (refl, λ s short ea. rw ea (entry_back s short))
