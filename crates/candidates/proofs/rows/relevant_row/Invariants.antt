-- Loop (`LowestFirst`): the row has the meets at the positions of `meeting` below those left; a turn takes the lowest of
-- them, and the row has no more strings than the word that is left had bits (`ones_cleared`).
use mathlib.Core.Path.{◌≡◌}
use Prim.Native.Nat.{◌+◌, ◌≤◌, ◌<◌, ◌^◌}
use lib.Count.{ones}
use lib.ListN.{length}
use Rattle.model.specs.Groups.{Bits}
use Rattle.model.specs.Strings.{Trits, meet, one_at}
use Rattle.words.specs.Words.{word, set_word}
use Rattle.candidates.proofs.LowestFirst.{meeting}
use Rattle.candidates.proofs.LowestFirst.{LowestFirst}
use Rattle.candidates.proofs.rows.relevant_row.Given as goal

abbrev pub invariant-loop-left : goal.invariant-loop-left
invariant-loop-left l = (l.left < 2 ^ 32) × (l.k + ones l.left ≤ 32)
    × ((s : Trits) (g : Bits) → length s ≤ 32 → length g ≡ length s → l.e ≡ word s → l.m ≡ set_word g
    → LowestFirst (length s) (meeting g s) (λ j. meet s (one_at (length s) j)) l.row l.k l.left)

abbrev pub decreases-loop-left : goal.decreases-loop-left
decreases-loop-left l = l.left
