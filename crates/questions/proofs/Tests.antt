-- The test before independence is asked, and the answer to a question. Assumes nothing.
use mathlib.Core.Path.{◌≡◌, refl, ap₂}
use mathlib.Core.Bool.{Bool, true, false, ◌&&◌}
use Prim.Native.Nat.{ℕ, ◌-◌, ◌^◌}
use lib.Dec.{leb}
use Rattle.std.specs.Prelude.{Ok}
use Rattle.tables.proofs.Tests.{below_full}
use Rattle.questions.specs.Replies.{replies, good_sets}

pub sets_test : (l a b full : ℕ) → full ≡ 2 ^ l - 1 → (leb a full && leb b full) ≡ good_sets l a b
unfolding good_sets
sets_test l a b full e = ap₂ ◌&&◌ (below_full l a full e) (below_full l b full e)

-- An answer as a reply is the code's `Ok` of it.
pub reply_is : (b : Bool) → replies b ≡ Ok b
unfolding replies
reply_is true = refl
reply_is false = refl
