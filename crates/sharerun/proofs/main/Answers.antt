-- The text has as many bytes as it was made with.
use Rattle.std.proofs.Common.{sym}
use Rattle.std.proofs.Math.ListN.{length-replicate}
use Prim.Native.Nat.{ℕ}
use Rattle.sharerun.proofs.main.Goals as goal

pub slice_bounds-answer-end-2 : goal.slice_bounds-answer-end-2
slice_bounds-answer-end-2 c = sym (length-replicate {A = ℕ} 552500 0)
