use mathlib.Core.Path.{◌≡◌, refl, sym, ◌∙◌}
use mathlib.Core.Bool.{false}
use Prim.Native.Nat.{◌-◌, ◌/◌, ◌<◌, ◌^◌}
use native.Mathlib.Omega.{arith}
use lib.Bits.{bit_and, and_le_l, xor_lt}
use lib.Count.{ones-le, count_trailing_zeros}
use lib.ListN.{length, get_or}
use Rattle.model.specs.Strings.{matches, one_at}
use Rattle.model.proofs.Candidates.{meet_length}
use Rattle.model.proofs.Positions.{one_at_length}
use Rattle.words.proofs.Codec.{set_inside}
use Rattle.words.proofs.Positions.{one_shl}
use Rattle.words.proofs.Words.{one_word, both_true}
use Rattle.candidates.proofs.LowestFirst.{meeting, meeting_length, meeting_at, meeting_meets, ones_cleared, ones_room}
use Rattle.candidates.proofs.LowestFirst.{meeting_start, lowest_here, lowest_step, lowest_end}
use Rattle.candidates.proofs.rows.relevant_row.Goals as goal

pub loop-left-init : goal.loop-left-init
loop-left-init c =
    let named = c.args.m in
    let zeros = c.args.e / 2 ^ 32 in
    let lt = xor_lt 32 named (bit_and named zeros) (omega arith) (omega (arith, and_le_l named zeros)) in (
      lt,
      omega (arith, ones-le 32 _ lt),
      λ s g short e w m. rw (w, m) (meeting_start g s c.told-row short e),
    )

pub loop-left-preserved : goal.loop-left-preserved
loop-left-preserved c =
    let lp = c.loop-left in
    let some : ¬ (lp.left ≡ 0) = λ z. absurd (omega (arith, z)) in
    let i = count_trailing_zeros 64 lp.left in
    let room = ones_room lp.k lp.left lp.invariant.0 lp.invariant.1 some in (
      omega (arith, and_le_l lp.left (lp.left - 1)),
      omega (arith, ones_cleared lp.left lp.invariant.0 some),
      λ s g short e w m.
          let p = lp.invariant.2 s g short e w m in
          let long = meeting_length g s e in
          let small : lp.left < 2 ^ 64 = omega arith in
          let here = lowest_here p long small some in
          let inside : i < length s = rw long at (set_inside (meeting g s) i here) in
          let one = one_at_length (length s) i in
          let hit = (both_true (get_or g i false) (matches s (one_at (length s) i)) (meeting_at g s i e ∙ here)).1 in
          lowest_step p long small some
          (c.meet.ensures.strings s (one_at (length s) i) (sym one) short w
          (one_shl i 64 (omega arith) ∙ sym (one_word (length s) i inside)) hit)
          (meet_length (length s) s (one_at (length s) i) refl one) (omega (arith, room)),
    )

pub returns-clause-made : goal.returns-clause-made
returns-clause-made c =
    λ s g short e w m.
    rw (meeting_meets g s e) (lowest_end (c.loop-left.invariant.2 s g short e w m) c.loop-left-test.false)
