-- The tokens of each side, at most 1024, stand at the front of the array that they were read into, with room for 32 or
-- 1024.
use mathlib.Core.Path.{◌≡◌, sym}
use Prim.Native.Nat.{◌+◌, ◌/◌, ◌≤◌}
use native.Mathlib.Omega.{arith}
use borrow.Author.Rules.{rules}
use borrow.Author.Tests.{leb-true}
use lib.Dec.{lit<}
use lib.ListN.{length}
use lib.Seq.{length-take-le}
use Rattle.tables.proofs.Tests.{both_true}
use Rattle.byte_calls.proofs.AfterChecks.{both_bytes_few, tokens_taken}
use Rattle.byte_calls.proofs.unify_tokens.Goals as goal
use Rattle.byte_calls.proofs.unify_tokens.Goals.{Start, Then-k-m}

-- where both are short
short : (c : Then-k-m) → let a = c.args in
    (length a.left.now / 2 ≤ 32) × (length a.right.now / 2 ≤ 32)
short c =
    let t = both_true _ _ c.if-k-m.true in
    (leb-true _ 32 t.0, leb-true _ 32 t.1)

-- together they are at most 1024
few : (c : Start) → length c.args.left.now / 2 + length c.args.right.now / 2 ≤ 1024
few c = both_bytes_few c.args.left.now c.args.right.now c.requires.1

pub tokens_at-few-requires : goal.tokens_at-few-requires
tokens_at-few-requires c = (lit< tt, ((short (goal.at.tokens_at-few-requires c).Then-k-m).0, omega arith))

pub tokens_at-other-requires : goal.tokens_at-other-requires
tokens_at-other-requires c = (lit< tt, ((short (goal.at.tokens_at-other-requires c).Then-k-m).1, omega arith))

pub slice_bounds-unify_parts-end : goal.slice_bounds-unify_parts-end
slice_bounds-unify_parts-end c =
    let row = c.tokens_at-few.result in
    let long : length row ≡ 32 = search rules in
    sym (length-take-le _ row (omega (arith, (short (goal.at.slice_bounds-unify_parts-end c).Then-k-m).0, long)))

pub slice_bounds-unify_parts-end-then-k-m : goal.slice_bounds-unify_parts-end-then-k-m
slice_bounds-unify_parts-end-then-k-m c =
    let row = c.tokens_at-other.result in
    let long : length row ≡ 32 = search rules in
    sym (length-take-le _ row (omega (arith, (short (goal.at.slice_bounds-unify_parts-end-then-k-m c).Then-k-m).1, long)))

pub unify_parts-requires : goal.unify_parts-requires
unify_parts-requires c = c.requires.0

pub returns-then-k-m : goal.returns-then-k-m
returns-then-k-m c =
    let a = c.args in
    let g = c.unify_parts.ensures in record {
      bounded = g.bounded;
      comes = rw (
        sym (tokens_taken 32 a.left.now c.tokens_at-few.ensures),
        sym (tokens_taken 32 a.right.now c.tokens_at-other.ensures),
      )
          g.comes;
    }

pub tokens_at-row-requires : goal.tokens_at-row-requires
tokens_at-row-requires c = (lit< tt, (omega (arith, few (goal.at.tokens_at-row-requires c).Start), omega arith))

pub tokens_at-others-requires : goal.tokens_at-others-requires
tokens_at-others-requires c = (lit< tt, (omega (arith, few (goal.at.tokens_at-others-requires c).Start), omega arith))

pub slice_bounds-unify_parts-end-2 : goal.slice_bounds-unify_parts-end-2
slice_bounds-unify_parts-end-2 c =
    let row = c.tokens_at-row.result in
    let long : length row ≡ 1024 = search rules in
    sym (length-take-le _ row (omega (arith, few (goal.at.slice_bounds-unify_parts-end-2 c).Start, long)))

pub slice_bounds-unify_parts-end-3 : goal.slice_bounds-unify_parts-end-3
slice_bounds-unify_parts-end-3 c =
    let row = c.tokens_at-others.result in
    let long : length row ≡ 1024 = search rules in
    sym (length-take-le _ row (omega (arith, few (goal.at.slice_bounds-unify_parts-end-3 c).Start, long)))

pub unify_parts-requires-2 : goal.unify_parts-requires-2
unify_parts-requires-2 c = c.requires.0

pub returns : goal.returns
returns c =
    let a = c.args in
    let g = c.unify_parts-2.ensures in record {
      bounded = g.bounded;
      comes = rw (
        sym (tokens_taken 1024 a.left.now c.tokens_at-row.ensures),
        sym (tokens_taken 1024 a.right.now c.tokens_at-others.ensures),
      )
          g.comes;
    }
