-- The tokens, at most 1024, stand at the front of the array that they were read into, with room for 32 or 1024.
use mathlib.Core.Path.{◌≡◌, sym}
use native.Mathlib.Omega.{arith}
use borrow.Author.Rules.{rules}
use lib.Dec.{lit<}
use lib.ListN.{length}
use lib.Seq.{length-take-le}
use Rattle.byte_calls.proofs.AfterChecks.{bytes_few, tokens_taken}
use Rattle.byte_calls.proofs.equation_tokens.Goals as goal

pub tokens_at-few-requires : goal.tokens_at-few-requires
tokens_at-few-requires c = (lit< tt, (c.if-k-le-FEW.true, omega arith))

pub slice_bounds-equation_parts-end : goal.slice_bounds-equation_parts-end
slice_bounds-equation_parts-end c =
    let row = c.tokens_at-few.result in
    let long : length row ≡ 32 = search rules in
    sym (length-take-le _ row (omega (arith, c.if-k-le-FEW.true, long)))

pub equation_parts-requires : goal.equation_parts-requires
equation_parts-requires c = c.requires.0

pub returns-then-k-le-FEW : goal.returns-then-k-le-FEW
returns-then-k-le-FEW c =
    let b = c.args.term.now in
    let g = c.equation_parts.ensures in
    record {
      bounded = g.bounded;
      comes = rw (sym (tokens_taken 32 b c.tokens_at-few.ensures)) g.comes;
    }

pub tokens_at-row-requires : goal.tokens_at-row-requires
tokens_at-row-requires c =
    (lit< tt, (bytes_few c.args.term.now c.requires.1, omega arith))

pub slice_bounds-equation_parts-end-2 : goal.slice_bounds-equation_parts-end-2
slice_bounds-equation_parts-end-2 c =
    let few = bytes_few c.args.term.now c.requires.1 in
    let row = c.tokens_at-row.result in
    let long : length row ≡ 1024 = search rules in
    sym (length-take-le _ row (omega (arith, few, long)))

pub equation_parts-requires-2 : goal.equation_parts-requires-2
equation_parts-requires-2 c = c.requires.0

pub returns : goal.returns
returns c =
    let b = c.args.term.now in
    let g = c.equation_parts-2.ensures in
    record {
      bounded = g.bounded;
      comes = rw (sym (tokens_taken 1024 b c.tokens_at-row.ensures)) g.comes;
    }
