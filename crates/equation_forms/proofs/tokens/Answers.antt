-- The tokens of the equation are within the form (`tokens_room`).
use mathlib.Core.Path.{◌≡◌}
use Prim.Native.Nat.{◌+◌, ◌-◌, ◌*◌}
use native.Mathlib.Omega.{arith}
use borrow.Author.Rules.{rules}
use Rattle.equation_forms.proofs.Cursors.{tokens_room}
use Rattle.equation_forms.proofs.tokens.Goals as goal

pub overflow_mul-to : goal.overflow_mul-to
overflow_mul-to c =
    let h = c.span.ensures in
    let room = tokens_room c.requires.0 c.requires.1 in
    let long = c.requires.0.sizes.long in
    search (rules, h, room, long)

pub overflow_add-to : goal.overflow_add-to
overflow_add-to c =
    let h = c.span.ensures in
    let room = tokens_room c.requires.0 c.requires.1 in
    let long = c.requires.0.sizes.long in
    search (rules, h, room, long)

pub slice_bounds-result-end : goal.slice_bounds-result-end
slice_bounds-result-end c = omega (arith, c.span.ensures, tokens_room c.requires.0 c.requires.1)

pub returns : goal.returns
returns c =
    let from = 4 + 4 * c.args.c.e + 2 * c.args.c.at in
    let n = c.span.result in
    let d : from + 2 * n - from ≡ 2 * n = omega arith in
    rw (d, c.span.ensures)
