use mathlib.Core.Path.{sym, ◌∙◌}
use Prim.Native.Nat.{◌<◌}
use lib.ListN.{length}
use native.Mathlib.Omega.{arith}
use Rattle.lists.proofs.Slices.{words_length}
use Rattle.covering.proofs.Inclusion.{within_next, within_end}
use Rattle.covering.proofs.equality.included.Goals as goal

pub returns-then-not-covered : goal.returns-then-not-covered
returns-then-not-covered c =
    λ α β ha hb.
    let w = c.loop-e in
    let lt : w.e-index < length c.args.a.now = omega arith in
    let answer = c.covered.ensures β _ hb (words_length ha _ lt) (ha.here _ lt) in
    sym (w.invariant α β ha hb
    ∙ within_next _ β α _ (omega (arith, lt, ha.count)) _ (sym (c.if-not-covered.true) ∙ answer))

pub loop-e-preserved : goal.loop-e-preserved
loop-e-preserved c =
    λ α β ha hb.
    let w = c.loop-e in
    let lt : w.e-index < length c.args.a.now = omega arith in
    let answer = c.covered.ensures β _ hb (words_length ha _ lt) (ha.here _ lt) in
    w.invariant α β ha hb
    ∙ within_next _ β α _ (omega (arith, lt, ha.count)) _ (sym (c.if-not-covered.false) ∙ answer)

pub returns : goal.returns
returns c =
    λ α β ha hb.
    sym (c.loop-e.invariant α β ha hb ∙ within_end _ β α _ (omega (arith, ha.count)))
