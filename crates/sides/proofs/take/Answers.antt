use mathlib.Core.Path.{◌≡◌, sym, ◌∙◌}
use native.Mathlib.Omega.{arith}
use Rattle.lists.proofs.Holding.{holds_length}
use Rattle.sides.proofs.MatchedEntries.{matched_start, matched_more, matched_not, matched_taken}
use Rattle.sides.proofs.MatchedEntries.{matched_left}
use Rattle.sides.proofs.take.Goals as goal
use Rattle.sides.proofs.take.Goals.{else-matches, then-matches}

pub loop-i-init : goal.loop-i-init
loop-i-init c = (omega arith, λ l τ t h e is. matched_start t h c.told-taken)

pub loop-i-preserved : goal.loop-i-preserved
loop-i-preserved c =
    let w = c.loop-i in (
      elim c.if-matches.branch [
        | then-matches g ↦ omega (arith, g.k-is)
        | else-matches g ↦ omega (arith, g.k-is)
      ],
      λ l τ t h e is.
          let p = w.invariant.1 l τ t h e is in
          let long = holds_length h w.i (omega arith) in
          let here = p.left.ahead w.i (omega arith) (omega arith) in
          let same = sym (c.matches.ensures.strings _ t (long ∙ sym e) (rw long h.short) here is) in
          let le = w.invariant.0 in
          elim c.if-matches.branch [
            | then-matches g ↦ rw g.k-is (matched_more p le (omega arith) (omega arith) long (same ∙ g.if-matches.true))
            | else-matches g ↦ rw g.k-is (matched_not p le (omega arith) (omega arith) long (same ∙ g.if-matches.false))
          ],
    )

pub returns-clause-taken : goal.returns-clause-taken
returns-clause-taken c = λ l τ t h e is. matched_taken (c.loop-i.invariant.1 l τ t h e is) c.loop-i.invariant.0 h (omega arith)

pub returns-clause-left : goal.returns-clause-left
returns-clause-left c =
    λ l τ t h e is.
    let all : c.args.n ≡ c.loop-i.i = omega arith in
    rw all (matched_left (c.loop-i.invariant.1 l τ t h e is) c.loop-i.invariant.0 h (omega arith))
