use mathlib.Core.Bool.{false≢true}
use mathlib.Core.Path.{sym, ◌∙◌}
use Prim.Native.Nat.{◌≤◌, ◌<◌}
use native.Mathlib.Omega.{arith}
use lib.ListN.{length}
use Rattle.covering.proofs.FirstVariables.{first_length}
use Rattle.covering.proofs.MeetingSets.{independent_no, independent_all}
use borrow.Author.Count.{below_more}
use Rattle.covering.proofs.independence.independent_negative.Goals as goal
use Rattle.covering.proofs.independence.independent_negative.Goals.{then-in_set+else-not-apart_negative, else-in_set}

pub returns-then-not-apart_negative : goal.returns-then-not-apart_negative
returns-then-not-apart_negative c =
    λ τ x y h u v p q.
    let i = c.loop-i.i in
    let z = c.first_at.ensures x (omega arith) (omega arith) p in
    independent_no _ τ x y i (sym (c.in_set.ensures x p) ∙ c.if-in_set.true)
    (sym (c.apart_negative.ensures τ _ h (first_length x i ∙ u) z y v q) ∙ c.if-not-apart_negative.true)

pub loop-i-preserved : goal.loop-i-preserved
loop-i-preserved c =
    λ τ x y h u v p q.
    let i = c.loop-i.i in
    let here : i < length x = omega arith in
    let few : length x ≤ 32 = omega arith in
    below_more _ _ (c.loop-i.invariant τ x y h u v p q) (λ t.
    elim c.if-in_set.branch [
      | then-in_set+else-not-apart_negative w ↦
          sym (w.apart_negative.ensures τ _ h (first_length x i ∙ u) (w.first_at.ensures x here few p) y v q)
          ∙ w.if-not-apart_negative.false
      | else-in_set w ↦ absurd (false≢true (sym w.if-in_set.false ∙ c.in_set.ensures x p ∙ t))
    ])

pub returns : goal.returns
returns c =
    λ τ x y h u v p q.
    independent_all _ τ x y u (λ k lt. c.loop-i.invariant τ x y h u v p q k (omega arith))
