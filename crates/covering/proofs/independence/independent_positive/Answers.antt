use mathlib.Core.Path.{◌≡◌, sym, ap, ◌∙◌}
use mathlib.Core.Bool.{Bool, not, ◌&&◌}
use Prim.Native.Nat.{ℕ, ◌<◌, ◌+◌}
use native.Mathlib.Omega.{arith}
use lib.ListN.{length, drop}
use Rattle.model.specs.Tables.{positive}
use Rattle.model.specs.Questions.{independent}
use Rattle.lists.proofs.Slices.{words_length}
use Rattle.covering.proofs.MeetingSets.{positive_next, positive_end}
use Rattle.covering.proofs.independence.independent_positive.Goals as goal

pub returns-then-joins : goal.returns-then-joins
returns-then-joins c =
    λ l τ x y h u v p q.
    let i = c.loop-e.e-index in
    let lt : i < length c.args.list.now = omega arith in
    let n = words_length h i lt in
    sym (c.loop-e.invariant l τ x y h u v p q
    ∙ positive_next l x y τ i (omega (arith, lt, h.count)) n _
    (c.joins.ensures _ x y (rw n h.short) (u ∙ sym n) (v ∙ sym n) (h.here i lt) p q)
    ∙ ap (λ (r : Bool). not r && independent positive l (drop (i + 1) τ) x y) c.if-joins.true)

pub loop-e-preserved : goal.loop-e-preserved
loop-e-preserved c =
    λ l τ x y h u v p q.
    let i = c.loop-e.e-index in
    let lt : i < length c.args.list.now = omega arith in
    let n = words_length h i lt in
    c.loop-e.invariant l τ x y h u v p q
    ∙ positive_next l x y τ i (omega (arith, lt, h.count)) n _
    (c.joins.ensures _ x y (rw n h.short) (u ∙ sym n) (v ∙ sym n) (h.here i lt) p q)
    ∙ ap (λ (r : Bool). not r && independent positive l (drop (i + 1) τ) x y) c.if-joins.false

pub returns : goal.returns
returns c =
    λ l τ x y h u v p q.
    let n : c.loop-e.e-index ≡ length τ = omega (arith, h.count) in
    sym (c.loop-e.invariant l τ x y h u v p q ∙ ap (λ (k : ℕ). independent positive l (drop k τ) x y) n
    ∙ positive_end l x y τ)
