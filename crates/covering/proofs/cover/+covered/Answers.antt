-- By recursion: each way through `covered` answers by one law of `Pieces` or `Narrowing`, from what the calls promise.
use mathlib.Core.Path.{◌≡◌, sym, ◌∙◌}
use Prim.Native.Nat.{◌≤◌}
use native.Mathlib.Omega.{arith}
use lib.ListN.{length}
use Rattle.lists.proofs.Slices.{words_length}
use Rattle.covering.proofs.Pieces.{covered_none, left_start, left_skip, left_fail, left_next, left_done, answer}
use Rattle.covering.proofs.Narrowing.{covered_subsumed, covered_narrowed}
use Rattle.covering.proofs.cover.+covered.Goals as goal
use Rattle.covering.proofs.cover.+covered.Goals.{then-splits+else-not-covered, else-splits}

pub returns-then-subsumed : goal.returns-then-subsumed
returns-then-subsumed t c =
    λ τ s h n e. covered_subsumed _ τ s (sym (c.subsumed.ensures.strings _ τ s h n e) ∙ c.if-subsumed.true)

pub returns-then-y-x : goal.returns-then-y-x
returns-then-y-x t c =
    λ τ s h n e.
    let f = c.narrowed-x.ensures.strings _ τ s h n e in
    c.covered.ensures τ f.string h (f.long ∙ n) f.is ∙ covered_narrowed _ τ s f

pub returns-in_default : goal.returns-in_default
returns-in_default t c =
    λ τ s h n e.
    c.is_zero.ensures.strings s n e ∙ covered_none _ τ s n (c.in_default.ensures.strings _ τ s h n e)

pub loop-i-init : goal.loop-i-init
loop-i-init t c = (
  omega arith,
  λ τ s h n e. left_start _ τ _ s _ n e (c.in-Some.ensures.strings _ τ s h n e).1,
)

pub returns-then-not-covered : goal.returns-then-not-covered
returns-then-not-covered t c =
    λ τ s h n e.
    let l = c.args.l in
    let i = c.loop-i.i in
    let near = c.in-Some.ensures.bound in
    let a = c.loop-i.invariant.1 τ s h n e in
    let long = words_length h _ near in
    let v = h.here _ near in
    let short : length a.rest ≤ 32 = rw a.long h.short in
    let split = sym (c.splits.ensures.strings a.rest _ short (rw long h.short) a.is v) ∙ c.if-splits.true in
    left_fail l i τ _ s _ a long split
    (answer l i τ _ s _ a long split _ _
    (λ k. c.opposed-piece.ensures.strings a.rest _ k short a.is v) (λ u. c.covered-then-splits.ensures τ u h)
    ∙ c.if-not-covered.true)

pub loop-i-preserved : goal.loop-i-preserved
loop-i-preserved t c =
    let l = c.args.l in
    let i = c.loop-i.i in
    let near = c.in-Some.ensures.bound in (
      elim c.if-splits.branch [
        | then-splits+else-not-covered p ↦ rw p.z-is (omega (arith, p.agreed-z.ensures.more, c.loop-i.invariant.0))
        | else-splits p ↦ rw p.z-is c.loop-i.invariant.0
      ],
      λ τ s h n e.
          let a = c.loop-i.invariant.1 τ s h n e in
          let long = words_length h _ near in
          let v = h.here _ near in
          let short : length a.rest ≤ 32 = rw a.long h.short in
          let split = c.splits.ensures.strings a.rest _ short (rw long h.short) a.is v in
          elim c.if-splits.branch [
            | then-splits+else-not-covered p ↦
                let both = sym split ∙ p.if-splits.true in
                rw p.z-is
                (left_next l i τ _ s _ a long both _ (λ k. p.agreed-z.ensures.strings a.rest _ k short a.is v)
                (answer l i τ _ s _ a long both _ _ (λ k. p.opposed-piece.ensures.strings a.rest _ k short a.is v)
                (λ u. p.covered-then-splits.ensures τ u h) ∙ p.if-not-covered.false))
            | else-splits p ↦ rw p.z-is (left_skip l i τ _ s _ a (sym split ∙ p.if-splits.false))
          ],
    )

pub returns : goal.returns
returns t c =
    λ τ s h n e.
    let near = c.in-Some.ensures.bound in
    let end : c.loop-i.i ≡ c.args.l = omega arith in
    left_done _ _ τ s _ (omega (arith, near, h.count)) (words_length h _ near)
    (rw end at (c.loop-i.invariant.1 τ s h n e))
