use mathlib.Core.Bool.{false}
use mathlib.Core.List.{[]}
use mathlib.Core.Path.{◌≡◌, sym, ◌∙◌}
use Prim.Native.Nat.{ℕ, ◌≤◌, ◌<◌, ◌+◌}
use native.Mathlib.Omega.{arith}
use borrow.Author.Count.{below_more}
use Rattle.std.specs.Prelude.{Option, Some, None, MatchOption}
use lib.ListN.{length, get_or}
use Rattle.model.specs.Strings.{Trits, matches}
use Rattle.model.specs.Growth.{Entries}
use Rattle.lists.proofs.Slices.{words_length}
use Rattle.covering.proofs.cover.nearest.Goals as goal
use Rattle.covering.proofs.cover.nearest.Invariants.{Best}
use Rattle.covering.proofs.cover.nearest.Goals.{in-Some+then-k-few, in-Some+else-k-few, in_default}

module _ (τ : Entries) (s : Trits) (i : ℕ) where
  -- entry i does not match
  best_passed : (o : Option ℕ) → matches (get_or τ i []) s ≡ false → Best τ s i o → Best τ s (i + 1) o
  best_passed (Some r) m b = b
  best_passed None m b = below_more _ i b m

  -- it leaves k pieces, which are no fewer: there is a best already
  best_stays : (o : Option ℕ) (n : ℕ) {few k : ℕ} → few ≤ k → k ≤ 64 → MatchOption o (64 < few) (λ r. r < n) → Best τ s i o
      → Best τ s (i + 1) o
  best_stays (Some r) n more top few b = b
  best_stays None n more top few b = absurd (omega arith)

pub loop-i-preserved : goal.loop-i-preserved
loop-i-preserved c =
    let w = c.loop-i in
    let lt : w.i < length c.args.list.now = omega arith in (
      elim c.match-rank.branch [
        | in-Some+then-k-few p ↦ rw p.best-is lt
        | in-Some+else-k-few p ↦ rw (p.best-is, p.few-is) w.invariant.0
        | in_default p ↦ rw (p.best-is, p.few-is) w.invariant.0
      ],
      λ l τ s h e is.
          let long = words_length h _ lt in
          let b = w.invariant.1 l τ s h e is in
          let short : length (get_or τ w.i []) ≤ 32 = rw long h.short in
          elim c.match-rank.branch [
            | in-Some+then-k-few p ↦
                rw p.best-is
                (omega (arith, lt, h.count), p.in-Some.ensures.strings _ s (long ∙ sym e) short (h.here _ lt) is)
            | in-Some+else-k-few p ↦
                rw p.best-is (best_stays τ s _ w.best _ p.if-k-few.false p.in-Some.ensures.bound w.invariant.0 b)
            | in_default p ↦
                rw p.best-is
                (best_passed τ s _ w.best
                (p.in_default.ensures.strings _ s (long ∙ sym e) short (h.here _ lt) is) b)
          ],
    )
