use mathlib.Core.Path.{◌≡◌, refl, sym, ◌∙◌}
use mathlib.Core.List.{[]}
use mathlib.Core.Option.{none}
use Prim.Native.Nat.{ℕ}
use native.Mathlib.Omega.{arith}
use lib.ListN.{get_or}
use Rattle.model.specs.Growth.{Entries, grow_all}
use Rattle.lists.specs.WorkingLists.{Holds, stops}
use Rattle.lists.specs.Filters.{Filters}
use Rattle.lists.proofs.Holding.{holds_length, makes_full, within_count}
use Rattle.lists.proofs.SoFar.{so_far_start, so_far_step, so_far_stop, so_far_end, so_far_known}
use Rattle.lists.proofs.Absorption.{skip_seen}
use Rattle.lists.proofs.filter.grow_unseen.Goals as goal
use Rattle.lists.proofs.filter.grow_unseen.Goals.{In_err-k}

-- what a full list says of the whole
full : (c : In_err-k) (τ ρ : Entries)
    → (let a = c.args in
    Holds a.l a.list.now a.n τ → Holds a.l a.row.now a.m ρ → Filters a.l a.seen.now τ
    → grow_all τ ρ ≡ none)
full c τ ρ h y f =
    let lp = c.loop-j in
    let w = lp.invariant.2 τ ρ h y f in
    let made = c.grow_noted.ensures.made _ (get_or ρ lp.j []) w.held (holds_length y lp.j (omega arith))
    (y.here lp.j (omega arith)) w.known in
    makes_full (so_far_stop w [] (omega (arith, y.count)) made {l' = 0} {list'' = []} c.in_err-k.was) refl

pub loop-j-init : goal.loop-j-init
unfolding grow_all
loop-j-init c =
    let u = c.unseen-j.ensures in
    (u.1, omega arith, λ τ ρ h y f. skip_seen y (so_far_start h refl f) _ u.0 u.1 u.2)

pub returns-in_err-k : goal.returns-in_err-k
returns-in_err-k c =
    rw c.from_residual.ensures (record {
      within = tt;
      made = λ τ ρ h y f. rw (full (goal.at.returns-in_err-k c).In_err-k τ ρ h y f) stops;
      filter = λ τ ρ κ h y f e. absurd (let q = sym (full (goal.at.returns-in_err-k c).In_err-k τ ρ h y f) ∙ e in let z : ◌≡◌ {A = ℕ} 0 1 = cc in omega arith);
    })

pub loop-j-preserved : goal.loop-j-preserved
loop-j-preserved c =
    let lp = c.loop-j in
    let g = c.grow_noted.ensures in
    let is = c.in_ok-k.was in
    let u = c.unseen-j-in-loop-j.ensures in (
      u.1,
      within_count g.within is,
      λ τ ρ h y f.
          let w = lp.invariant.2 τ ρ h y f in
          let long = holds_length y lp.j (omega arith) in
          let here = y.here lp.j (omega arith) in
          let next = so_far_step w [] (omega (arith, y.count)) (g.made _ _ w.held long here w.known) is
          (λ κ e. g.filter _ _ w.held long here κ w.known e) in
          skip_seen y next _ u.0 u.1 u.2,
    )

pub returns : goal.returns
returns c =
    let lp = c.loop-j in record {
      within = lp.invariant.1;
      made = λ τ ρ h y f. so_far_end (lp.invariant.2 τ ρ h y f) (omega (arith, y.count));
      filter = λ τ ρ κ h y f e. so_far_known (lp.invariant.2 τ ρ h y f) (omega (arith, y.count)) e;
    }
