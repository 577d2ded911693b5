use mathlib.Core.Path.{subst}
use mathlib.Core.Option.{some}
use native.Mathlib.Omega.{arith}
use Rattle.lists.specs.WorkingLists.{Within}
use Rattle.walks.proofs.Keeping.{keeps}
use Rattle.walks.proofs.Consuming.{equation_told, last_told, never_clash}
use Rattle.operations.proofs.Applying.{so_far_start, so_far_end, so_far_full, so_far_step}
use Rattle.operations.proofs.apply_found.Goals as goal

pub loop-e-init : goal.loop-e-init
loop-e-init c =
    let g = c.requires in
    (g.0, ((g.2.0, so_far_start _ g.2.1.0 g.2.1.1), λ p r. so_far_start _ r.0 r.1))

pub next-requires : goal.next-requires
next-requires c = let k = c.loop-e.invariant.1.0 in (_, some k.1.others, k.1.rest)

pub equate-requires : goal.equate-requires
equate-requires c =
    (c.loop-e.invariant.0, c.requires.1)

pub returns-in_err-count-in-Equation : goal.returns-in_err-count-in-Equation
returns-in_err-count-in-Equation c =
    rw c.from_residual.ensures (record {
      within = tt;
      made = λ p r.
          let k = c.loop-e.invariant.1.1 p r in
          let w = equation_told (c.next.ensures _ (some k.others) k.rest) c.in-Equation.is in
          so_far_full k w c.equate.ensures.made c.in_err-count-in-Equation.was;
    })

pub loop-e-smaller : goal.loop-e-smaller
loop-e-smaller c =
    let k = c.loop-e.invariant.1.0.1 in
    let w = equation_told (c.next.ensures _ (some k.others) k.rest) c.in-Equation.is in
    omega (arith, w.onward.further, w.onward.inside)

pub loop-e-preserved : goal.loop-e-preserved
loop-e-preserved c =
    let inv = c.loop-e.invariant in (
      subst Within c.in_ok-count-in-Equation.was c.equate.ensures.within,
      keeps inv.1
          (λ p k.
          let w = equation_told (c.next.ensures _ (some k.others) k.rest) c.in-Equation.is in
          so_far_step k w c.equate.ensures.made c.in_ok-count-in-Equation.was),
    )

pub returns-in-Clash : goal.returns-in-Clash
returns-in-Clash c =
    record {
      within = tt;
      made = λ p r.
          let k = c.loop-e.invariant.1.1 p r in
          absurd (never_clash (c.next.ensures _ (some k.others) k.rest) c.in-Clash.is);
    }

pub returns-in-End : goal.returns-in-End
returns-in-End c =
    let inv = c.loop-e.invariant in record {
      within = inv.0;
      made = λ p r.
          let k = inv.1.1 p r in
          so_far_end k (last_told (c.next.ensures _ (some k.others) k.rest) c.in-End.is);
    }
