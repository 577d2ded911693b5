-- The checks of the two terms give their sides, whose walk starts at the front of both rows.
use mathlib.Core.Path.{◌≡◌, sym}
use native.Mathlib.Omega.{arith}
use Rattle.std.proofs.lemmas.Result.{err_from_is_err_and}
use Rattle.model.specs.Walk.{Sides, walk_sides}
use Rattle.model.specs.Unification.{unification}
use Rattle.tables.specs.Refusals.{if_accepted}
use Rattle.tables.proofs.Checking.{good_passes}
use Rattle.lists.specs.Comings.{turned}
use Rattle.terms.specs.Checks.{reads, if_read, check_sides}
use Rattle.walks.specs.Cursors.{Rest}
use Rattle.walks.proofs.Starting.{all_tokens, sides_start}
use Rattle.operations.specs.Operations.{unify_call}
use Rattle.operations.proofs.Checked.{good_wide, answer_reads, answer_refuses}
use Rattle.operations.proofs.unify_parts.Goals as goal
use Rattle.operations.proofs.unify_parts.Goals.{In_ok-check_sides}

-- the two sides that were read, and their walk at its start
read : (c : In_ok-check_sides) → let a = c.args in (s : Sides)
    × (check_sides a.t.now.l a.left.now a.right.now ≡ reads s)
    × Rest a.t.now.l a.left.now a.right.now 0 0 (walk_sides s)
read c =
    let o = answer_reads _ (sym c.in_ok-check_sides.ensures) in (
      o.0,
      o.1,
      sides_start _ _ _ o.0 (good_wide c.requires)
          (all_tokens _ (λ i. omega (arith, c.shared_slice_known-1.given i)))
          (all_tokens _ (λ i. omega (arith, c.shared_slice_known-2-1.given i)))
          o.1,
    )

pub check_sides-requires : goal.check_sides-requires
check_sides-requires c = good_wide c.requires

pub unify_read-requires : goal.unify_read-requires
unify_read-requires c =
    let r = read (goal.at.unify_read-requires c).In_ok-check_sides in
    (c.requires, (walk_sides r.0, r.2))

pub returns-in_err-check_sides : goal.returns-in_err-check_sides
unfolding unify_call if_accepted if_read
returns-in_err-check_sides c =
    let p = err_from_is_err_and c.from_residual.result c.from_residual.ensures.1 in
    rw (p.1, p.2) (record {
      bounded = tt;
      comes = rw (good_passes _ c.requires, answer_refuses _ (sym c.in_err-check_sides.ensures)) (turned _);
    })

pub returns : goal.returns
unfolding unify_call if_accepted if_read unification
returns c =
    let r = read (goal.at.returns c).In_ok-check_sides in record {
      bounded = c.unify_read.ensures.bounded;
      comes = rw (good_passes _ c.requires, r.1)
          (c.unify_read.ensures.comes (walk_sides r.0) r.2);
    }
