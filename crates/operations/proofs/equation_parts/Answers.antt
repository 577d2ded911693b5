-- What the checks of the equation come to decides: a refusal, or the equation that was read.
use Rattle.std.proofs.lemmas.Result.{err_from_is_err_and}
use Rattle.tables.specs.Refusals.{if_accepted}
use Rattle.tables.proofs.Checking.{good_passes}
use Rattle.lists.specs.Comings.{turned}
use Rattle.terms.specs.Checks.{if_read}
use Rattle.operations.specs.Operations.{equation_call}
use Rattle.operations.proofs.Checked.{good_wide}
use Rattle.operations.proofs.equation_parts.Goals as goal

pub read_equation-requires : goal.read_equation-requires
read_equation-requires c = good_wide c.requires

pub returns-in_err-e : goal.returns-in_err-e
unfolding equation_call if_accepted if_read
returns-in_err-e c =
    let p = err_from_is_err_and c.from_residual.result c.from_residual.ensures.1 in
    rw (p.1, p.2) (record {
      bounded = tt;
      comes = rw (good_passes _ c.requires, c.in_err-e.ensures) (turned _);
    })

pub returns : goal.returns
unfolding equation_call if_accepted if_read
returns c =
    let g = c.in_ok-e.ensures in record {
      bounded = c.equation_read.ensures.bounded;
      comes = rw (good_passes _ c.requires, g.1)
          (c.equation_read.ensures.comes (record { left = c.args.x; right = g.0 }) g.2);
    }
