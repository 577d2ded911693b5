-- A refusal of the check is returned as it is; a checked table goes to `unify_checked`, which promises the same.
use mathlib.Core.Path.{sym, ◌∙◌}
use Rattle.tables.specs.Refusals.{if_accepted}
use Rattle.operations.specs.Operations.{unify_call}
use Rattle.operations.proofs.unify.Goals as goal

pub unify_checked-requires : goal.unify_checked-requires
unify_checked-requires c = c.check.ensures.good.0 c.in-Ok.is

pub returns-in-Err : goal.returns-in-Err
unfolding unify_call if_accepted
returns-in-Err c =
    rw (c.refused.ensures, sym c.check.ensures.answer ∙ c.in-Err.is)
