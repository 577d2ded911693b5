-- The text of the table that was read is that of a table, from the first byte on.
use mathlib.Core.Path.{◌∙◌}
use native.Mathlib.Nat.{zero-add}
use native.Mathlib.Omega.{arith}
use Rattle.tables.proofs.Checking.{width_most}
use Rattle.text.proofs.runs.write_first.Goals as goal

pub write_table-requires : goal.write_table-requires
write_table-requires c =
    let most = width_most _ c.requires.0.width in (
      omega arith,
      omega arith,
      omega (arith, most),
      c.requires.0,
      c.requires.1,
    )

pub returns : goal.returns
returns c = (c.write_table.ensures.0 ∙ zero-add _, c.write_table.ensures.1)
