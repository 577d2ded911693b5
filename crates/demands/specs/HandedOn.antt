-- What a call on byte buffers hands to the next call, for the laws from a table to the goals (`model/specs/Goals.antt`).
use Rattle.std.specs.Prelude.{◌≡◌, List, ℕ}
use Rattle.tables.specs.declared.Table.{Table}
use Rattle.tables.specs.declared.Answered.{Answered}
use Rattle.tables.specs.Values.{accepts}
use Rattle.forms.specs.declared.Extent.TheVariants.{Front}
use Rattle.forms.specs.TableForms.{read_table}
use Rattle.byte_calls.specs.Outputs.{output_number, output_bytes}

-- The exported call that answers a has returned 0, and the form that it wrote into the output reads as the table w.
pub record Writes (a : Answered) (out : List ℕ) (w : Table) : Type 0 where
  pub zero : output_number a out ≡ 0
  pub reads : read_table Front (output_bytes a out) ≡ accepts w
