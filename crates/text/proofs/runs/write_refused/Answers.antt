-- The line is only measured, or written where there is room for it.
use mathlib.Core.List.{◌∷◌}
use native.Mathlib.Omega.{arith}
use Rattle.tables.specs.Refusals.{refusal_number}
use Rattle.text.proofs.Writing.{decimal_most, line_length}
use Rattle.text.specs.Lines.{eq, refused, equation_text}
use Rattle.text.proofs.PartByPart.{as_measured, as_written}
use Rattle.text.proofs.Blocks.{code_small}
use Rattle.text.proofs.runs.write_refused.Goals as goal

pub line_length-requires : goal.line_length-requires
line_length-requires c = (omega arith, omega arith)

pub overflow_add-end : goal.overflow_add-end
overflow_add-end c =
    omega (
      arith,
      c.requires.0,
      c.line_length.ensures,
      decimal_most c.args.k,
      decimal_most
          c.from-code.result,
    )

pub write_line-requires : goal.write_line-requires
unfolding equation_text
write_line-requires c =
    let room = c.requires.2 c.in-Write.is in (
      c.requires.1,
      rw c.from-code.ensures (code_small c.args.r),
      rw
          c.from-code.ensures room,
    )

pub returns-in-Measure : goal.returns-in-Measure
unfolding equation_text
returns-in-Measure c =
    let own = line_length eq (32 ∷ refused) c.args.k (refusal_number c.args.r) in (
      rw (c.line_length.ensures, c.from-code.ensures) (omega (arith, own)),
      as_measured c.in-Measure.is _ _ _,
    )

pub shape_of-out : goal.shape_of-out
shape_of-out c = c.write_line.auto.out

pub returns-in-Write : goal.returns-in-Write
unfolding equation_text
returns-in-Write c =
    let own = line_length eq (32 ∷ refused) c.args.k (refusal_number c.args.r) in (
      rw (c.line_length.ensures, c.from-code.ensures) (omega (arith, own)),
      rw (c.write_line.ensures, c.from-code.ensures) (as_written
          c.in-Write.is c.args.out.now _ c.args.at),
    )
