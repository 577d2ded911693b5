-- The line and the entries after it are the text of the table; it is only measured, or written where there is room for it.
use mathlib.Core.Path.{◌∙◌}
use native.Mathlib.Omega.{arith}
use Rattle.tables.proofs.Checking.{good_few, width_most}
use Rattle.text.proofs.Writing.{decimal_most, line_length, entries_length}
use Rattle.text.specs.Lines.{entries, block}
use Rattle.text.proofs.PartByPart.{as_measured, as_written}
use Rattle.text.proofs.Blocks.{block_length, entries_most, block_written}
use borrow.Author.Rules.{rules}
use Rattle.text.proofs.runs.write_table.Goals as goal

pub overflow_cast-n : goal.overflow_cast-n
overflow_cast-n c = let few = good_few c.requires.3 in search (rules, few)

pub overflow_cast-n-in-Write : goal.overflow_cast-n-in-Write
overflow_cast-n-in-Write c = let few = good_few c.requires.3 in search (rules, few)

pub line_length-requires : goal.line_length-requires
line_length-requires c = (c.requires.1, omega arith)

pub overflow_add-here : goal.overflow_add-here
overflow_add-here c =
    omega (
      arith,
      c.requires.0,
      c.requires.1,
      c.line_length.ensures,
      decimal_most c.args.a,
      decimal_most c.args.t.n,
    )

pub overflow_add-end : goal.overflow_add-end
overflow_add-end c = let most = width_most _ c.requires.3.width in search (rules, most)

pub overflow_mul-end : goal.overflow_mul-end
overflow_mul-end c = let most = entries_most c.args.word.now c.args.a c.requires.3 in search (rules, most)

pub overflow_add-end-2 : goal.overflow_add-end-2
overflow_add-end-2 c =
    let most = entries_most c.args.word.now c.args.a c.requires.3 in
    omega (
      arith,
      most,
      c.requires.0,
      c.requires.1,
      c.line_length.ensures,
      decimal_most c.args.a,
      decimal_most c.args.t.n,
    )

pub write_line-requires : goal.write_line-requires
write_line-requires c =
    let few = good_few c.requires.3 in
    let room = c.requires.4 c.in-Write.is in
    let long = block_length c.args.word.now c.args.a c.requires.3 in
    let own = line_length c.args.word.now entries c.args.a c.args.t.n in
    (c.requires.2, omega (arith, few), omega (arith, room, long, own))

pub write_entries-requires : goal.write_entries-requires
write_entries-requires c =
    let room = c.requires.4 c.in-Write.is in
    let long = block_length c.args.word.now c.args.a c.requires.3 in (
      c.requires.3,
      omega (
        arith,
        room,
        long,
        entries_length c.requires.3,
        c.line_length.ensures,
        c.write_line.auto.out,
      ),
    )

pub returns-in-Measure : goal.returns-in-Measure
returns-in-Measure c =
    let long = block_length c.args.word.now c.args.a c.requires.3 in
    (omega (arith, long, c.line_length.ensures), as_measured c.in-Measure.is _ _ _)

pub shape_of-out : goal.shape_of-out
shape_of-out c =
    c.write_entries.auto.out ∙ c.write_line.auto.out

pub returns-in-Write : goal.returns-in-Write
returns-in-Write c =
    let long = block_length c.args.word.now c.args.a c.requires.3 in
    let own = line_length c.args.word.now entries c.args.a c.args.t.n in (
      omega (arith, long, c.line_length.ensures),
      rw (c.write_entries.ensures, c.write_line.ensures)
          (block_written c.args.out.now c.args.word.now c.args.a c.args.at
          c.args.t
          (omega (arith, own, c.line_length.ensures))
          ∙ as_written c.in-Write.is c.args.out.now (block
          c.args.word.now c.args.a c.args.t) c.args.at),
    )
