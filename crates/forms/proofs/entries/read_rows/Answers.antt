use mathlib.Core.Path.{sym, ap, ◌∙◌}
use Prim.Native.Nat.{ℕ, ◌+◌, ◌*◌, ◌≤◌}
use native.Mathlib.Nat.{not-suc-le-zero}
use native.Mathlib.Omega.{arith}
use lib.ListN.{length, length-set}
use Rattle.words.specs.Words.{word}
use Rattle.packing.specs.Packing.{unpacked, unpacked_row}
use Rattle.lists.proofs.Holding.{run_turn}
use Rattle.codec.proofs.Rows.{row_in}
use Rattle.forms.proofs.PackedRows.{rows_most}
use Rattle.forms.proofs.Decoding.{row_told, row_at, row_part, part_length, rows_start, rows_tested}
use Rattle.forms.proofs.Decoding.{rows_ended, rows_hold}
use borrow.Author.Rules.{rules}
use Rattle.forms.proofs.entries.read_rows.Goals as goal
use Rattle.forms.proofs.entries.read_rows.Goals.{In-loop-i}

-- where the row at i begins, and its length
abbrev place : In-loop-i → ℕ
place c = 4 + c.row_length-k.result * c.loop-i.i

abbrev size : In-loop-i → ℕ
size c = c.row_length-k.result

-- it stands within the n rows, which have at most 1792 bytes
within : (c : In-loop-i) → let n = c.args.n in (place c + size c ≤ 4 + size c * n) × (size c * n ≤ 1792)
within c =
    let here = row_in (size c) c.args.n c.loop-i.i c.loop-i-test.true in
    (omega (arith, here), rows_most c.requires.0 c.requires.1 c.row_length-k.ensures)

-- and so within the bytes
in_bytes : (c : In-loop-i) → place c + size c ≤ length c.args.b.now
in_bytes c =
    let room = rw (← c.row_length-k.ensures) at c.requires.2 in
    omega (arith, (within c).0, room)

pub loop-i-init : goal.loop-i-init
loop-i-init c = let a = c.args in (search rules, rows_start a.l a.n a.b.now, λ m lt. absurd (not-suc-le-zero lt))

pub overflow_mul-at : goal.overflow_mul-at
overflow_mul-at c = let w = within (goal.at.overflow_mul-at c).In-loop-i in search (rules, w)

pub overflow_add-at : goal.overflow_add-at
overflow_add-at c = let w = within (goal.at.overflow_add-at c).In-loop-i in search (rules, w)

pub overflow_add-at-in-loop-i : goal.overflow_add-at-in-loop-i
overflow_add-at-in-loop-i c = let w = within (goal.at.overflow_add-at-in-loop-i c).In-loop-i in search (rules, w)

pub unpack-requires : goal.unpack-requires
unpack-requires c =
    let a = c.args in (
      c.table-table.ensures,
      c.requires.0,
      part_length a.l a.b.now c.loop-i.i c.row_length-k.ensures
          (in_bytes (goal.at.unpack-requires c).In-loop-i),
    )

pub returns-in_default-clause-clean : goal.returns-in_default-clause-clean
returns-in_default-clause-clean c =
    let a = c.args in
    let lp = c.loop-i in
    let part = row_part a.l a.b.now lp.i c.row_length-k.ensures in
    let told = row_told a.l (row_at a.l a.b.now lp.i) (c.in_default.ensures ∙ ap (unpacked_row a.l) part) in
    sym (rows_tested a.l a.n a.b.now lp.i c.loop-i-test.true lp.invariant.1 ∙ rw told)

pub loop-i-preserved : goal.loop-i-preserved
loop-i-preserved c =
    let a = c.args in
    let lp = c.loop-i in
    let part = row_part a.l a.b.now lp.i c.row_length-k.ensures in
    let told = row_told a.l (row_at a.l a.b.now lp.i) (c.in-Some.ensures ∙ ap (unpacked_row a.l) part) in (
      length-set lp.row lp.i _ ∙ lp.invariant.0,
      rows_tested a.l a.n a.b.now lp.i c.loop-i-test.true lp.invariant.1 ∙ rw told.0,
      run_turn lp.row (λ m. word (unpacked a.l (row_at a.l a.b.now m))) lp.i _ (omega (arith, lp.invariant.0)) lp.invariant.2
          (c.from.ensures.1 _ told.1),
    )

pub returns : goal.returns
returns c =
    let a = c.args in
    let lp = c.loop-i in
    let told = rows_ended a.l a.n a.b.now lp.i (omega arith) lp.invariant.1 in record {
      clean = sym told;
      made = λ good. rows_hold a.l a.n a.b.now lp.row c.requires.0 c.requires.1 c.requires.2
          lp.invariant.0 (λ m lt. lp.invariant.2 m (omega arith));
    }
