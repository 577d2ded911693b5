use mathlib.Core.Path.{◌≡◌, sym, ap, ◌∙◌}
use Prim.Native.Nat.{◌≤◌, ◌<◌}
use native.Mathlib.Omega.{arith}
use lib.ListN.{length, get_or, take, length-append}
use lib.Seq.{sets}
use Rattle.std.proofs.lemmas.List.{get_or-take, length-take}
use Rattle.std.proofs.lemmas.Slice.Zip.{zip_turn, zip_end}
use Rattle.tables.proofs.Checking.{good_few, good_long, width_most}
use Rattle.text.proofs.Printing.{entries_turn}
use Rattle.text.proofs.Writing.{left_length, entries_end}
use borrow.Author.Rules.{rules}
use Rattle.text.proofs.lines.write_entries.Goals as goal
use Rattle.text.proofs.lines.write_entries.Goals.{In-Some}

-- the entry that a turn prints
read : (c : In-Some) → let t = c.args.t in
    let j = length c.loop-care.yielded in
    (j < t.n) × (c.in-Some.field-0-0.now ≡ get_or t.care j 0) × (c.in-Some.field-0-1.now ≡ get_or t.value j 0)
read c =
    let t = c.args.t in
    let lp = c.loop-care in
    let s = c.into_iter-care-iterator.result in
    let at = zip_turn (take t.n t.care) (take t.n t.value) lp.yielded s lp.care-iterator c.next.new.self c.next.result
    (search rules) (search rules) lp.yielded_by _ c.in-Some.is c.next.ensures.steps in
    let lt : length lp.yielded < t.n = omega (arith, at.0, length-take t.n t.care) in (
      lt,
      at.2 0 ∙ get_or-take t.n t.care (length lp.yielded) 0 lt,
      at.3 0 ∙ get_or-take t.n t.value (length lp.yielded) 0 lt,
    )

pub write_entry-here-requires : goal.write_entry-here-requires
write_entry-here-requires c =
    let lt = (read (goal.at.write_entry-here-requires c).In-Some).0 in
    let left = left_length c.requires.0 (length c.loop-care.yielded) lt in
    let most = width_most _ c.requires.0.width in
    (omega (arith, most), omega (arith, left, c.loop-care.invariant.1))

pub loop-care-preserved : goal.loop-care-preserved
loop-care-preserved c =
    let good = c.requires.0 in
    let inv = c.loop-care.invariant in
    let j = length c.loop-care.yielded in
    let r = read (goal.at.loop-care-preserved c).In-Some in
    let left = left_length good j r.0 in
    let at_end = c.write_entry-here.ensures.after in
    let printed = rw (r.1, r.2) at c.write_entry-here.ensures.printed in
    let more = entries_turn good j r.0 printed at_end (omega (arith, left, inv.1)) in
    rw (length-append c.loop-care.yielded) (
      more ∙ inv.0,
      omega (arith, left, inv.1, at_end, c.write_entry-here.auto.out),
      c.write_entry-here.auto.out ∙ inv.2,
    )

pub returns : goal.returns
returns c =
    let good = c.requires.0 in
    let t = c.args.t in
    let lp = c.loop-care in
    let s = c.into_iter-care-iterator.result in
    let end = zip_end (take t.n t.care) (take t.n t.value) lp.yielded s lp.care-iterator c.next.new.self c.next.result
    (search rules) (search rules) lp.yielded_by c.in-None.is c.next.ensures.steps in
    let few = good_few good in
    let long = good_long good in
    let le : t.n ≤ length lp.yielded =
    omega (arith, end, few, long.0, long.1, length-take t.n t.care, length-take t.n t.value) in
    sym (ap (sets lp.out lp.here) (entries_end good (length lp.yielded) le)) ∙ lp.invariant.0
