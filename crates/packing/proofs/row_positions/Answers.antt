use Rattle.std.proofs.Common.{◌≡◌, ◌+◌, ◌-◌, ◌<◌, ◌∙◌, ap, arith, rules, length, get_or, length-append, [], ◌∷◌}
use Rattle.std.proofs.Math.Seq.{drop-length}
use Rattle.std.proofs.lemmas.List.{length-reverse}
use Rattle.std.proofs.lemmas.Iterator.Adapters.{YieldsList-from_rev_slice}
use Rattle.std.proofs.lemmas.Iterator.Consumers.{YieldsList-at, YieldsList-turn, YieldsList-end}
use Rattle.words.specs.Words.{care_of, value_of}
use Rattle.words.proofs.Codec.{care_lt, value_lt}
use Rattle.packing.specs.Packing.{row_positions, all_packed, table_number}
use Rattle.packing.proofs.Suffixes.{Taken, taken, not_packed, read_down, suffix_lt}
use Rattle.packing.proofs.row_positions.Goals as goal
use Rattle.packing.proofs.row_positions.Goals.{In-Some, After-positions-p}

-- the byte of this turn
byte : (c : In-Some) → let row = c.args.row.now in let i = length row - length c.loop-b.yielded in
    (0 < i) × (c.in-Some.field-0.now ≡ get_or row (i - 1) 0)
byte c =
    read_down c.args.row.now _ _
    (YieldsList-turn
    (YieldsList-at c.into_iter-b-iterator.ensures.into_iter_gives (YieldsList-from_rev_slice c.args.row.now cc))
    c.loop-b.yielded _ c.loop-b.yielded_by _ _ _ c.in-Some.is c.next.ensures.steps)

pub loop-b-init : goal.loop-b-init
unfolding all_packed row_positions care_of value_of
loop-b-init c =
    let e : length c.args.row.now - 0 ≡ length c.args.row.now = omega arith in
    rw (e, drop-length c.args.row.now) (search rules)

pub returns-then-p-eq-NONE : goal.returns-then-p-eq-NONE
returns-then-p-eq-NONE c =
    let b = byte (goal.at.returns-then-p-eq-NONE c).In-Some in
    not_packed c.args.row.now _ c.positions-p.result b.0 (omega arith) (c.positions-p.ensures ∙ ap table_number b.1)
    c.if-p-eq-NONE.true

pub loop-b-preserved : goal.loop-b-preserved
loop-b-preserved c =
    let row = c.args.row.now in
    let w = c.loop-b in
    let p = c.positions-p in
    let n = length w.yielded in
    let b = byte (goal.at.loop-b-preserved c).In-Some in
    let t : Taken row (length row - n) p.result =
    taken row _ p.result b.0 (omega arith) (p.ensures ∙ ap table_number b.1) c.if-p-eq-NONE.false in
    let e : length row - (n + 1) ≡ length row - n - 1 = omega arith in
    let care = t.care w.care w.invariant.3 in
    let value = t.value w.value w.invariant.4 in
    rw (length-append w.yielded (c.in-Some.field-0 ∷ []), e) (
      tt,
      tt,
      t.good w.invariant.2,
      care,
      value,
      suffix_lt care_of care_lt row (length row - n - 1) _ c.requires.1 care,
      suffix_lt value_of value_lt row (length row - n - 1) _ c.requires.1 value,
    )

pub returns : goal.returns
returns c =
    let row = c.args.row.now in
    let e = (YieldsList-end
    (YieldsList-at c.into_iter-b-iterator.ensures.into_iter_gives (YieldsList-from_rev_slice row cc))
    c.loop-b.yielded _ c.loop-b.yielded_by _ _ c.in-None.is c.next.ensures.steps).1 in
    let z : length row - length c.loop-b.yielded ≡ 0 = omega (arith, e, length-reverse row) in
    let i = c.loop-b.invariant in
    (rw z at i.2, rw z at i.3, rw z at i.4)
