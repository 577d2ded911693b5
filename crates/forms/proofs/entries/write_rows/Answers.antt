use mathlib.Core.Path.{◌≡◌, refl, ◌∙◌}
use mathlib.Core.List.{[]}
use Prim.Native.Nat.{ℕ, ◌+◌, ◌*◌, ◌≤◌, ◌<◌}
use native.Mathlib.Omega.{arith}
use lib.ListN.{get_or}
use Rattle.std.proofs.lemmas.List.{get_or-take, length-take}
use Rattle.model.specs.Growth.{Entries}
use Rattle.words.specs.Words.{string, Encodes}
use Rattle.lists.specs.WorkingLists.{Holds}
use Rattle.lists.proofs.Holding.{holds_length}
use Rattle.codec.specs.Numbers.{joined}
use Rattle.codec.proofs.Rows.{row_in}
use Rattle.forms.proofs.PackedRows.{rows_most, rows_turn}
use Rattle.forms.proofs.Writing.{entry_encodes}
use Rattle.forms.proofs.entries.write_rows.Goals as goal
use Rattle.forms.proofs.entries.write_rows.Goals.{After-from-e, In-loop-i}

-- where the row at i begins, and its length
abbrev place : In-loop-i → ℕ
place c = 4 + c.row_length-k.result * c.loop-i.i

abbrev size : In-loop-i → ℕ
size c = c.row_length-k.result

-- it stands within the n rows, which have at most 1792 bytes
within : (c : In-loop-i)
    → let n = c.args.n in (place c + size c ≤ 4 + size c * n) × (size c * n ≤ 1792) × (n ≤ 256)
within c =
    let h = c.requires.0.1 in
    let n = c.args.n in
    let here = row_in (size c) n c.loop-i.i (omega (arith, length-take n c.args.list.now)) in
    let few : n ≤ 256 = omega (arith, h.count, h.good.few) in
    (omega (arith, here), rows_most h.short few c.row_length-k.ensures, few)

-- the entry at i is that of the string at i
encoded : (c : After-from-e) → let a = c.args in
    (τ : Entries) → Holds a.l a.list.now a.n τ
    → Encodes a.l c.from-e.result × (string a.l c.from-e.result ≡ get_or τ c.loop-i.i [])
encoded c τ h =
    let i = c.loop-i.i in
    let ws = c.args.list.now in
    let lt : i < c.args.n = omega (arith, length-take c.args.n ws) in
    let long = holds_length h i lt in
    entry_encodes long
    (c.from-e.ensures.1 (get_or τ i []) (rw long h.short) (get_or-take c.args.n ws i 0 lt ∙ h.here i lt))

pub loop-i-init : goal.loop-i-init
unfolding joined
loop-i-init c = (refl, λ τ h. refl)

pub pack-requires : goal.pack-requires
pack-requires c =
    let held = c.requires.0 in
    let told = c.row_length-k.ensures in
    let room = rw (← told) at c.requires.1 in (
      held.1.short,
      (encoded (goal.at.pack-requires c).After-from-e held.0 held.1).0,
      rw (← told) (omega (arith, (within (goal.at.pack-requires c).In-loop-i).0, room, c.loop-i.invariant.0)),
    )

pub loop-i-preserved : goal.loop-i-preserved
loop-i-preserved c =
    let lp = c.loop-i in
    let a = c.args in (
      c.pack.auto.b ∙ lp.invariant.0,
      λ τ h.
          c.pack.ensures
          ∙ rw (c.row_length-k.ensures, (encoded (goal.at.loop-i-preserved c).After-from-e τ h).1)
          (rows_turn a.l τ a.out.now lp.out lp.i h.good.wide (omega (arith, h.count)) (lp.invariant.1 τ h)),
    )
