use mathlib.Core.Path.{◌≡◌, refl, ◌∙◌}
use mathlib.Core.List.{[]}
use Prim.Native.Nat.{ℕ, ◌+◌, ◌*◌, ◌≤◌, ◌<◌}
use native.Mathlib.Omega.{arith}
use lib.ListN.{length, get_or}
use Rattle.std.proofs.lemmas.List.{get_or-take, length-take}
use Rattle.tables.specs.Values.{table_of}
use Rattle.lists.proofs.Holding.{holds_length}
use Rattle.codec.specs.Numbers.{WordSize, joined}
use Rattle.codec.proofs.Rows.{row_in}
use Rattle.forms.specs.declared.Layout.TheVariants.{Plain}
use Rattle.forms.specs.TableForms.{word_length, form_length}
use Rattle.forms.proofs.WordLengths.{two_or_four, words_most, words_room}
use Rattle.forms.proofs.Writing.{table_words, table_long, columns_turn, columns_end}
use Rattle.forms.proofs.entries.write_plain.Goals as goal
use Rattle.forms.proofs.entries.write_plain.Goals.{After-word_length-k, In-loop-i}

-- two bytes or four
sized : (c : After-word_length-k) → WordSize c.word_length-k.result
sized c = two_or_four c.args.l c.word_length-k.ensures

-- the n words have at most 1024 bytes, and there is room for twice as many
room : (l n : ℕ) {k m : ℕ} → k ≡ word_length l → (n ≤ 256) × (form_length Plain l n ≤ m)
    → let all = k * n in (all ≤ 1024) × (4 + 2 * all ≤ m)
room l n e p = (words_most l e p.0, words_room l n e p.1)

-- the words at i stand within the n cares and the n values
within : (c : In-loop-i) → let k = c.word_length-k.result in
    let all = k * c.args.n in
    (k * c.loop-i.i + k ≤ all) × (all ≤ 1024) × (4 + 2 * all ≤ length c.loop-i.out)
within c =
    let lp = c.loop-i in
    let r = room c.args.l c.args.n c.word_length-k.ensures c.requires in (
      row_in c.word_length-k.result c.args.n lp.i (omega (arith, length-take c.args.n c.args.list.now)),
      r.0,
      omega (arith, r.1, lp.invariant.0),
    )

pub loop-i-init : goal.loop-i-init
unfolding joined
loop-i-init c = (refl, λ τ h. refl)

pub write_word-requires : goal.write_word-requires
write_word-requires c = (
  sized (goal.at.write_word-requires c).After-word_length-k,
  omega (arith, within (goal.at.write_word-requires c).In-loop-i),
)

pub write_word-requires-in-loop-i : goal.write_word-requires-in-loop-i
write_word-requires-in-loop-i c = (
  sized (goal.at.write_word-requires-in-loop-i c).After-word_length-k,
  omega (arith, within (goal.at.write_word-requires-in-loop-i c).In-loop-i, c.write_word.auto.b),
)

pub loop-i-preserved : goal.loop-i-preserved
loop-i-preserved c =
    let lp = c.loop-i in
    let a = c.args in
    let ws = a.list.now in
    let lt : lp.i < a.n = omega (arith, length-take a.n ws) in (
      c.write_word-in-loop-i.auto.b ∙ c.write_word.auto.b ∙ lp.invariant.0,
      λ τ h.
          let long = holds_length h lp.i lt in
          let is = c.from-e.ensures.1 (get_or τ lp.i []) (rw long h.short)
          (get_or-take a.n ws lp.i 0 lt ∙ h.here lp.i lt) in
          let w = table_words h lp.i lt is in
          let t = table_of a.l τ in
          columns_turn c.word_length-k.result a.n t.care t.value a.out.now lp.out lp.i lt
          (table_long h).0 (table_long h).1 (lp.invariant.1 τ h) w.0 w.1 c.write_word.ensures
          c.write_word-in-loop-i.ensures,
    )

pub returns : goal.returns
returns c =
    let lp = c.loop-i in
    let end : lp.i ≡ c.args.n = omega (arith, length-take c.args.n c.args.list.now) in
    λ τ h. columns_end c.args.out.now lp.out h c.word_length-k.ensures end (lp.invariant.1 τ h)
