use mathlib.Core.Path.{◌≡◌, refl, sym, ap, ◌∙◌}
use Prim.Native.Nat.{ℕ}
use native.Mathlib.Omega.{arith}
use lib.ListN.{get_or}
use Rattle.words.specs.declared.Entry.{Entry}
use Rattle.words.specs.Words.{string}
use Rattle.words.proofs.Codec.{string_length}
use Rattle.text.specs.Text.{entry_text}
use Rattle.text.proofs.Printing.{stands_turn, printed_end, character_at, newline_at}
use Rattle.text.proofs.lines.write_entry.Goals as goal

pub loop-i-preserved : goal.loop-i-preserved
loop-i-preserved c =
    stands_turn c.loop-i.invariant (omega (arith, c.requires)) refl refl
    (c.character.ensures ∙ character_at c.args.l c.loop-i.i _ (omega arith))

pub returns-clause-printed : goal.returns-clause-printed
returns-clause-printed c =
    let e : Entry = record { care = c.args.care; value = c.args.value } in
    let whole : c.loop-i.i ≡ c.args.l = omega arith in
    let long = string_length c.args.l e in
    printed_end
    (stands_turn c.loop-i.invariant (omega (arith, c.requires)) (omega (arith, whole)) (omega (arith, whole, long))
    (newline_at c.args.l e ∙ ap (λ (k : ℕ). get_or (entry_text (string c.args.l e)) k 0) (sym whole)))
