-- Two bytes are a number; four are those of the low half, and then of the high one.
use mathlib.Core.Path.{◌≡◌, sym, ap, ◌∙◌}
use mathlib.Core.List.{List}
use Prim.Native.Nat.{ℕ, ◌+◌, ◌/◌}
use native.Mathlib.Omega.{arith}
use lib.Seq.{sets}
use Rattle.codec.specs.Numbers.{word_bytes}
use Rattle.codec.proofs.Rows.{sets_append}
use Rattle.codec.proofs.Laws.{size_most, size_two, word_long, halves_bytes}
use Rattle.codec.proofs.write_word.Goals as goal

-- the stores of two halves are that of the whole
both_halves : (b : List ℕ) (at k w : ℕ) → k ≡ 4
    → sets (sets b at (word_bytes 2 w)) (at + 2) (word_bytes 2 (w / 65536)) ≡ sets b at (word_bytes k w)
both_halves b at k w four =
    ap (λ (j : ℕ). sets (sets b at (word_bytes 2 w)) (at + j) (word_bytes 2 (w / 65536))) (sym (word_long 2 w))
    ∙ sym (sets_append (word_bytes 2 w) (word_bytes 2 (w / 65536)) b at)
    ∙ ap (sets b at) (sym (halves_bytes w) ∙ ap (λ (j : ℕ). word_bytes j w) (sym four))

pub write_number-requires : goal.write_number-requires
write_number-requires c =
    omega (arith, c.requires.1, (size_most c.requires.0).0)

pub returns-then-k-eq4 : goal.returns-then-k-eq4
returns-then-k-eq4 c =
    let a = c.args in
    c.write_number-then-k-eq4.ensures
    ∙ rw c.write_number.ensures (both_halves a.b.now a.at a.k a.w c.if-k-eq4.true)

pub returns-else-k-eq4 : goal.returns-else-k-eq4
returns-else-k-eq4 c =
    let a = c.args in
    c.write_number.ensures
    ∙ ap (λ (k : ℕ). sets a.b.now a.at (word_bytes k a.w)) (sym (size_two c.requires.0 c.if-k-eq4.false))
