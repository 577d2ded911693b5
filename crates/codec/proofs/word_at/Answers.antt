-- Two bytes are a number; four are that of two, and of the next two.
use mathlib.Core.Path.{sym, ap, ◌∙◌}
use Prim.Native.Nat.{ℕ}
use native.Mathlib.Omega.{arith}
use Rattle.codec.specs.Numbers.{word_at}
use Rattle.codec.proofs.Laws.{size_most, size_four, two_halves}
use Rattle.codec.proofs.word_at.Goals as goal

pub number_at-low-requires : goal.number_at-low-requires
number_at-low-requires c =
    omega (arith, c.requires.1, (size_most c.requires.0).0)

pub returns-then-k-eq2 : goal.returns-then-k-eq2
returns-then-k-eq2 c =
    let a = c.args in
    c.number_at-low.ensures ∙ ap (λ (k : ℕ). word_at k a.b.now a.at) (sym c.if-k-eq2.true)

pub number_at-requires : goal.number_at-requires
number_at-requires c =
    omega (arith, c.requires.1, size_four c.requires.0 c.if-k-eq2.false)

pub returns : goal.returns
returns c =
    let a = c.args in
    rw (c.number_at-low.ensures, c.number_at.ensures)
    (two_halves a.b.now a.at
    ∙ ap (λ (k : ℕ). word_at k a.b.now a.at) (sym (size_four c.requires.0 c.if-k-eq2.false)))
