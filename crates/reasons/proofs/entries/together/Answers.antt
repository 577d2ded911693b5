use mathlib.Core.Path.{◌≡◌, refl, ap, ◌∙◌}
use mathlib.Core.List.{List}
use Prim.Native.Nat.{ℕ, ◌+◌, ◌<◌}
use native.Mathlib.Numerals.{add-one}
use native.Mathlib.Omega.{arith}
use borrow.Author.Tests.{eq-eqb, ne_eqb}
use lib.Bits.{bit_and, bit_or, or_zero_r}
use lib.ListN.{length, get_or}
use Rattle.reasons.specs.Entries.{largest_word, part_word, parts_word}
use Rattle.reasons.proofs.Searching.{together_words}
use Rattle.reasons.proofs.entries.together.Goals as goal
use Rattle.reasons.proofs.entries.together.Goals.{else-g-m-ne0, then-g-m-ne0}

module _ (list : List ℕ) (s m i set g : ℕ) (e : set ≡ parts_word list s m i) (d : g ≡ largest_word (get_or list i 0) s) where
  -- the part of entry i is the largest group, which has a variable of m
  gathered : ¬ (bit_and g m ≡ 0) → bit_or set g ≡ parts_word list s m (i + 1)
  unfolding parts_word part_word
  gathered n = rw (add-one, e, ← d, ne_eqb (bit_and g m) 0 n) refl

  -- or it is none
  passed : bit_and g m ≡ 0 → set ≡ parts_word list s m (i + 1)
  unfolding parts_word part_word
  passed z = rw (add-one, ← d, eq-eqb (bit_and g m) 0 z, or_zero_r (parts_word list s m i)) e

pub loop-e-init : goal.loop-e-init
unfolding parts_word
loop-e-init c = refl

pub loop-e-preserved : goal.loop-e-preserved
loop-e-preserved c =
    let w = c.loop-e in
    let list = c.args.list.now in
    let g = c.largest-g.ensures.words in
    elim c.if-g-m-ne0.branch [
      | then-g-m-ne0 p ↦ p.set-is ∙ gathered list _ _ _ _ _ w.invariant g p.if-g-m-ne0.true
      | else-g-m-ne0 p ↦ p.set-is ∙ passed list _ _ _ _ _ w.invariant g p.if-g-m-ne0.false
    ]

pub returns : goal.returns
returns c =
    λ l τ r k h whole long is_s is_m.
    let end : c.loop-e.e-index ≡ length c.args.list.now = omega arith in
    c.loop-e.invariant ∙ ap (parts_word _ _ _) end ∙ together_words h r k whole is_s is_m
