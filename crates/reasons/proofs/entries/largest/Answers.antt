-- A bit of the low half outside s decides; else what of s is not in the high half is left. Of strings it is `largest_is`.
use mathlib.Core.Path.{◌≡◌, sym, ◌∙◌}
use Prim.Native.Nat.{ℕ, ◌≤◌}
use borrow.Author.Tests.{eq-eqb, ne_eqb}
use lib.ListN.{length}
use Rattle.model.specs.Groups.{Bits}
use Rattle.model.specs.Strings.{Trits}
use Rattle.words.specs.Words.{word, set_word}
use Rattle.reasons.specs.Entries.{largest, largest_word}
use Rattle.reasons.proofs.Largest.{largest_is}
use Rattle.reasons.proofs.entries.largest.Goals as goal

-- what is answered of the words is so of the strings
of_strings : {e s r : ℕ} → r ≡ largest_word e s
    → (k : Bits) (t : Trits) → length k ≡ length t → length t ≤ 32 → e ≡ word t → s ≡ set_word k → r ≡ set_word (largest k t)
of_strings {e} {s} w = λ k t n short is_e is_s. w ∙ rw (is_e, is_s) (largest_is k t (sym n) short)

pub returns-then-ones-s-clause-words : goal.returns-then-ones-s-clause-words
unfolding largest_word
returns-then-ones-s-clause-words c = rw (ne_eqb _ _ c.if-ones-s.true)

pub returns-then-ones-s-clause-strings : goal.returns-then-ones-s-clause-strings
returns-then-ones-s-clause-strings c = of_strings (returns-then-ones-s-clause-words c)

pub returns-clause-words : goal.returns-clause-words
unfolding largest_word
returns-clause-words c = rw (eq-eqb _ _ c.if-ones-s.false)

pub returns-clause-strings : goal.returns-clause-strings
returns-clause-strings c = of_strings (returns-clause-words c)
