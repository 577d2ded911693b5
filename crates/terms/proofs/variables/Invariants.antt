-- Loop: `set`, with the variables among the tokens that are left, is the whole set (`word_variable`, `word_head`, `word_end`).
use Rattle.std.proofs.Common.{◌≡◌, drop}
use Rattle.std.specs.Int.Bits.{bit_or}
use Rattle.terms.specs.Checks.{word_of}
use Rattle.terms.proofs.variables.Given as goal

abbrev pub invariant-loop-t : goal.invariant-loop-t
invariant-loop-t l = word_of l.ts ≡ bit_or l.set (word_of (drop l.t-index l.ts))
