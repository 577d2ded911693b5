-- Loop: none before block b subsumes y. A block has one (`block_found`) or none (`block_none`); the last decides (`block_last`).
use mathlib.Core.Path.{◌≡◌}
use mathlib.Core.Bool.{false}
use Prim.Native.Nat.{◌*◌}
use lib.ListN.{get_or}
use Rattle.words.specs.Words.{subsumes_word}
use Rattle.tables.specs.Lists.{some_from}
use Rattle.lists.proofs.growth.subsumed.Given as goal

abbrev pub invariant-loop-b : goal.invariant-loop-b
invariant-loop-b l = some_from 0 (8 * l.b) (λ m. subsumes_word (get_or l.list m 0) l.y) ≡ false
