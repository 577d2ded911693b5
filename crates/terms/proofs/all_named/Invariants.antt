-- Loop: `good`, and the test of the tokens that are left, are the test of all (`named_turn`, `named_end`).
use Rattle.std.proofs.Common.{◌≡◌, ◌&&◌, drop}
use Rattle.terms.specs.Checks.{all_named}
use Rattle.terms.proofs.all_named.Given as goal

abbrev pub invariant-loop-t : goal.invariant-loop-t
invariant-loop-t l = all_named l.l l.ts ≡ (l.good && all_named l.l (drop l.t-index l.ts))
