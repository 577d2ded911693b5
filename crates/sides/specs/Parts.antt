-- Parts of the change of side that the code has functions of its own for.
use Rattle.std.specs.Prelude.{cond, [], ◌∷◌}
use Rattle.std.proofs.Math.Option.{Option}
use Rattle.model.specs.Strings.{Trits, matches, pieces}
use Rattle.model.specs.Growth.{Entries}
use Rattle.model.specs.Widest.{fresh, append_all}

-- The entries that match v, in order.
unfoldable pub matched : Trits → Entries → Entries
matched v [] = []
matched v (y ∷ τ) = cond (matches y v) (y ∷ matched v τ) (matched v τ)

-- The pieces of y that v leaves and no entry of κ subsumes, the all-zero one left out, appended.
unfoldable pub append_pieces : Entries → Trits → Entries → Trits → Option Entries
append_pieces κ v τ y = append_all τ (fresh κ (pieces y v))
