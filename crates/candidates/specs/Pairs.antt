-- The two operations on pairs of strings that procedures grow by: "or" for Cross, the meet of those that match for Meets.
use Rattle.std.specs.Prelude.{List, map}
use Rattle.model.specs.Strings.{Trits, or_strings}
use Rattle.model.specs.Growth.{Entries}
use Rattle.model.specs.Tables.{meets_with, meets_of, ors}
use Rattle.candidates.specs.declared.Pairing.{Pairing}
use Rattle.candidates.specs.declared.Pairing.TheVariants.{Or, Meet}

-- The candidates of one string s with each string of a list.
unfoldable pub row_of : Pairing → Trits → Entries → List Trits
row_of Or s β = map (or_strings s) β
row_of Meet s β = meets_with s β

-- The candidates of each string of a list with each of another, the first's outermost.
unfoldable pub pairs_of : Pairing → Entries → Entries → List Trits
pairs_of Or α β = ors α β
pairs_of Meet α β = meets_of α β
