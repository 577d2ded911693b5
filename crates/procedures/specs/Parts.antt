-- Parts of the equation that the code has functions of its own for.
use Rattle.std.specs.Prelude.{◌≡◌, List, ℕ, length}
use Rattle.std.proofs.Math.Option.{Option}
use Rattle.model.specs.Groups.{Bits}
use Rattle.model.specs.Strings.{zeros}
use Rattle.model.specs.Growth.{◌>>=◌, Entries, grow}
use Rattle.model.specs.Tables.{relevant, cross, close, change_side}
use Rattle.words.specs.Words.{set_word}
use Rattle.lists.specs.WorkingLists.{Holds}

-- P of any list of strings of l positions that the array holds, and any two sets of l variables with the words mx and mt.
abbrev pub OfSets : (l : ℕ) (list : List ℕ) (n mx mt : ℕ) → (Entries → Bits → Bits → Type 0) → Type 0
OfSets l list n mx mt P =
    (τ : Entries) (x t : Bits) → Holds l list n τ → length x ≡ l → length t ≡ l → mx ≡ set_word x → mt ≡ set_word t
    → P τ x t

-- close(cross(α, β)).
unfoldable pub closed_cross : Entries → Entries → Option Entries
closed_cross α β = cross α β >>= close

-- Of a positive table: close(cross(relevant x, relevant t)).
unfoldable pub positive_closed_cross : Bits → Bits → Entries → Option Entries
positive_closed_cross x t τ = do
  A ← relevant x τ
  B ← relevant t τ
  closed_cross A B

-- The groups of a negative table that have a variable of the set k, on the positive side: P or Q, changed.
unfoldable pub having_set : ℕ → Bits → Entries → Option Entries
having_set l k τ = grow τ (zeros k) >>= change_side l

-- Of a negative table: the closed cross of A and B, changed back to K.
unfoldable pub negative_closed_cross : ℕ → Bits → Bits → Entries → Option Entries
negative_closed_cross l x t τ = do
  A ← having_set l x τ
  B ← having_set l t τ
  R ← closed_cross A B
  change_side l R
