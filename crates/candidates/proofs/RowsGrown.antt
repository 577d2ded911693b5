-- A list grown by a row for each string of another, in the shape of the code's loops: whatever fills the rows, with a filter or
-- without. Assumes nothing.
use mathlib.Core.Path.{◌≡◌}
use mathlib.Core.List.{List, []}
use mathlib.Core.Option.{some}
use Prim.Native.Nat.{ℕ, ◌+◌, ◌≤◌, ◌<◌}
use lib.ListN.{length, get_or, take}
use Rattle.model.specs.Groups.{Bits}
use Rattle.model.specs.Strings.{Trits, ones}
use Rattle.model.specs.Growth.{Entries, limit, grow_all}
use Rattle.words.specs.Words.{word, set_word}
use Rattle.lists.specs.WorkingLists.{Grown}
use Rattle.lists.specs.WorkingLists.{Count, Full}
use Rattle.lists.specs.WorkingLists.{Holds, Makes}
use Rattle.lists.proofs.Holding.{holds_empty}
use Rattle.lists.proofs.SoFar.{SoFar, so_far_start, so_far_end}
use Rattle.lists.proofs.Passes.{entry_at, entry_end, each_turn, each_stop}
use Rattle.candidates.specs.declared.Pairing.{Pairing}
use Rattle.candidates.specs.Pairs.{row_of, pairs_of}
use Rattle.candidates.proofs.ProceduresAsFolds.{pair_step, pairs_fold}

-- the strings with 1 at a variable of the set m and `*` elsewhere
abbrev pub OnesOf : (l m : ℕ) → Entries → Type 0
OnesOf l m β = (g : Bits) × (β ≡ ones g) × (length g ≡ l) × (m ≡ set_word g)

-- The rows are those of op, of the first an strings of a, each with the strings of any β that B holds of.
module _ (op : Pairing) (l : ℕ) (a : List ℕ) (an : ℕ) (B : Entries → Type 0) where
  -- those of the strings before index i are grown, and P holds of the list
  abbrev pub RowsSoFar : (P : Entries → Type 0) (list : List ℕ) (n i : ℕ) → Type 0
  RowsSoFar P list n i =
      (α β : Entries) → Holds l a an α → B β → SoFar l (pair_step op β) α (grow_all [] (pairs_of op α β)) P list n i

  -- none yet
  pub rows_start : {P : Entries → Type 0} (list : List ℕ) → length list ≡ limit → (l ≤ 32 → P []) → RowsSoFar P list 0 0
  rows_start list room known α β h b =
      so_far_start (holds_empty _ list room h.short) (pairs_fold op β [] α) (known h.short)

  module _ {P : Entries → Type 0} {list : List ℕ} {n i : ℕ} (w : RowsSoFar P list n i) where
    -- all of them
    pub rows_end : length (take an a) ≤ i → (α β : Entries) → Holds l a an α → B β
        → Makes l list (Count n) (grow_all [] (pairs_of op α β))
    rows_end all α β h b = so_far_end (w α β h b) (entry_end h i all)

    -- the row of one string more
    module _ (lt : i < length (take an a)) {row : List ℕ} {k : ℕ}
        (fills : (β : Entries) (s : Trits) → B β → length s ≡ l → get_or (take an a) i 0 ≡ word s → Holds l row k (row_of op s β))
        {list' : List ℕ} {r : Grown}
        (makes : (τ ρ : Entries) → Holds l list n τ → Holds l row k ρ → P τ → Makes l list' r (grow_all τ ρ)) where
      pub rows_turn : {Q : Entries → Type 0} {m : ℕ} → r ≡ Count m
          → ((τ ρ κ : Entries) → Holds l list n τ → Holds l row k ρ → P τ → grow_all τ ρ ≡ some κ → Q κ)
          → RowsSoFar Q list' m (i + 1)
      rows_turn is know α β h b =
          each_turn (w α β h b) (entry_at h i lt) (λ τ s t e y. makes τ (row_of op s β) t (fills β s b e y)) is
          (λ τ s κ t e y. know τ (row_of op s β) κ t (fills β s b e y))

      pub rows_stop : {l' : ℕ} {list'' : List ℕ} → r ≡ Full → (α β : Entries) → Holds l a an α → B β
          → Makes l' list'' Full (grow_all [] (pairs_of op α β))
      rows_stop is α β h b =
          each_stop (w α β h b) (entry_at h i lt) (λ τ s t e y. makes τ (row_of op s β) t (fills β s b e y)) is
