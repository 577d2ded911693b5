-- A loop that takes a list through the steps of a fold that can be full: one invariant and its laws for all such loops.
-- Assumes nothing.
use mathlib.Core.Path.{◌≡◌, sym, ◌∙◌}
use mathlib.Core.List.{List}
use mathlib.Core.Option.{Option, some, none}
use Prim.Native.Nat.{ℕ, ◌+◌, ◌<◌, ◌≤◌}
use native.Mathlib.Numerals.{add-one}
use lib.ListN.{length, get_or, drop, drop_of_length-le}
use lib.Seq.{drop-cons}
use Rattle.model.specs.Growth.{◌>>=◌, fold, Entries}
use Rattle.lists.specs.WorkingLists.{Grown}
use Rattle.lists.specs.WorkingLists.{Count, Full}
use Rattle.lists.specs.WorkingLists.{Holds, Makes, makes, stops}
use Rattle.lists.proofs.Holding.{makes_count, makes_full}

-- ---- The fold, from an index on

module _ {S X : Type 0} (step : S → X → Option S) (s : S) (xs : List X) (i : ℕ) where
  module _ (d : X) (lt : i < length xs) where
    fold_step : (t : S) → step s (get_or xs i d) ≡ some t → fold step s (drop i xs) ≡ fold step t (drop (i + 1) xs)
    unfolding fold ◌>>=◌
    fold_step t e = rw (add-one, drop-cons xs i d lt, e)

    fold_stop : step s (get_or xs i d) ≡ none → fold step s (drop i xs) ≡ none
    unfolding fold ◌>>=◌
    fold_stop e = rw (drop-cons xs i d lt, e)

  fold_end : length xs ≤ i → fold step s (drop i xs) ≡ some s
  unfolding fold
  fold_end h = rw (drop_of_length-le xs h)

-- ---- The loop

-- The array holds a list, P holds of it, and to go on from it through what is left of xs, from index i on, gives the whole.
pub record SoFar {X : Type 0} (l : ℕ) (step : Entries → X → Option Entries) (xs : List X) (whole : Option Entries)
    (P : Entries → Type 0) (list : List ℕ) (n i : ℕ) : Type 0 where
  pub now : Entries
  pub held : Holds l list n now
  pub rest : fold step now (drop i xs) ≡ whole
  pub known : P now

-- Nothing more is known of the list.
abbrev pub Any : Entries → Type 0
Any τ = Unit {0}

module _ {X : Type 0} {l : ℕ} {step : Entries → X → Option Entries} {xs : List X} {whole : Option Entries}
    {P : Entries → Type 0} {list : List ℕ} {n i : ℕ} where
  -- at the index that the loop starts from
  pub so_far_start : {τ : Entries} → Holds l list n τ → fold step τ (drop i xs) ≡ whole → P τ
      → SoFar l step xs whole P list n i
  so_far_start {τ = τ} h e p = record { now = τ; held = h; rest = e; known = p }

  module _ (w : SoFar l step xs whole P list n i) where
    module _ (all : length xs ≤ i) where
      -- at the end the list is the whole
      pub so_far_end : Makes l list (Count n) whole
      so_far_end = rw (sym w.rest ∙ fold_end step _ xs i all) (makes w.held)

      -- and what is known holds of it
      pub so_far_known : {κ : Entries} → whole ≡ some κ → P κ
      so_far_known {κ = κ} e =
          let same : some w.now ≡ some κ = sym (fold_end step _ xs i all) ∙ w.rest ∙ e in
          let z : w.now ≡ κ = cc in
          rw (← z) w.known

    module _ (d : X) (lt : i < length xs) where
      -- a step that changes nothing
      pub so_far_same : step w.now (get_or xs i d) ≡ some w.now → SoFar l step xs whole P list n (i + 1)
      so_far_same e =
          record { now = w.now; held = w.held; rest = sym (fold_step step _ xs i d lt _ e) ∙ w.rest; known = w.known }

      module _ {list' : List ℕ} {r : Grown} (made : Makes l list' r (step w.now (get_or xs i d))) where
        -- a step that gives a list, and what is known of that
        pub so_far_step : {Q : Entries → Type 0} {m : ℕ} → r ≡ Count m
            → ((κ : Entries) → step w.now (get_or xs i d) ≡ some κ → Q κ) → SoFar l step xs whole Q list' m (i + 1)
        so_far_step e q =
            let t = makes_count made e in
            record {
              now = t.0;
              held = t.2;
              rest = sym (fold_step step _ xs i d lt _ t.1) ∙ w.rest;
              known = q t.0 t.1;
            }

        -- a step that is full
        pub so_far_stop : {l' : ℕ} {list'' : List ℕ} → r ≡ Full → Makes l' list'' Full whole
        so_far_stop e = rw (sym w.rest ∙ fold_stop step _ xs i d lt (makes_full made e)) stops
