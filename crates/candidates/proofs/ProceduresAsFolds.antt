-- The procedures as folds over lists of candidates, in the shape of the code's loops. Assumes nothing.
use mathlib.Core.Path.{◌≡◌, refl, sym, ap, ap₂, ◌∙◌}
use mathlib.Core.Bool.{Bool, true, false, ◌&&◌, cond}
use mathlib.Core.List.{List, [], ◌∷◌, ◌++◌, map, append-nil}
use mathlib.Core.Option.{Option, some, none}
use Rattle.model.specs.Strings.{Trit, t0, t1, t*, Trits, or_strings, or_digit, match_digit, matches, meet_digit, meet}
use Rattle.model.specs.Growth.{◌>>=◌, fold, Entries, grow, grow_all}
use Rattle.model.specs.Tables.{meet_if, meets_with, meets_of, ors, close_with}
use Rattle.model.proofs.Given.{fold_append}
use Rattle.words.proofs.Digits.{nine, never}
use Rattle.words.proofs.Words.{both_true}
use Rattle.lists.proofs.BindLaws.{then_same}
use Rattle.candidates.specs.declared.Pairing.{Pairing}
use Rattle.candidates.specs.declared.Pairing.TheVariants.{Or, Meet}
use Rattle.candidates.specs.Pairs.{row_of, pairs_of}

-- ---- Rows grown one after another are one list of candidates

module _ {S X Y : Type 0} (step : S → Y → Option S) (row : X → List Y) (all : List X → List Y)
    (none_all : all [] ≡ []) (cons_all : (x : X) (xs : List X) → all (x ∷ xs) ≡ row x ++ all xs) where
  -- row by row is the same as all at once
  fold_rows : (s : S) (xs : List X) → fold (λ t x. fold step t (row x)) s xs ≡ fold step s (all xs)
  unfolding fold
  fold_rows s [] = rw none_all
  fold_rows s (x ∷ xs) =
      rw (cons_all x xs, fold_append step s (row x) (all xs)) (then_same (fold step s (row x)) (λ t. fold_rows t xs))

-- one string of the first list
abbrev pub pair_step : Pairing → Entries → Entries → Trits → Option Entries
pair_step op β R s = grow_all R (row_of op s β)

-- the candidates of all pairs
pub pairs_fold : (op : Pairing) (β τ α : Entries) → fold (pair_step op β) τ α ≡ grow_all τ (pairs_of op α β)
unfolding grow_all row_of pairs_of ors meets_of
pairs_fold Or β τ α = fold_rows grow (λ s. map (or_strings s) β) (λ ρ. ors ρ β) refl (λ x xs. refl) τ α
pairs_fold Meet β τ α = fold_rows grow (λ s. meets_with s β) (λ ρ. meets_of ρ β) refl (λ x xs. refl) τ α

-- ---- A row of meets with one string

-- two strings match as they do exchanged
matches_comm : (s r : Trits) → matches s r ≡ matches r s
unfolding matches
matches_comm [] [] = refl
matches_comm [] (u ∷ r) = refl
matches_comm (t ∷ s) [] = refl
matches_comm (t ∷ s) (u ∷ r) = ap₂ ◌&&◌ (digit t u) (matches_comm s r)
  where
    digit : (t u : Trit) → match_digit t u ≡ match_digit u t
    digit = nine _ refl refl refl refl refl refl refl refl refl

-- so do they meet
meet_comm : (s r : Trits) → matches s r ≡ true → meet s r ≡ meet r s
unfolding matches meet
meet_comm [] [] m = refl
meet_comm [] (u ∷ r) m = refl
meet_comm (t ∷ s) [] m = refl
meet_comm (t ∷ s) (u ∷ r) m =
    let b = both_true (match_digit t u) (matches s r) m in
    ap₂ {C = Trits} (λ x y. x ∷ y) (digit t u b.0) (meet_comm s r b.1)
  where
    digit : (t u : Trit) → match_digit t u ≡ true → meet_digit t u ≡ meet_digit u t
    digit = nine _ (λ h. refl) never (λ h. refl) never (λ h. refl) (λ h. refl) (λ h. refl) (λ h. refl) (λ h. refl)

-- the meet of two strings, if they match, exchanged
meet_if_comm : (s r : Trits) → meet_if s r ≡ meet_if r s
unfolding meet_if
meet_if_comm s r = go (matches s r) refl
  where
    go : (b : Bool) → matches s r ≡ b → cond (matches s r) (meet s r ∷ []) [] ≡ cond (matches r s) (meet r s ∷ []) []
    go true e = rw (e, sym (matches_comm s r) ∙ e) (ap (λ (y : Trits). y ∷ []) (meet_comm s r e))
    go false e = rw (e, sym (matches_comm s r) ∙ e)

-- the meets of each string with one, as one row
pub meets_row : (R : Entries) (c : Trits) → meets_of R (c ∷ []) ≡ meets_with c R
unfolding meets_of meets_with
meets_row [] c = refl
meets_row (r ∷ R) c =
    ap₂ {C = Entries} ◌++◌ (append-nil (meet_if r c) ∙ meet_if_comm r c) (meets_row R c)

-- ---- Close

-- "or" of two digits, exchanged
or_digit_comm : (t u : Trit) → or_digit t u ≡ or_digit u t
or_digit_comm t0 t0 = refl
or_digit_comm t0 t1 = refl
or_digit_comm t0 t* = refl
or_digit_comm t1 t0 = refl
or_digit_comm t1 t1 = refl
or_digit_comm t1 t* = refl
or_digit_comm t* t0 = refl
or_digit_comm t* t1 = refl
or_digit_comm t* t* = refl

-- "or" of two strings, exchanged
or_strings_comm : (s r : Trits) → or_strings s r ≡ or_strings r s
unfolding or_strings
or_strings_comm [] [] = refl
or_strings_comm [] (u ∷ r) = refl
or_strings_comm (t ∷ s) [] = refl
or_strings_comm (t ∷ s) (u ∷ r) = rw (or_digit_comm t u, or_strings_comm s r)

-- "r or c" for each r, as one row
ors_row : (R : Entries) (c : Trits) → ors R (c ∷ []) ≡ row_of Or c R
unfolding ors row_of
ors_row [] c = refl
ors_row (r ∷ R) c = rw (or_strings_comm r c) (ap (λ (ρ : Entries). or_strings c r ∷ ρ) (ors_row R c))

module _ (R : Entries) (c : Trits) where
  -- the row, then c as a row of one string
  close_rows : close_with R c ≡ (grow_all R (row_of Or c R) >>= λ S. grow_all S (c ∷ []))
  unfolding close_with grow_all
  close_rows = rw (ors_row R c) (fold_append grow R (row_of Or c R) (c ∷ []))

  -- from what the row gives
  pub close_on : (S : Entries) → grow_all R (row_of Or c R) ≡ some S → close_with R c ≡ grow_all S (c ∷ [])
  unfolding ◌>>=◌
  close_on S e = rw (close_rows, e)

  -- where the row gives nothing
  pub close_full : grow_all R (row_of Or c R) ≡ none → close_with R c ≡ none
  unfolding ◌>>=◌
  close_full e = rw (close_rows, e)
