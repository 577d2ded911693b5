-- A procedure gives nothing exactly where some list of the growth rule in it needs entry 257. Assumes nothing.
use mathlib.Core.Path.{◌≡◌, refl}
use mathlib.Core.List.{List, [], ◌∷◌, ◌++◌, map}
use mathlib.Core.Logic.{inl, inr, ⊎_elim, ◌↔◌}
use mathlib.Core.Option.{Option, some, none}
use Prim.Native.Nat.{ℕ}
use Rattle.model.specs.Groups.{Bits, or, cut}
use Rattle.model.specs.Strings.{Trits, exactly, zeros, ones, stars}
use Rattle.model.specs.Growth.{◌>>=◌, Entries, convert, Overflows}
use Rattle.model.specs.Tables.{Side, positive, negative, meets_of, ors, unmatched, pieces_of, relevant, irrelevant, cross}
use Rattle.model.specs.Tables.{close_with, close, take_away, change_side, positive_equation, negative_equation}
use Rattle.model.specs.Tables.{equation_of_sets, join, kept, positive_projection, projection}
use Rattle.model.specs.Full.{OrLater, CloseFull, ConvertFull, ChangeFull, PositiveFull, NegativeFull}
use Rattle.model.specs.Full.{SetsFull, KindFull, EquationFull, JoinFull, ProjectionFull, WalkFull}
use Rattle.model.specs.Terms.{var, variables}
use Rattle.model.specs.Equations.{Equation, Kind, itself, deeper, plain, kind, equation_of_kind, equation}
use Rattle.model.specs.Walk.{Walked}
use Rattle.model.specs.Unification.{next_equation, walk_entries}
use Rattle.model.proofs.Overflow.{none_some, fold_full, grow_full, full_exact}

-- ---- One step after another

-- F and G say where a step, and what goes on from it, give nothing
module _ {A B F : Type 0} {G : A → Type 0} {k : A → Option B} where
  then_full : {o : Option A} → (o ≡ none) ↔ F → ((a : A) → (k a ≡ none) ↔ G a) → ((o >>= k) ≡ none) ↔ OrLater F o G
  unfolding ◌>>=◌
  then_full {o = none} f g = (λ e. inl (f.0 refl), λ h. refl)
  then_full {o = some a} f g = (λ e. inr (a, refl, (g a).0 e), ⊎_elim (λ h. none_some (f.1 h)) later)
    where
      later : ((b : A) × (some a ≡ some b) × G b) → k a ≡ none
      later h = let e : a ≡ h.0 = (let e = h.1 in cc) in rw e ((g h.0).1 h.2)

-- ---- The procedures

-- Convert gives nothing exactly where some string of the row needs entry 257.
pub convert_full : (gs : List Bits) → (convert gs ≡ none) ↔ ConvertFull gs
unfolding convert
convert_full gs = full_exact [] (map exactly gs)

close_with_full : (R : Entries) (c : Trits) → (close_with R c ≡ none) ↔ Overflows R (ors R (c ∷ []) ++ (c ∷ []))
unfolding close_with
close_with_full R c = full_exact R (ors R (c ∷ []) ++ (c ∷ []))

close_full : (cs : Entries) → (close cs ≡ none) ↔ CloseFull cs
unfolding close
close_full cs = fold_full close_with close_with_full [] cs

take_away_full : (R : Entries) (v : Trits) → (take_away R v ≡ none) ↔ Overflows (unmatched v R) (pieces_of v R)
unfolding take_away
take_away_full R v = full_exact (unmatched v R) (pieces_of v R)

pub change_full : (l : ℕ) (τ : Entries) → (change_side l τ ≡ none) ↔ ChangeFull l τ
unfolding change_side
change_full l τ = fold_full take_away take_away_full (stars l ∷ []) τ

cross_full : (α β : Entries) → (cross α β ≡ none) ↔ Overflows [] (ors α β)
unfolding cross
cross_full α β = full_exact [] (ors α β)

positive_full : (x t : Bits) (τ : Entries) → (positive_equation x t τ ≡ none) ↔ PositiveFull x t τ
unfolding positive_equation PositiveFull irrelevant relevant
positive_full x t τ =
    then_full (full_exact [] (meets_of τ (zeros (or x t) ∷ []))) (λ I.
    then_full (full_exact [] (meets_of τ (ones x))) (λ A.
    then_full (full_exact [] (meets_of τ (ones t))) (λ B.
    then_full (cross_full A B) (λ C.
    then_full (close_full C) (λ K. full_exact I K)))))

negative_full : (l : ℕ) (x t : Bits) (τ : Entries) → (negative_equation l x t τ ≡ none) ↔ NegativeFull l x t τ
unfolding negative_equation NegativeFull
negative_full l x t τ =
    then_full (grow_full τ (zeros x)) (λ P.
    then_full (grow_full τ (zeros t)) (λ Q.
    then_full (full_exact τ (ones (or x t))) (λ C.
    then_full (change_full l P) (λ A.
    then_full (change_full l Q) (λ B.
    then_full (cross_full A B) (λ J.
    then_full (close_full J) (λ R.
    then_full (change_full l R) (λ K. full_exact [] (meets_of C K)))))))))

-- Equation, of either side.
sets_full : (side : Side) (l : ℕ) (x t : Bits) (τ : Entries) → (equation_of_sets side l x t τ ≡ none) ↔ SetsFull side l x t τ
unfolding equation_of_sets SetsFull
sets_full positive l x t τ = positive_full x t τ
sets_full negative l x t τ = negative_full l x t τ

kind_full : (k : Kind) (side : Side) (l : ℕ) (e : Equation) (τ : Entries)
    → (equation_of_kind k side l e τ ≡ none) ↔ KindFull k side l e τ
unfolding equation_of_kind KindFull
kind_full itself side l e τ = (λ p. none_some p, λ h. absurd h)
kind_full deeper side l e τ = (λ p. none_some p, λ h. absurd h)
kind_full plain side l e τ = sets_full side l (variables l (var e.left)) (variables l e.right) τ

pub equation_full : (side : Side) (l : ℕ) (e : Equation) (τ : Entries) → (equation side l e τ ≡ none) ↔ EquationFull side l e τ
unfolding equation
equation_full side l e τ = kind_full (kind e) side l e τ

-- Join, of either side.
pub join_full : (side : Side) (τ ρ : Entries) → (join side τ ρ ≡ none) ↔ JoinFull side τ ρ
unfolding join JoinFull
join_full positive τ ρ = full_exact τ ρ
join_full negative τ ρ = full_exact [] (meets_of τ ρ)

-- Projection, of either side.
pub projection_full : (side : Side) (l : ℕ) (k : Bits) (τ : Entries) → (projection side l k τ ≡ none) ↔ ProjectionFull side l k τ
unfolding projection ProjectionFull positive_projection
projection_full positive l k τ = full_exact [] (map (cut k) τ)
projection_full negative l k τ =
    then_full (change_full l τ) (λ P. then_full (full_exact [] (map (cut k) P)) (λ C. change_full (kept k) C))

-- ---- A walk

-- A walk gives nothing exactly where it does not clash and some list of one of the found equations needs entry 257.
pub walk_full : (side : Side) (l : ℕ) (o : Walked) (τ : Entries) → (walk_entries side l o τ ≡ none) ↔ WalkFull side l o τ
unfolding walk_entries WalkFull
walk_full side l none τ = (λ e. none_some e, λ h. absurd h)
walk_full side l (some es) τ =
    fold_full (next_equation side l) (λ ρ e. equation_full side l e ρ) τ es
