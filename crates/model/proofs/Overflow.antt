-- Growing gives nothing exactly where entry 257 is needed; from empty, never with at most 256 strings. Assumes nothing.
use mathlib.Core.Path.{◌≡◌, refl, ap}
use mathlib.Core.Bool.{Bool, true, false, not, cond}
use mathlib.Core.List.{List, [], ◌∷◌, ◌++◌, map}
use mathlib.Core.Logic.{◌↔◌}
use mathlib.Core.Option.{Option, some, none}
use Prim.Native.Nat.{ℕ, suc, ◌+◌, ◌≤◌, ◌<◌}
use native.Mathlib.Omega.{arith}
use lib.Dec.{T, ltb, ltb→lt, nltb→le, lt→ltb}
use lib.ListN.{length, length-map}
use Rattle.model.specs.Groups.{Bits}
use Rattle.model.specs.Strings.{Trits, subsumes, exactly}
use Rattle.model.specs.Growth.{◌>>=◌, Entries, limit, fold, remove, append, widen, absorbed, grow, grow_all, Full, Meets}
use Rattle.model.specs.Growth.{Overflows, convert}
use Rattle.model.proofs.Tests.{true_of, false_of}
use Rattle.model.proofs.Given.{fold_append}
use Rattle.model.proofs.Shape.{snoc_length}

-- ---- A fold gives nothing exactly where one of its steps does

pub none_some : {A : Type 0} {a : A} {P : Type 0} → some a ≡ none → P
none_some e = absurd (let z : ◌≡◌ {A = ℕ} 0 1 = cc in omega arith)

module _ {S X : Type 0} {F : S → X → Type 0} (step : S → X → Option S) (exact : (s : S) (x : X) → (step s x ≡ none) ↔ F s x) where
  none_meets : (s : S) (xs : List X) → fold step s xs ≡ none → Meets F step s xs
  unfolding fold ◌>>=◌
  none_meets s [] e = none_some e
  none_meets s (x ∷ xs) e = go (step s x) refl (λ t. none_meets t xs) e
    where
      go : (o : Option S) → step s x ≡ o → ((t : S) → fold step t xs ≡ none → Meets F step t xs)
          → (o >>= λ t. fold step t xs) ≡ none → Meets F step s (x ∷ xs)
      go none d rest h = record {
        before = [];
        x = x;
        after = xs;
        state = s;
        is = refl;
        reached = refl;
        full = (exact s x).0 d;
      }
      go (some t) d rest h =
          let m = rest t h in
          record {
            before = x ∷ m.before;
            x = m.x;
            after = m.after;
            state = m.state;
            is = ap (λ (r : List X). x ∷ r) m.is;
            reached = rw d m.reached;
            full = m.full;
          }

  meets_none : (s : S) (xs : List X) → Meets F step s xs → fold step s xs ≡ none
  unfolding fold ◌>>=◌
  meets_none s xs m =
      rw (m.is, fold_append step s m.before (m.x ∷ m.after), m.reached, (exact m.state m.x).1 m.full)

  pub fold_full : (s : S) (xs : List X) → (fold step s xs ≡ none) ↔ Meets F step s xs
  fold_full s xs = (none_meets s xs, meets_none s xs)

-- ---- Growing

-- Growing by one string gives nothing exactly where it needs entry 257.
pub grow_full : (τ : Entries) (y : Trits) → (grow τ y ≡ none) ↔ Full τ y
unfolding grow append
grow_full τ y =
    (go (absorbed τ y) (ltb (length kept) limit) (nltb→le (length kept) limit), back)
  where
    kept : Entries
    kept = remove (widen τ y) τ

    go : (b c : Bool) → (T (not c) → limit ≤ length kept)
        → cond b (some τ) (cond c (some (kept ++ (widen τ y ∷ []))) none) ≡ none
        → ¬ (T b) × (limit ≤ length kept)
    go true c f e = absurd (let z : ◌≡◌ {A = ℕ} 0 1 = cc in omega arith)
    go false true f e = absurd (let z : ◌≡◌ {A = ℕ} 0 1 = cc in omega arith)
    go false false f e = (λ t. t, f tt)

    back : Full τ y → cond (absorbed τ y) (some τ) (cond (ltb (length kept) limit) (some (kept ++ (widen τ y ∷ []))) none) ≡ none
    back f =
        rw (
          false_of (absorbed τ y) f.0,
          false_of (ltb (length kept) limit) (λ t. let h = ltb→lt (length kept) limit t in omega arith),
        )

-- Growing gives nothing exactly where entry 257 is needed.
pub full_exact : (τ : Entries) (ys : List Trits) → (grow_all τ ys ≡ none) ↔ Overflows τ ys
unfolding grow_all
full_exact τ ys = fold_full grow grow_full τ ys

-- ---- At most 256 strings

pub remove_length : (y : Trits) (τ : Entries) → length (remove y τ) ≤ length τ
unfolding remove
remove_length y [] = omega arith
remove_length y (s ∷ τ) = go (subsumes y s) (remove_length y τ)
  where
    go : (b : Bool) → length (remove y τ) ≤ length τ → length (cond b (remove y τ) (s ∷ remove y τ)) ≤ suc (length τ)
    go true h = omega arith
    go false h = omega arith

-- a step with room gives a list with at most one entry more
abbrev Room : Entries → Option Entries → Type 0
Room τ o = (ρ : Entries) × (o ≡ some ρ) × (length ρ ≤ suc (length τ))

grow_room : (τ : Entries) (y : Trits) → length τ < limit → Room τ (grow τ y)
unfolding grow append
grow_room τ y h = go (absorbed τ y)
  where
    kept : Entries
    kept = remove (widen τ y) τ

    less : length kept < limit
    less = omega (arith, remove_length (widen τ y) τ)

    go : (b : Bool) → Room τ (cond b (some τ) (cond (ltb (length kept) limit) (some (kept ++ (widen τ y ∷ []))) none))
    go true = (τ, refl, omega arith)
    go false = (
      kept ++ (widen τ y ∷ []),
      rw (true_of (ltb (length kept) limit) (lt→ltb (length kept) limit less)),
      omega (arith, snoc_length kept (widen τ y), remove_length (widen τ y) τ),
    )

fold_room : (τ : Entries) (ys : List Trits) → length τ + length ys ≤ limit → (ρ : Entries) × (fold grow τ ys ≡ some ρ)
unfolding fold ◌>>=◌
fold_room τ [] h = (τ, refl)
fold_room τ (y ∷ ys) h =
    let r = grow_room τ y (omega arith) in
    let f = r.2 in
    let k = fold_room r.0 ys (omega arith) in
    (k.0, rw r.1 k.1)

-- Growing from empty by at most 256 strings is never full.
pub never_full : (ys : List Trits) → length ys ≤ limit → (ρ : Entries) × (grow_all [] ys ≡ some ρ)
unfolding grow_all
never_full ys h = fold_room [] ys (omega arith)

-- Converting at most 256 strings is never full.
pub convert_never_full : (gs : List Bits) → length gs ≤ limit → (ρ : Entries) × (convert gs ≡ some ρ)
unfolding convert
convert_never_full gs h = never_full (map exactly gs) (rw length-map h)
