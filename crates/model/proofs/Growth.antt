-- What growing and widening do to the strings that a list covers. Assumes nothing.
use mathlib.Core.Path.{◌≡◌, refl, sym, ap, ◌∙◌}
use mathlib.Core.Bool.{Bool, true, false, ◌&&◌, ◌||◌, cond, or-true, or-false, or_assoc, or_comm}
use mathlib.Core.List.{List, [], ◌∷◌, ◌++◌}
use mathlib.Core.Logic.{⊎_elim}
use mathlib.Core.Option.{some, none}
use Prim.Native.Nat.{ℕ, zero, suc, ◌<◌}
use lib.Dec.{T, ltb, ltb→lt}
use lib.ListN.{length}
use Rattle.model.specs.Groups.{Bits, nonzero}
use Rattle.model.specs.Strings.{Trits, covers, subsumes, all_zero, fixed, fixed_count, flipped, starred}
use Rattle.model.specs.Growth.{Entries, limit, fold, covered, subsumed, remove, append, widen_at, widen_from, widen}
use Rattle.model.specs.Growth.{absorbed, grow, grow_all}
use Rattle.model.proofs.Tests.{or_cases, or_left, or_right, true_of, same_test}
use Rattle.model.proofs.Strings.{subsumes_covers, zero_covers}
use Rattle.model.proofs.Positions.{starred_covers, starred_split}
use Rattle.model.proofs.Given.{Given, nothing, given, given_map, given_then}

pub covered_append : (τ ρ : Entries) (g : Bits) → covered (τ ++ ρ) g ≡ (covered τ g || covered ρ g)
unfolding covered
covered_append [] ρ g = refl
covered_append (s ∷ τ) ρ g =
    ap (λ (b : Bool). covers s g || b) (covered_append τ ρ g) ∙ sym (or_assoc (covers s g) (covered τ g) (covered ρ g))

pub subsumed_covered : (τ : Entries) (y : Trits) (g : Bits) → T (subsumed τ y) → T (covers y g) → T (covered τ g)
unfolding covered subsumed
subsumed_covered [] y g h c = h
subsumed_covered (s ∷ τ) y g h c =
    ⊎_elim
    (λ k. or_left (covers s g) (covered τ g) (subsumes_covers s y g k c))
    (λ k. or_right (covers s g) (covered τ g) (subsumed_covered τ y g k c))
    (or_cases (subsumes s y) (subsumed τ y) h)

-- ---- Widen

module _ (τ : Entries) where
  -- z covers what y covers, and beyond that only what the list covers
  abbrev pub Wider : Trits → Trits → Type 0
  Wider z y = (g : Bits) → (T (covers y g) → T (covers z g)) × (T (covers z g) → T (covers y g || covered τ g))

  starred_wider : (i : ℕ) (y : Trits) → T (fixed i y) → T (subsumed τ (flipped i y)) → Wider (starred i y) y
  starred_wider i y f s g = (
    starred_covers i y g,
    λ h.
        ⊎_elim
        (λ k. or_left (covers y g) (covered τ g) k)
        (λ k. or_right (covers y g) (covered τ g) (subsumed_covered τ (flipped i y) g s k))
        (or_cases (covers y g) (covers (flipped i y) g) (starred_split i y g f h)),
  )

  same_wider : (y : Trits) → Wider y y
  same_wider y g = (λ h. h, λ h. or_left (covers y g) (covered τ g) h)

  widen_at_wider : (i : ℕ) (y : Trits) → Wider (widen_at τ i y) y
  unfolding widen_at
  widen_at_wider i y = go (ltb 1 (fixed_count y)) (fixed i y) (subsumed τ (flipped i y)) (starred_wider i y)
    where
      go : (a b c : Bool) → (T b → T c → Wider (starred i y) y) → Wider (cond (a && b && c) (starred i y) y) y
      go true true true w = w tt tt
      go true true false w = same_wider y
      go true false c w = same_wider y
      go false b c w = same_wider y

  wider_trans : (x y z : Trits) → Wider x y → Wider y z → Wider x z
  wider_trans x y z p q g = (
    λ h. (p g).0 ((q g).0 h),
    λ h. ⊎_elim (q g).1 (or_right (covers z g) (covered τ g)) (or_cases (covers y g) (covered τ g) ((p g).1 h)),
  )

  widen_from_wider : (i n : ℕ) (y : Trits) → Wider (widen_from τ i n y) y
  unfolding widen_from
  widen_from_wider i zero y = same_wider y
  widen_from_wider i (suc n) y =
      wider_trans (widen_from τ (suc i) n (widen_at τ i y)) (widen_at τ i y) y (widen_from_wider (suc i) n (widen_at τ i y))
      (widen_at_wider i y)

  -- Widening loses nothing, and adds only what the list covers.
  pub widen_wider : (y : Trits) → Wider (widen τ y) y
  unfolding widen
  widen_wider y = widen_from_wider 0 (length y) y

  -- Widening changes no string of list and string together.
  pub widen_exact : (y : Trits) (g : Bits) → (covered τ g || covers (widen τ y) g) ≡ (covered τ g || covers y g)
  widen_exact y g =
      same_test (covered τ g || covers (widen τ y) g) (covered τ g || covers y g)
      (λ h. ⊎_elim (or_left (covered τ g) (covers y g)) (λ k. rw (or_comm (covered τ g) (covers y g)) ((widen_wider y g).1 k))
      (or_cases (covered τ g) (covers (widen τ y) g) h))
      (λ h.
      ⊎_elim (or_left (covered τ g) (covers (widen τ y) g))
      (λ k. or_right (covered τ g) (covers (widen τ y) g) ((widen_wider y g).0 k)) (or_cases (covered τ g) (covers y g) h))

-- ---- Grow

-- what y covers may go from before y
remove_covered : (y : Trits) (τ : Entries) (g : Bits) → (covered (remove y τ) g || covers y g) ≡ (covered τ g || covers y g)
unfolding covered remove
remove_covered y [] g = refl
remove_covered y (s ∷ τ) g = go (subsumes y s) (λ k. subsumes_covers y s g k) (remove_covered y τ g)
  where
    absorbed : (c m d : Bool) → (T c → T d) → (m || d) ≡ (c || m || d)
    absorbed true m true f = or-true m
    absorbed true m false f = absurd (f tt)
    absorbed false m d f = refl

    go : (b : Bool) → (T b → T (covers s g) → T (covers y g))
        → (covered (remove y τ) g || covers y g) ≡ (covered τ g || covers y g)
        → (covered (cond b (remove y τ) (s ∷ remove y τ)) g || covers y g) ≡ (covers s g || covered τ g || covers y g)
    go true f e = e ∙ absorbed (covers s g) (covered τ g) (covers y g) (f tt)
    go false f e =
        or_assoc (covers s g) (covered (remove y τ) g) (covers y g)
        ∙ ap (λ (b : Bool). covers s g || b) e
        ∙ sym (or_assoc (covers s g) (covered τ g) (covers y g))

appended_covered : (τ : Entries) (y : Trits) (g : Bits) → covered (remove y τ ++ (y ∷ [])) g ≡ (covered τ g || covers y g)
unfolding covered
appended_covered τ y g =
    covered_append (remove y τ) (y ∷ []) g ∙ ap (λ (b : Bool). covered (remove y τ) g || b) (or-false (covers y g))
    ∙ remove_covered y τ g

-- y is not counted where it is all zero and covers g: the all-zero string is never a group
abbrev Counts : Trits → Bits → Type 0
Counts y g = T (all_zero y) → T (covers y g) → ⊥

-- Growing by y adds what y covers, and never more.
pub record Grows (τ : Entries) (y : Trits) (ρ : Entries) : Type 0 where
  pub adds : (g : Bits) → Counts y g → covered ρ g ≡ (covered τ g || covers y g)
  pub within : (g : Bits) → T (covered ρ g) → T (covered τ g || covers y g)

grows_unchanged : (τ : Entries) (y : Trits) → T (absorbed τ y) → Grows τ y τ
unfolding absorbed
grows_unchanged τ y h = record {
  adds =
      λ g n. same (covered τ g) (covers y g)
      (λ c. ⊎_elim (λ z. absurd (n z c)) (λ s. subsumed_covered τ (widen τ y) g s ((widen_wider τ y g).0 c))
      (or_cases (all_zero y) (subsumed τ (widen τ y)) h));
  within = λ g c. or_left (covered τ g) (covers y g) c;
}
  where
    same : (m d : Bool) → (T d → T m) → m ≡ (m || d)
    same true d f = refl
    same false true f = absurd (f tt)
    same false false f = refl

-- what is covered once the widened y is appended
grown_covered : (τ : Entries) (y : Trits) (g : Bits)
    → covered (remove (widen τ y) τ ++ (widen τ y ∷ [])) g ≡ (covered τ g || covers y g)
grown_covered τ y g = appended_covered τ (widen τ y) g ∙ widen_exact τ y g

grows_appended : (τ : Entries) (y : Trits) → Grows τ y (remove (widen τ y) τ ++ (widen τ y ∷ []))
grows_appended τ y = record { adds = λ g n. grown_covered τ y g; within = λ g c. rw (grown_covered τ y g) at c }

-- what is given by appending, where there is room
pub append_gives : {P : Entries → Type 0} (τ : Entries) (y : Trits) → (length τ < limit → P (τ ++ (y ∷ [])))
    → Given P (append τ y)
unfolding append
append_gives {P} τ y p = go (ltb (length τ) limit) (ltb→lt (length τ) limit)
  where
    go : (b : Bool) → (T b → length τ < limit) → Given P (cond b (some (τ ++ (y ∷ []))) none)
    go true f = given (p (f tt))
    go false f = nothing

-- Growing by what a list absorbs changes nothing.
pub grow_absorbed : (τ : Entries) (y : Trits) → T (absorbed τ y) → grow τ y ≡ some τ
unfolding grow
grow_absorbed τ y h = rw (true_of (absorbed τ y) h)

-- what is given by growing: the list, or the list with the widened y in place of what that subsumes
pub grow_gives : {P : Entries → Type 0} (τ : Entries) (y : Trits) → (T (absorbed τ y) → P τ)
    → (¬ (T (absorbed τ y)) → length (remove (widen τ y) τ) < limit → P (remove (widen τ y) τ ++ (widen τ y ∷ [])))
    → Given P (grow τ y)
unfolding grow
grow_gives {P} τ y same more = go (absorbed τ y) same more
  where
    go : (b : Bool) → (T b → P τ)
        → (¬ (T b) → length (remove (widen τ y) τ) < limit → P (remove (widen τ y) τ ++ (widen τ y ∷ [])))
        → Given P (cond b (some τ) (append (remove (widen τ y) τ) (widen τ y)))
    go true f k = given (f tt)
    go false f k = append_gives (remove (widen τ y) τ) (widen τ y) (k (λ t. t))

pub grow_grows : (τ : Entries) (y : Trits) → Given (Grows τ y) (grow τ y)
grow_grows τ y = grow_gives τ y (grows_unchanged τ y) (λ n h. grows_appended τ y)

-- ---- A list grown by several strings

-- Among groups ρ covers exactly what τ and ys cover, and it covers nothing else.
pub record GrownBy (τ : Entries) (ys : List Trits) (ρ : Entries) : Type 0 where
  pub exact : (g : Bits) → T (nonzero g) → covered ρ g ≡ (covered τ g || covered ys g)
  pub within : (g : Bits) → T (covered ρ g) → T (covered τ g || covered ys g)

-- the same for one string
pub record GrownByOne (τ : Entries) (y : Trits) (ρ : Entries) : Type 0 where
  pub exact : (g : Bits) → T (nonzero g) → covered ρ g ≡ (covered τ g || covers y g)
  pub within : (g : Bits) → T (covered ρ g) → T (covered τ g || covers y g)

of_grows : {τ ρ : Entries} {y : Trits} → Grows τ y ρ → GrownByOne τ y ρ
of_grows {y = y} e = record { exact = λ g n. e.adds g (λ z c. zero_covers y g z c n); within = e.within }

pub grow_by_one : (τ : Entries) (y : Trits) → Given (GrownByOne τ y) (grow τ y)
grow_by_one τ y = given_map (λ ρ. of_grows) (grow_grows τ y)

grown_each : (τ : Entries) (ys : List Trits) → Given (GrownBy τ ys) (fold grow τ ys)
unfolding fold covered
grown_each τ [] =
    given (record { exact = λ g n. sym (or-false (covered τ g)); within = λ g c. or_left (covered τ g) false c })
grown_each τ (y ∷ ys) =
    given_then (λ ρ. fold grow ρ ys) (grow_by_one τ y)
    (λ ρ e.
    given_map
    (λ υ f. record {
      exact =
          λ g n. f.exact g n ∙ ap (λ (b : Bool). b || covered ys g) (e.exact g n) ∙ or_assoc (covered τ g) (covers y g)
          (covered ys g);
      within = λ g c.
          rw (← or_assoc (covered τ g) (covers y g) (covered ys g))
          (⊎_elim
          (λ k. or_left (covered τ g || covers y g) (covered ys g) (e.within g k))
          (or_right (covered τ g || covers y g) (covered ys g))
          (or_cases (covered ρ g) (covered ys g) (f.within g c)));
    })
    (grown_each ρ ys))

pub grow_all_by : (τ : Entries) (ys : List Trits) → Given (GrownBy τ ys) (grow_all τ ys)
unfolding grow_all
grow_all_by τ ys = grown_each τ ys
