-- Strings that widening leaves as they are: what was widened is one, and one against a list is so against a part of it.
-- Assumes nothing.
use mathlib.Core.Path.{◌≡◌, refl, sym, ap, ◌∙◌, subst}
use mathlib.Core.Bool.{Bool, true, false, not, ◌&&◌, ◌||◌, cond}
use mathlib.Core.List.{[], ◌∷◌, ◌++◌, append-nil, append_assoc}
use mathlib.Core.Logic.{⊎_elim}
use Prim.Native.Nat.{ℕ, zero, suc, ◌+◌, ◌≤◌, ◌<◌}
use native.Mathlib.Omega.{arith}
use lib.Dec.{T, ltb, ltb→lt, nltb→le, lt→ltb}
use lib.ListN.{length}
use Rattle.model.specs.Strings.{Trit, t0, t1, t*, Trits, subsumes_digit, subsumes, fixed_digit, flip, fixed}
use Rattle.model.specs.Strings.{fixed_count, flipped, starred}
use Rattle.model.specs.Growth.{Entries, subsumed, widen_at, widen_from, widen, Stable}
use Rattle.model.proofs.Tests.{tests, or_cases, or_left, or_right, and_first, and_second, and_both, true_of, false_of}
use Rattle.model.proofs.Tests.{decide}
use Rattle.model.proofs.Strings.{subsumes_covers, subsumes_exact}
use Rattle.model.proofs.Positions.{starred_covers, starred_length}
use Rattle.model.proofs.Subsuming.{subsumes_same, subsumes_both}
use Rattle.model.proofs.Entries.{subsumed_within, subsumed_append, without}

-- ---- A string z that subsumes y

fixed_digit_within : (t u : Trit) → T (subsumes_digit t u) → T (fixed_digit t) → T (fixed_digit u)
fixed_digit_within t0 t0 h f = tt
fixed_digit_within t0 t1 h f = tt
fixed_digit_within t0 t* h f = absurd h
fixed_digit_within t1 t0 h f = tt
fixed_digit_within t1 t1 h f = tt
fixed_digit_within t1 t* h f = absurd h
fixed_digit_within t* u h f = absurd f

flip_digit_within : (t u : Trit) → T (subsumes_digit t u) → T (subsumes_digit (flip t) (flip u))
flip_digit_within t0 t0 h = tt
flip_digit_within t0 t1 h = absurd h
flip_digit_within t0 t* h = absurd h
flip_digit_within t1 t0 h = absurd h
flip_digit_within t1 t1 h = tt
flip_digit_within t1 t* h = absurd h
flip_digit_within t* u h = tt

-- Where z is fixed, y is.
pub fixed_within : (i : ℕ) (z y : Trits) → T (subsumes z y) → T (fixed i z) → T (fixed i y)
unfolding subsumes fixed
fixed_within i [] y h f = absurd f
fixed_within i (t ∷ z) [] h f = absurd h
fixed_within zero (t ∷ z) (u ∷ y) h f = fixed_digit_within t u (and_first (subsumes_digit t u) (subsumes z y) h) f
fixed_within (suc i) (t ∷ z) (u ∷ y) h f = fixed_within i z y (and_second (subsumes_digit t u) (subsumes z y) h) f

-- z has no more fixed positions than y
count_within : (z y : Trits) → T (subsumes z y) → fixed_count z ≤ fixed_count y
unfolding subsumes fixed_count
count_within [] [] h = omega arith
count_within [] (u ∷ y) h = absurd h
count_within (t ∷ z) [] h = absurd h
count_within (t ∷ z) (u ∷ y) h =
    go (fixed_digit t) (fixed_digit u) (fixed_digit_within t u (and_first (subsumes_digit t u) (subsumes z y) h))
    (count_within z y (and_second (subsumes_digit t u) (subsumes z y) h))
  where
    go : (a b : Bool) → (T a → T b) → fixed_count z ≤ fixed_count y
        → cond a (suc (fixed_count z)) (fixed_count z) ≤ cond b (suc (fixed_count y)) (fixed_count y)
    go true true f n = omega arith
    go true false f n = absurd (f tt)
    go false true f n = omega arith
    go false false f n = n

-- With one position flipped in both it still does.
pub flipped_within : (i : ℕ) (z y : Trits) → T (subsumes z y) → T (subsumes (flipped i z) (flipped i y))
unfolding subsumes flipped
flipped_within i [] [] h = tt
flipped_within i [] (u ∷ y) h = absurd h
flipped_within i (t ∷ z) [] h = absurd h
flipped_within zero (t ∷ z) (u ∷ y) h = search (tests, flip_digit_within t u)
flipped_within (suc i) (t ∷ z) (u ∷ y) h = search (tests, flipped_within i z y)

-- a position made `*` is not fixed
starred_fixed : (i : ℕ) (y : Trits) → ¬ (T (fixed i (starred i y)))
unfolding fixed starred
starred_fixed i [] = λ f. f
starred_fixed zero (t ∷ y) = λ f. f
starred_fixed (suc i) (t ∷ y) = starred_fixed i y

-- ---- Widening subsumes what is widened

-- A string goes on subsuming what it does where a position is made `*`.
pub over_starred : (i : ℕ) (z y : Trits) → T (subsumes z y) → T (subsumes (starred i z) y)
over_starred i z y over = (subsumes_exact (starred i z) y).1 (λ g c. starred_covers i z g (subsumes_covers z y g over c))

-- It goes on where a position is widened,
pub at_over : (τ : Entries) (i : ℕ) (z y : Trits) → T (subsumes z y) → T (subsumes (widen_at τ i z) y)
unfolding widen_at
at_over τ i z y over = go (ltb 1 (fixed_count z) && fixed i z && subsumed τ (flipped i z))
  where
    go : (b : Bool) → T (subsumes (cond b (starred i z) z) y)
    go true = over_starred i z y over
    go false = over

-- or several.
pub from_over : (τ : Entries) (i n : ℕ) (z y : Trits) → T (subsumes z y) → T (subsumes (widen_from τ i n z) y)
unfolding widen_from
from_over τ i zero z y over = over
from_over τ i (suc n) z y over = from_over τ (suc i) n (widen_at τ i z) y (at_over τ i z y over)

-- ---- Its length

at_length : (τ : Entries) (i : ℕ) (y : Trits) → length (widen_at τ i y) ≡ length y
unfolding widen_at
at_length τ i y = go (ltb 1 (fixed_count y) && fixed i y && subsumed τ (flipped i y))
  where
    go : (b : Bool) → length (cond b (starred i y) y) ≡ length y
    go true = starred_length i y
    go false = refl

from_length : (τ : Entries) (i n : ℕ) (y : Trits) → length (widen_from τ i n y) ≡ length y
unfolding widen_from
from_length τ i zero y = refl
from_length τ i (suc n) y = from_length τ (suc i) n (widen_at τ i y) ∙ at_length τ i y

-- Widening keeps the length.
pub widen_length : (τ : Entries) (y : Trits) → length (widen τ y) ≡ length y
unfolding widen
widen_length τ y = from_length τ 0 (length y) y

-- ---- Which positions open

-- Position i of y becomes `*`.
unfoldable pub opens : Entries → ℕ → Trits → Bool
opens τ i y = ltb 1 (fixed_count y) && fixed i y && subsumed τ (flipped i y)

module _ (τ : Entries) (i : ℕ) (y : Trits) where
  opens_both : T (opens τ i y) → T (ltb 1 (fixed_count y) && fixed i y)
  unfolding opens
  opens_both h = and_first (ltb 1 (fixed_count y) && fixed i y) (subsumed τ (flipped i y)) h

  pub opens_many : T (opens τ i y) → 1 < fixed_count y
  opens_many h = ltb→lt 1 (fixed_count y) (and_first (ltb 1 (fixed_count y)) (fixed i y) (opens_both h))

  pub opens_fixed : T (opens τ i y) → T (fixed i y)
  opens_fixed h = and_second (ltb 1 (fixed_count y)) (fixed i y) (opens_both h)

  pub opens_subsumed : T (opens τ i y) → T (subsumed τ (flipped i y))
  unfolding opens
  opens_subsumed h = and_second (ltb 1 (fixed_count y) && fixed i y) (subsumed τ (flipped i y)) h

  pub opens_all : 1 < fixed_count y → T (fixed i y) → T (subsumed τ (flipped i y)) → T (opens τ i y)
  unfolding opens
  opens_all n f h =
      and_both (ltb 1 (fixed_count y) && fixed i y) (subsumed τ (flipped i y))
      (and_both (ltb 1 (fixed_count y)) (fixed i y) (lt→ltb 1 (fixed_count y) n) f) h

  pub opened : T (opens τ i y) → widen_at τ i y ≡ starred i y
  unfolding widen_at opens
  opened h = rw (true_of (ltb 1 (fixed_count y) && fixed i y && subsumed τ (flipped i y)) h)

  pub unopened : ¬ (T (opens τ i y)) → widen_at τ i y ≡ y
  unfolding widen_at opens
  unopened n = rw (false_of (ltb 1 (fixed_count y) && fixed i y && subsumed τ (flipped i y)) n)

  -- a position that stays does not open
  stays_unopened : widen_at τ i y ≡ y → ¬ (T (opens τ i y))
  stays_unopened e h = starred_fixed i y (subst (λ (s : Trits). T (fixed i s)) (sym e ∙ opened h) (opens_fixed h))

-- The first list subsumes no more than the second.
abbrev pub PartOf : Entries → Entries → Type 0
PartOf τ σ = (r : Trits) → T (subsumed τ r) → T (subsumed σ r)

-- What opens in a wider string, against a part of the list, opens.
pub opens_within : (τ σ : Entries) (i : ℕ) (z y : Trits) → PartOf τ σ → T (subsumes z y) → T (opens τ i z) → T (opens σ i y)
opens_within τ σ i z y part over h =
    let many = opens_many τ i z h in
    opens_all σ i y (omega (arith, count_within z y over)) (fixed_within i z y over (opens_fixed τ i z h))
    (subsumed_within σ (flipped i z) (flipped i y) (part (flipped i z) (opens_subsumed τ i z h)) (flipped_within i z y over))

-- ---- Stable strings

-- where none of several positions opens, the string stays
unopened_from : (τ : Entries) (i n : ℕ) (y : Trits) → ((m : ℕ) → i ≤ m → m < i + n → ¬ (T (opens τ m y)))
    → widen_from τ i n y ≡ y
unfolding widen_from
unopened_from τ i zero y f = refl
unopened_from τ i (suc n) y f =
    ap (widen_from τ (suc i) n) (unopened τ i y (f i (omega arith) (omega arith)))
    ∙ unopened_from τ (suc i) n y (λ m a b. f m (omega arith) (omega arith))

-- Where no position opens, a string is stable.
pub stays : (τ : Entries) (y : Trits) → ((m : ℕ) → ¬ (T (opens τ m y))) → widen τ y ≡ y
unfolding widen
stays τ y f = unopened_from τ 0 (length y) y (λ m a b. f m)

-- the first of several positions, or a later one
at_or_after : (P : ℕ → Type 0) (i n m : ℕ) → P i → (suc i ≤ m → m < suc i + n → P m) → i ≤ m → m < i + suc n → P m
at_or_after P i n m p f a b = go (ltb i m) (ltb→lt i m) (nltb→le i m)
  where
    go : (c : Bool) → (T c → i < m) → (T (not c) → m ≤ i) → P m
    go true later here = f (later tt) (omega arith)
    go false later here = let h = here tt in subst P (let e : i ≡ m = omega arith in e) p

-- where the string stays, none of them opens
from_unopened : (τ : Entries) (i n : ℕ) (y : Trits) → widen_from τ i n y ≡ y → (m : ℕ) → i ≤ m → m < i + n
    → ¬ (T (opens τ m y))
unfolding widen_from
from_unopened τ i zero y e m a b = absurd (omega arith)
from_unopened τ i (suc n) y e m a b =
    let first : widen_at τ i y ≡ y =
    subsumes_both (widen_at τ i y) y (at_over τ i y y (subsumes_same y))
    (subst (λ (s : Trits). T (subsumes s (widen_at τ i y))) e
    (from_over τ (suc i) n (widen_at τ i y) (widen_at τ i y) (subsumes_same (widen_at τ i y)))) in
    at_or_after (λ k. ¬ (T (opens τ k y))) i n m (stays_unopened τ i y first)
    (from_unopened τ (suc i) n y (ap (widen_from τ (suc i) n) (sym first) ∙ e) m) a b

-- none of the positions that were widened opens in what comes out
widened_unopened : (τ : Entries) (i n : ℕ) (y : Trits) (m : ℕ) → i ≤ m → m < i + n → ¬ (T (opens τ m (widen_from τ i n y)))
unfolding widen_from
widened_unopened τ i zero y m a b = absurd (omega arith)
widened_unopened τ i (suc n) y m a b =
    at_or_after (λ k. ¬ (T (opens τ k (widen_from τ (suc i) n (widen_at τ i y))))) i n m here
    (widened_unopened τ (suc i) n (widen_at τ i y) m) a b
  where
    z : Trits
    z = widen_from τ (suc i) n (widen_at τ i y)

    over : T (subsumes z (widen_at τ i y))
    over = from_over τ (suc i) n (widen_at τ i y) (widen_at τ i y) (subsumes_same (widen_at τ i y))

    go : Dec (T (opens τ i y)) → ¬ (T (opens τ i z))
    go (yes o) h =
        starred_fixed i y (subst (λ (s : Trits). T (fixed i s)) (opened τ i y o)
        (fixed_within i z (widen_at τ i y) over (opens_fixed τ i z h)))
    go (no n) h =
        n (opens_within τ τ i z y (λ r k. k) (subst (λ (s : Trits). T (subsumes z s)) (unopened τ i y n) over) h)

    here : ¬ (T (opens τ i z))
    here = go (decide (opens τ i y))

-- Widening twice is widening once.
pub widen_twice : (τ : Entries) (y : Trits) → widen τ (widen τ y) ≡ widen τ y
unfolding widen
widen_twice τ y =
    unopened_from τ 0 (length (widen_from τ 0 (length y) y)) (widen_from τ 0 (length y) y)
    (λ m a b. widened_unopened τ 0 (length y) y m a (rw (from_length τ 0 (length y) y) at b))

-- What is stable against a list is so against a part of it.
pub stable_part : (τ σ : Entries) (y : Trits) → PartOf τ σ → widen σ y ≡ y → widen τ y ≡ y
unfolding widen
stable_part τ σ y part e =
    unopened_from τ 0 (length y) y
    (λ m a b h. from_unopened σ 0 (length y) y e m a b (opens_within τ σ m y y part (subsumes_same y) h))

-- Against no entry every string is stable.
pub stable_alone : (y : Trits) → widen [] y ≡ y
unfolding widen
stable_alone y = unopened_from [] 0 (length y) y (λ m a b h. unfold subsumed in opens_subsumed [] m y h)

-- ---- Lists of stable strings

part_append : (τ σ ρ : Entries) → PartOf τ σ → PartOf (τ ++ ρ) (σ ++ ρ)
part_append τ σ ρ part r h =
    rw (subsumed_append σ ρ r)
    (⊎_elim (λ k. or_left (subsumed σ r) (subsumed ρ r) (part r k)) (or_right (subsumed σ r) (subsumed ρ r))
    (or_cases (subsumed τ r) (subsumed ρ r) (rw (subsumed_append τ ρ r) at h)))

part_more : (τ σ ρ : Entries) → PartOf τ σ → PartOf τ (σ ++ ρ)
part_more τ σ ρ part r h = rw (subsumed_append σ ρ r) (or_left (subsumed σ r) (subsumed ρ r) (part r h))

-- A list with some strings left out is a part of it.
pub part_without : (p : Trits → Bool) (τ : Entries) → PartOf (without p τ) τ
unfolding without subsumed
part_without p [] r h = h
part_without p (s ∷ τ) r h = go (p s) (part_without p τ r) h
  where
    go : (b : Bool) → (T (subsumed (without p τ) r) → T (subsumed τ r))
        → T (subsumed (cond b (without p τ) (s ∷ without p τ)) r) → T (subsumes s r || subsumed τ r)
    go true f k = or_right (subsumes s r) (subsumed τ r) (f k)
    go false f k =
        ⊎_elim (or_left (subsumes s r) (subsumed τ r)) (λ q. or_right (subsumes s r) (subsumed τ r) (f q))
        (or_cases (subsumes s r) (subsumed (without p τ) r) k)

-- Strings left out, of these and of those before them, leave the others stable.
pub stable_without : (p : Trits → Bool) (τ σ ys : Entries) → PartOf τ σ → Stable σ ys → Stable τ (without p ys)
unfolding Stable without
stable_without p τ σ [] part s = tt
stable_without p τ σ (y ∷ ys) part s =
    go (p y) (stable_without p τ (σ ++ (y ∷ [])) ys (part_more τ σ (y ∷ []) part) s.1)
    (stable_without p (τ ++ (y ∷ [])) (σ ++ (y ∷ [])) ys (part_append τ σ (y ∷ []) part) s.1)
  where
    go : (b : Bool) → Stable τ (without p ys) → Stable (τ ++ (y ∷ [])) (without p ys)
        → Stable τ (cond b (without p ys) (y ∷ without p ys))
    go true out kept = out
    go false out kept = (stable_part τ σ y part s.0, kept)

-- One string more at the end.
pub stable_snoc : (τ ys : Entries) (z : Trits) → Stable τ ys → widen (τ ++ ys) z ≡ z → Stable τ (ys ++ (z ∷ []))
unfolding Stable
stable_snoc τ [] z s e = (rw (append-nil τ) at e, tt)
stable_snoc τ (y ∷ ys) z s e = (s.0, stable_snoc (τ ++ (y ∷ [])) ys z s.1 (rw (append_assoc τ (y ∷ []) ys) e))
