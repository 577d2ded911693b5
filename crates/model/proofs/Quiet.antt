-- Growing by a string that changed nothing, or that the list was grown by, changes nothing while no string is appended that
-- stirs it. Assumes nothing.
use mathlib.Core.Path.{◌≡◌, refl, sym, ap, ◌∙◌, subst}
use mathlib.Core.Bool.{false, ◌&&◌}
use mathlib.Core.List.{[], ◌∷◌, ◌++◌}
use mathlib.Core.Logic.{◌⊎◌, inl, inr, ⊎_elim}
use Prim.Native.Nat.{ℕ, zero, suc, ◌≤◌, ◌<◌, suc-le-suc, zero-le}
use native.Mathlib.Nat.{le_of_suc-le-suc, not-suc-le-zero}
use native.Mathlib.Omega.{arith}
use lib.Dec.{T}
use lib.ListN.{length}
use Rattle.model.specs.Strings.{Trit, t0, t1, t*, Trits, subsumes_digit, subsumes, fixed_digit, flip, fixed}
use Rattle.model.specs.Strings.{flipped, starred}
use Rattle.model.specs.Growth.{Entries, subsumed, remove, widen_at, widen_from, widen}
use Rattle.model.specs.Stirring.{stirs}
use Rattle.model.specs.Widest.{EntryOf}
use Rattle.model.proofs.Tests.{or_cases, or_left, or_right, and_first, and_second, and_both, decide}
use Rattle.model.proofs.Subsuming.{digit_trans, subsumes_same, subsumes_trans}
use Rattle.model.proofs.Entries.{entry_append, subsumed_append, above, entry_subsumes, entry_without, remove_without}
use Rattle.model.proofs.Stability.{PartOf, at_over, from_over, opens, opens_fixed, opens_many}
use Rattle.model.proofs.Stability.{opens_subsumed, opens_all, opened, unopened, opens_within, part_without}

-- ---- A position stays fixed once Widen has passed it

-- where a later position is made `*`
starred_keeps : (i j : ℕ) (y : Trits) → j < i → T (fixed j y) → T (fixed j (starred i y))
unfolding fixed starred
starred_keeps i j [] h f = f
starred_keeps zero j (t ∷ y) h f = absurd (not-suc-le-zero h)
starred_keeps (suc i) zero (t ∷ y) h f = f
starred_keeps (suc i) (suc j) (t ∷ y) h f = starred_keeps i j y (le_of_suc-le-suc h) f

-- where one is widened
at_keeps : (τ : Entries) (i j : ℕ) (y : Trits) → j < i → T (fixed j y) → T (fixed j (widen_at τ i y))
at_keeps τ i j y h f = go (decide (opens τ i y))
  where
    go : Dec (T (opens τ i y)) → T (fixed j (widen_at τ i y))
    go (yes o) = rw (opened τ i y o) (starred_keeps i j y h f)
    go (no n) = rw (unopened τ i y n) f

-- or several
from_keeps : (τ : Entries) (i n j : ℕ) (y : Trits) → j < i → T (fixed j y) → T (fixed j (widen_from τ i n y))
unfolding widen_from
from_keeps τ i zero j y h f = f
from_keeps τ i (suc n) j y h f = from_keeps τ (suc i) n j (widen_at τ i y) (omega arith) (at_keeps τ i j y h f)

-- ---- What stirs

-- a digit that is `*` only where it was stays as it is
stays_digit : (v w : Trit) → T (subsumes_digit v w) → (T (fixed_digit w) → T (fixed_digit v)) → w ≡ v
stays_digit t0 t0 o k = refl
stays_digit t1 t1 o k = refl
stays_digit t0 t1 o k = absurd o
stays_digit t0 t* o k = absurd o
stays_digit t1 t0 o k = absurd o
stays_digit t1 t* o k = absurd o
stays_digit t* t0 o k = absurd (k tt)
stays_digit t* t1 o k = absurd (k tt)
stays_digit t* t* o k = refl

-- where t lies between s and z and is z before position i
pub stirs_at : (i : ℕ) (e s t z : Trits) → T (subsumes z t) → T (subsumes t s)
    → ((j : ℕ) → j ≤ i → T (fixed j t) → T (fixed j z)) → T (fixed i t) → T (subsumes e (flipped i t)) → T (stirs e s z)
unfolding subsumes fixed flipped stirs
stirs_at i e s [] z o p k f h = absurd f
stirs_at i [] s (w ∷ t) z o p k f h = absurd (empty i h)
  where
    empty : (i : ℕ) → T (subsumes [] (flipped i (w ∷ t))) → ⊥
    empty zero h = h
    empty (suc i) h = h
stirs_at i (a ∷ e) [] (w ∷ t) z o p k f h = absurd p
stirs_at i (a ∷ e) (u ∷ s) (w ∷ t) [] o p k f h = absurd o
stirs_at zero (a ∷ e) (u ∷ s) (w ∷ t) (v ∷ z) o p k f h =
    or_left (fixed_digit v && subsumes_digit a (flip v) && subsumes e s) (subsumes_digit a v && stirs e s z)
    (and_both (fixed_digit v && subsumes_digit a (flip v)) (subsumes e s)
    (and_both (fixed_digit v) (subsumes_digit a (flip v)) (k 0 zero-le f)
    (subst (λ (d : Trit). T (subsumes_digit a (flip d)))
    (stays_digit v w (and_first (subsumes_digit v w) (subsumes z t) o) (k 0 zero-le))
    (and_first (subsumes_digit a (flip w)) (subsumes e t) h)))
    (subsumes_trans e t s (and_second (subsumes_digit a (flip w)) (subsumes e t) h)
    (and_second (subsumes_digit w u) (subsumes t s) p)))
stirs_at (suc i) (a ∷ e) (u ∷ s) (w ∷ t) (v ∷ z) o p k f h =
    or_right (fixed_digit v && subsumes_digit a (flip v) && subsumes e s) (subsumes_digit a v && stirs e s z)
    (and_both (subsumes_digit a v) (stirs e s z)
    (subst (λ (d : Trit). T (subsumes_digit a d))
    (stays_digit v w (and_first (subsumes_digit v w) (subsumes z t) o) (k 0 zero-le))
    (and_first (subsumes_digit a w) (subsumes e (flipped i t)) h))
    (stirs_at i e s t z (and_second (subsumes_digit v w) (subsumes z t) o) (and_second (subsumes_digit w u) (subsumes t s) p)
    (λ j l. k (suc j) (suc-le-suc l)) f (and_second (subsumes_digit a w) (subsumes e (flipped i t)) h)))

-- A string stirs what one that it subsumes stirs.
pub stirs_wider : (d e s z : Trits) → T (subsumes d e) → T (stirs e s z) → T (stirs d s z)
unfolding subsumes stirs
stirs_wider d [] s z o h = absurd h
stirs_wider [] (t ∷ e) s z o h = absurd o
stirs_wider (a ∷ d) (t ∷ e) [] z o h = absurd h
stirs_wider (a ∷ d) (t ∷ e) (u ∷ s) [] o h = absurd h
stirs_wider (a ∷ d) (t ∷ e) (u ∷ s) (v ∷ z) o h =
    ⊎_elim
    (λ k. or_left (fixed_digit v && subsumes_digit a (flip v) && subsumes d s) (subsumes_digit a v && stirs d s z)
    (and_both (fixed_digit v && subsumes_digit a (flip v)) (subsumes d s)
    (and_both (fixed_digit v) (subsumes_digit a (flip v))
    (and_first (fixed_digit v) (subsumes_digit t (flip v)) (first k))
    (digit_trans a t (flip v) here (and_second (fixed_digit v) (subsumes_digit t (flip v)) (first k))))
    (subsumes_trans d e s rest (and_second (fixed_digit v && subsumes_digit t (flip v)) (subsumes e s) k))))
    (λ k. or_right (fixed_digit v && subsumes_digit a (flip v) && subsumes d s) (subsumes_digit a v && stirs d s z)
    (and_both (subsumes_digit a v) (stirs d s z)
    (digit_trans a t v here (and_first (subsumes_digit t v) (stirs e s z) k))
    (stirs_wider d e s z rest (and_second (subsumes_digit t v) (stirs e s z) k))))
    (or_cases (fixed_digit v && subsumes_digit t (flip v) && subsumes e s) (subsumes_digit t v && stirs e s z) h)
  where
    here : T (subsumes_digit a t)
    here = and_first (subsumes_digit a t) (subsumes d e) o

    rest : T (subsumes d e)
    rest = and_second (subsumes_digit a t) (subsumes d e) o

    first : T (fixed_digit v && subsumes_digit t (flip v) && subsumes e s) → T (fixed_digit v && subsumes_digit t (flip v))
    first k = and_first (fixed_digit v && subsumes_digit t (flip v)) (subsumes e s) k

-- What a string is widened to does not stir it.
pub own_unstirred : (s z : Trits) → ¬ (T (stirs z s z))
unfolding stirs
own_unstirred s [] h = h
own_unstirred [] (v ∷ z) h = h
own_unstirred (u ∷ s) (v ∷ z) h =
    ⊎_elim
    (λ k. opposite v (and_first (fixed_digit v) (subsumes_digit v (flip v))
    (and_first (fixed_digit v && subsumes_digit v (flip v)) (subsumes z s) k))
    (and_second (fixed_digit v) (subsumes_digit v (flip v))
    (and_first (fixed_digit v && subsumes_digit v (flip v)) (subsumes z s) k)))
    (λ k. own_unstirred s z (and_second (subsumes_digit v v) (stirs z s z) k))
    (or_cases (fixed_digit v && subsumes_digit v (flip v) && subsumes z s) (subsumes_digit v v && stirs z s z) h)
  where
    opposite : (v : Trit) → T (fixed_digit v) → T (subsumes_digit v (flip v)) → ⊥
    opposite t0 f h = h
    opposite t1 f h = h
    opposite t* f h = f

-- ---- The list with e appended in place of what it subsumes

-- e is an entry of it,
pub appended : (e : Trits) (τ : Entries) → EntryOf (remove e τ ++ (e ∷ [])) e
unfolding EntryOf
appended e τ = entry_append (remove e τ) (e ∷ []) e (inr (inl refl))

-- and each entry that e does not subsume.
pub unremoved : (e : Trits) (τ : Entries) (d : Trits) → EntryOf τ d → ¬ (T (subsumes e d)) → EntryOf (remove e τ ++ (e ∷ [])) d
unremoved e τ d i n =
    entry_append (remove e τ) (e ∷ []) d (inl (rw (remove_without e τ) (entry_without (subsumes e) τ d i n)))

-- What was subsumed is.
pub part_grown : (e : Trits) (τ : Entries) → PartOf τ (remove e τ ++ (e ∷ []))
part_grown e τ r h =
    let a = above τ r h in go a.y a.entry a.subsuming (decide (subsumes e a.y))
  where
    go : (y : Trits) → EntryOf τ y → T (subsumes y r) → Dec (T (subsumes e y)) → T (subsumed (remove e τ ++ (e ∷ [])) r)
    go y i o (yes k) = entry_subsumes _ e r (appended e τ) (subsumes_trans e y r k o)
    go y i o (no n) = entry_subsumes _ y r (unremoved e τ y i n) o

-- What is subsumed now was, or e subsumes it.
grown_part : (e : Trits) (τ : Entries) (r : Trits) → T (subsumed (remove e τ ++ (e ∷ [])) r)
    → T (subsumed τ r) ⊎ T (subsumes e r)
unfolding subsumed
grown_part e τ r h =
    ⊎_elim (λ k. inl (subst (λ (σ : Entries). PartOf σ τ) (sym (remove_without e τ)) (part_without (subsumes e) τ) r k))
    (λ k. inr (alone k))
    (or_cases (subsumed (remove e τ) r) (subsumed (e ∷ []) r) (rw (subsumed_append (remove e τ) (e ∷ []) r) at h))
  where
    alone : T (subsumed (e ∷ []) r) → T (subsumes e r)
    alone k = ⊎_elim (λ h. h) (λ h. absurd h) (or_cases (subsumes e r) false k)

-- ---- Widening does not change

module _ (e : Trits) (τ σ : Entries) (part : PartOf τ σ)
    (back : (r : Trits) → T (subsumed σ r) → T (subsumed τ r) ⊎ T (subsumes e r)) (s : Trits) where
  -- at one position
  at_same : (i n : ℕ) (t : Trits) → T (subsumes t s) → ¬ (T (stirs e s (widen_from τ (suc i) n (widen_at τ i t))))
      → widen_at σ i t ≡ widen_at τ i t
  at_same i n t o quiet = go (decide (opens τ i t)) (decide (opens σ i t))
    where
      go : Dec (T (opens τ i t)) → Dec (T (opens σ i t)) → widen_at σ i t ≡ widen_at τ i t
      go (yes h) d = opened σ i t (opens_within τ σ i t t part (subsumes_same t) h) ∙ sym (opened τ i t h)
      go (no m) (no n) = unopened σ i t n ∙ sym (unopened τ i t m)
      go (no m) (yes h) =
          let z = widen_from τ (suc i) n (widen_at τ i t) in
          let same = unopened τ i t m in
          absurd (⊎_elim (λ k. m (opens_all τ i t (opens_many σ i t h) (opens_fixed σ i t h) k))
          (λ k. quiet
          (stirs_at i e s t z (from_over τ (suc i) n (widen_at τ i t) t (at_over τ i t t (subsumes_same t))) o
          (λ j l f. from_keeps τ (suc i) n j (widen_at τ i t) (suc-le-suc l) (rw same f)) (opens_fixed σ i t h) k))
          (back (flipped i t) (opens_subsumed σ i t h)))

  -- and at several
  from_same : (i n : ℕ) (t : Trits) → T (subsumes t s) → ¬ (T (stirs e s (widen_from τ i n t)))
      → widen_from σ i n t ≡ widen_from τ i n t
  unfolding widen_from
  from_same i zero t o quiet = refl
  from_same i (suc n) t o quiet =
      ap (widen_from σ (suc i) n) (at_same i n t o quiet)
      ∙ from_same (suc i) n (widen_at τ i t) (at_over τ i t s o) quiet

-- Where e does not stir s, s is widened to the same once e is appended.
pub widen_unstirred : (e : Trits) (τ : Entries) (s : Trits) → ¬ (T (stirs e s (widen τ s)))
    → widen (remove e τ ++ (e ∷ [])) s ≡ widen τ s
unfolding widen
widen_unstirred e τ s quiet =
    from_same e τ (remove e τ ++ (e ∷ [])) (part_grown e τ) (grown_part e τ) s 0 (length s) s (subsumes_same s) quiet

-- So where that changed nothing it changes nothing.
pub unstirred_grown : (e : Trits) (τ : Entries) (s z : Trits) → widen τ s ≡ z → T (subsumed τ z) → ¬ (T (stirs e s z))
    → (widen (remove e τ ++ (e ∷ [])) s ≡ z) × T (subsumed (remove e τ ++ (e ∷ [])) z)
unstirred_grown e τ s z is h quiet =
    (widen_unstirred e τ s (λ k. quiet (rw is at k)) ∙ is, part_grown e τ z h)

-- Growing again by the string that a list was grown by changes nothing.
pub own_grown : (τ : Entries) (s z : Trits) → widen τ s ≡ z
    → (widen (remove z τ ++ (z ∷ [])) s ≡ z) × T (subsumed (remove z τ ++ (z ∷ [])) z)
own_grown τ s z is = (
  widen_unstirred z τ s (λ k. own_unstirred s z (rw is at k)) ∙ is,
  entry_subsumes (remove z τ ++ (z ∷ [])) z z (appended z τ) (subsumes_same z),
)

-- Where no string of a list stirs s after e is appended, none did before: e stirs what a string that it subsumes does.
pub quiet_before : (e : Trits) (ν : Entries) (s z : Trits)
    → ((d : Trits) → EntryOf (remove e ν ++ (e ∷ [])) d → ¬ (T (stirs d s z))) → (d : Trits) → EntryOf ν d
    → ¬ (T (stirs d s z))
quiet_before e ν s z quiet d i h = go (decide (subsumes e d))
  where
    go : Dec (T (subsumes e d)) → ⊥
    go (yes o) = quiet e (appended e ν) (stirs_wider e d s z o h)
    go (no n) = quiet d (unremoved e ν d i n) h
