-- Where every entry that opens a position of a string subsumes it, widening is not needed: a string that an entry subsumes is
-- absorbed, any other stays as it is. Assumes nothing.
use mathlib.Core.Path.{◌≡◌, refl, sym, ◌∙◌, subst}
use mathlib.Core.Bool.{Bool, true, false, false≢true, not, ◌||◌, cond}
use mathlib.Core.List.{List, [], ◌∷◌}
use mathlib.Core.Logic.{⊎_elim}
use Prim.Native.Nat.{ℕ, zero, suc, ◌+◌, ◌<◌, ◌≤◌}
use native.Mathlib.Omega.{arith}
use borrow.Author.Tests.{eqb-true, eqb-false}
use lib.Dec.{T, eqb}
use lib.ListN.{length, get_or}
use Rattle.model.specs.Strings.{Trit, t0, t1, t*, Trits, subsumes_digit, subsumes, fixed_digit, flip, fixed, flipped, starred}
use Rattle.model.specs.Growth.{Entries, subsumed, widen_at, widen_from, widen}
use Rattle.model.specs.Tables.{Wide}
use Rattle.model.proofs.Stability.{fixed_within, flipped_within, at_over, opens, opened, unopened, opens_fixed, opens_subsumed}
use Rattle.model.proofs.Stability.{stays}
use Rattle.model.proofs.Subsuming.{subsumes_same, subsumes_trans}
use Rattle.model.proofs.Tests.{or_cases, or_left, or_right, and_both, and_first, and_second, true_of, decide}
use Rattle.tables.specs.Lists.{some_from}
use Rattle.tables.proofs.Arrays.{subsumed_any}
use Rattle.words.specs.Words.{word, set_word, subsumes_word, near, openings}
use Rattle.words.proofs.Codec.{empty_none}
use Rattle.words.proofs.LackedBits.{openings_at}
use Rattle.words.proofs.Shades.{far_none}
use Rattle.words.proofs.Words.{word_subsumes}
use Rattle.lists.specs.Widening.{near_list, half, Gathered, Unedged}
use Rattle.lists.proofs.NearEntries.{near_subsumed, near_each}
use Rattle.lists.proofs.WordTests.{some_any}

-- ---- One entry

-- an entry that subsumes s, s with position i flipped, and t so flipped, subsumes t with `*` there
over_both : (i : ℕ) (e s t : Trits) → T (fixed i s) → T (subsumes e s) → T (subsumes e (flipped i s))
    → T (subsumes e (flipped i t)) → T (subsumes e (starred i t))
unfolding fixed subsumes flipped starred
over_both i e [] t f h k m = absurd f
over_both i [] (u ∷ s) t f h k m = absurd h
over_both i (a ∷ e) (u ∷ s) [] f h k m = m
over_both zero (a ∷ e) (u ∷ s) (v ∷ t) f h k m =
    and_both (subsumes_digit a t*) (subsumes e t)
    (digit a u f (and_first (subsumes_digit a u) (subsumes e s) h) (and_first (subsumes_digit a (flip u)) (subsumes e s) k))
    (and_second (subsumes_digit a (flip v)) (subsumes e t) m)
  where
    digit : (a u : Trit) → T (fixed_digit u) → T (subsumes_digit a u) → T (subsumes_digit a (flip u)) → T (subsumes_digit a t*)
    digit t0 t0 f h k = absurd k
    digit t0 t1 f h k = absurd h
    digit t0 t* f h k = absurd f
    digit t1 t0 f h k = absurd h
    digit t1 t1 f h k = absurd k
    digit t1 t* f h k = absurd f
    digit t* u f h k = tt
over_both (suc i) (a ∷ e) (u ∷ s) (v ∷ t) f h k m =
    and_both (subsumes_digit a v) (subsumes e (starred i t)) (and_first (subsumes_digit a v) (subsumes e (flipped i t)) m)
    (over_both i e s t f (and_second (subsumes_digit a u) (subsumes e s) h)
    (and_second (subsumes_digit a u) (subsumes e (flipped i s)) k)
    (and_second (subsumes_digit a v) (subsumes e (flipped i t)) m))

-- an entry that opens a position of s, where none opens one that it lacks, subsumes s
opens_over : (e s : Trits) (i : ℕ) → length e ≡ length s → (subsumes e s ≡ false → set_word (openings e s) ≡ 0)
    → T (fixed i s) → T (subsumes e (flipped i s)) → T (subsumes e s)
opens_over e s i n none f h = go (subsumes e s) refl
  where
    go : (b : Bool) → subsumes e s ≡ b → T b
    go true q = tt
    go false q =
        subst T
        (sym (openings_at e s i n) ∙ empty_none (openings e s) (none q) i)
        (and_both (fixed i s) (subsumes e (flipped i s)) f h)

-- ---- A list

module _ (s : Trits) where
  -- what is subsumed by an entry that opens a position of s, so subsumed with `*` there
  over_list : (τ : Entries) → Wide (length s) τ → Unedged τ s → (i : ℕ) (t : Trits) → T (fixed i s) → T (subsumes t s)
      → T (subsumed τ (flipped i t)) → T (subsumed τ (starred i t))
  unfolding Wide Unedged subsumed
  over_list [] w u i t f over h = h
  over_list (e ∷ τ) w u i t f over h =
      ⊎_elim
      (λ k.
      let at = subsumes_trans e (flipped i t) (flipped i s) k (flipped_within i t s over) in
      or_left (subsumes e (starred i t)) (subsumed τ (starred i t))
      (over_both i e s t f (opens_over e s i w.0 u.0 f at) at k))
      (λ k. or_right (subsumes e (starred i t)) (subsumed τ (starred i t)) (over_list τ w.1 u.1 i t f over k))
      (or_cases (subsumes e (flipped i t)) (subsumed τ (flipped i t)) h)

  -- where none subsumes s, none opens a position of it
  none_opens : (τ : Entries) → Wide (length s) τ → Unedged τ s → ¬ (T (subsumed τ s)) → (i : ℕ) → T (fixed i s)
      → ¬ (T (subsumed τ (flipped i s)))
  unfolding Wide Unedged subsumed
  none_opens [] w u n i f h = h
  none_opens (e ∷ τ) w u n i f h =
      ⊎_elim
      (λ k. n (or_left (subsumes e s) (subsumed τ s) (opens_over e s i w.0 u.0 f k)))
      (none_opens τ w.1 u.1 (λ k. n (or_right (subsumes e s) (subsumed τ s) k)) i f)
      (or_cases (subsumes e (flipped i s)) (subsumed τ (flipped i s)) h)

  module _ (τ : Entries) (w : Wide (length s) τ) (u : Unedged τ s) where
    -- one position keeps what is subsumed so
    kept_at : (i : ℕ) (t : Trits) → T (subsumes t s) → T (subsumed τ t) → T (subsumed τ (widen_at τ i t))
    kept_at i t over h = go (decide (opens τ i t))
      where
        go : Dec (T (opens τ i t)) → T (subsumed τ (widen_at τ i t))
        go (yes o) =
            rw (opened τ i t o)
            (over_list τ w u i t (fixed_within i t s over (opens_fixed τ i t o)) over (opens_subsumed τ i t o))
        go (no n) = rw (unopened τ i t n) h

    kept_from : (i n : ℕ) (t : Trits) → T (subsumes t s) → T (subsumed τ t) → T (subsumed τ (widen_from τ i n t))
    unfolding widen_from
    kept_from i zero t over h = h
    kept_from i (suc n) t over h = kept_from (suc i) n (widen_at τ i t) (at_over τ i t s over) (kept_at i t over h)

    -- what an entry subsumes, one subsumes once it is widened
    pub unedged_kept : subsumed τ s ≡ true → subsumed τ (widen τ s) ≡ true
    unfolding widen
    unedged_kept h = true_of (subsumed τ (widen τ s)) (kept_from 0 (length s) s (subsumes_same s) (rw h tt))

    -- what none subsumes is not widened
    pub unedged_stays : subsumed τ s ≡ false → widen τ s ≡ s
    unedged_stays h =
        stays τ s (λ m o. none_opens τ w u (λ k. subst T h k) m (opens_fixed τ m s o) (opens_subsumed τ m s o))

-- ---- By the near entries

-- a far entry opens nothing
pub near_unedged : (τ : Entries) (s : Trits) → Wide (length s) τ
    → ((m : ℕ) → m < length (near_list τ s) → subsumes (get_or (near_list τ s) m []) s ≡ false
    → set_word (openings (get_or (near_list τ s) m []) s) ≡ 0) → Unedged τ s
unfolding near_list Wide Unedged
near_unedged [] s w f = tt
near_unedged (e ∷ τ) s w f = go (near e s) refl f (near_unedged τ s w.1)
  where
    go : (b : Bool) → near e s ≡ b
        → ((m : ℕ) → m < length (cond b (e ∷ near_list τ s) (near_list τ s))
        → subsumes (get_or (cond b (e ∷ near_list τ s) (near_list τ s)) m []) s ≡ false
        → set_word (openings (get_or (cond b (e ∷ near_list τ s) (near_list τ s)) m []) s) ≡ 0)
        → (((m : ℕ) → m < length (near_list τ s) → subsumes (get_or (near_list τ s) m []) s ≡ false
        → set_word (openings (get_or (near_list τ s) m []) s) ≡ 0) → Unedged τ s)
        → (subsumes e s ≡ false → set_word (openings e s) ≡ 0) × Unedged τ s
    go true q f rest = (f 0 (omega arith), rest (λ m lt. f (suc m) (omega arith)))
    go false q f rest = (λ d. far_none e s s w.0 refl q (subsumes_same s), rest f)

-- of the k gathered entries the first i open nothing that they lack, if nothing was found
pub record EdgesSoFar (found : Bool) (ν : Entries) (s : Trits) (i : ℕ) : Type 0 where
  pub none : found ≡ false → (m : ℕ) → m < i → subsumes (get_or ν m []) s ≡ false → set_word (openings (get_or ν m []) s) ≡ 0

pub edges_start : (ν : Entries) (s : Trits) → EdgesSoFar false ν s 0
edges_start ν s = record { none = λ e m lt. absurd (omega arith) }

pub edges_turn : {found : Bool} {i : ℕ} {ν : Entries} {s : Trits} → EdgesSoFar found ν s i → (hit : ℕ)
    → (subsumes (get_or ν i []) s ≡ false → hit ≡ set_word (openings (get_or ν i []) s))
    → EdgesSoFar (found || not (eqb hit 0)) ν s (i + 1)
edges_turn {found} {i} {ν} {s} w hit f = record { none = λ e m lt. go (both found (eqb hit 0) e) m lt (eqb m i) refl }
  where
    both : (a b : Bool) → (a || not b) ≡ false → (a ≡ false) × (b ≡ true)
    both true b e = absurd (false≢true (sym e))
    both false true e = (refl, refl)
    both false false e = absurd (false≢true (sym e))

    go : (found ≡ false) × (eqb hit 0 ≡ true) → (m : ℕ) → m < i + 1 → (b : Bool) → eqb m i ≡ b
        → subsumes (get_or ν m []) s ≡ false → set_word (openings (get_or ν m []) s) ≡ 0
    go e m lt true q = rw (eqb-true m i q) (λ d. sym (f d) ∙ eqb-true hit 0 e.1)
    go e m lt false q = let other = eqb-false m i q in w.none e.0 m (omega (arith, other))

-- ---- The gathered entries

-- one of them subsumes s where an entry does
pub gathered_subsumed : {list : List ℕ} {k y : ℕ} (τ : Entries) (s : Trits) → Gathered word list k (near_list τ s) → y ≡ word s
    → Wide (length s) τ → length s ≤ 32 → some_from half k (λ i. subsumes_word (get_or list i 0) y) ≡ subsumed τ s
gathered_subsumed {list} {k} {y} τ s g is wide short =
    rw g.count
    (some_any _ (λ r. subsumes r s) (near_list τ s) half
    (λ m lt.
    let at = near_each _ τ s wide m lt in
    rw (is, g.here m (omega (arith, g.count))) (word_subsumes (get_or (near_list τ s) m []) s at.0 (rw at.0 short)))
    ∙ subsumed_any (near_list τ s) s
    ∙ near_subsumed s s (subsumes_same s) τ)
