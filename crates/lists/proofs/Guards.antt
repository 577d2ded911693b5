-- A string that entries guard is absorbed, and stays so while no string is appended that opens a position of it; one that no
-- entry touches comes in as it is. Assumes nothing.
use mathlib.Core.Path.{◌≡◌, refl, sym, ap, subst}
use mathlib.Core.Bool.{Bool, true, false, not, ◌&&◌, ◌||◌}
use mathlib.Core.List.{[], ◌∷◌, ◌++◌}
use mathlib.Core.Logic.{◌⊎◌, inl, inr, ⊎_elim}
use Prim.Native.Nat.{ℕ, zero, suc, ◌<◌}
use native.Mathlib.Omega.{arith}
use lib.Dec.{T}
use lib.ListN.{length, get_or}
use Rattle.model.specs.Strings.{Trit, t0, t1, t*, Trits, subsumes_digit, subsumes, fixed_digit, flip, fixed, flipped, starred}
use Rattle.model.specs.Growth.{Entries, subsumed, remove, widen_at, widen_from, widen}
use Rattle.model.specs.Stirring.{stirs}
use Rattle.model.specs.Widest.{EntryOf}
use Rattle.model.proofs.Entries.{above, entry_subsumes, append_entry, without_entry, remove_without}
use Rattle.model.proofs.Quiet.{appended, stirs_at, unremoved}
use Rattle.model.proofs.Stability.{fixed_within, flipped_within, at_over, opens, opened, unopened, opens_fixed, opens_subsumed}
use Rattle.model.proofs.Stability.{stays}
use Rattle.model.proofs.Subsuming.{subsumes_same, subsumes_trans, subsumes_both}
use Rattle.model.proofs.Tests.{and_both, and_first, and_second, or_cases, or_left, or_right, decide}
use Rattle.lists.specs.Widening.{Guarded, Untouched}

-- ---- One entry

-- the index of an entry
pub index_of : (ν : Entries) (e : Trits) → EntryOf ν e → (m : ℕ) × (m < length ν) × (get_or ν m [] ≡ e)
unfolding EntryOf
index_of [] e i = absurd i
index_of (r ∷ ν) e (inl i) = (0, omega arith, i)
index_of (r ∷ ν) e (inr i) = let m = index_of ν e i in (suc m.0, omega (arith, m.1), m.2)

-- an entry that subsumes s and s with position i flipped, and t, subsumes t with `*` there
over_star : (i : ℕ) (e s t : Trits) → T (fixed i s) → T (subsumes e s) → T (subsumes e (flipped i s))
    → T (subsumes e t) → T (subsumes e (starred i t))
unfolding fixed subsumes flipped starred
over_star i e [] t f h k m = absurd f
over_star i [] (u ∷ s) t f h k m = absurd h
over_star i (a ∷ e) (u ∷ s) [] f h k m = m
over_star zero (a ∷ e) (u ∷ s) (v ∷ t) f h k m =
    and_both (subsumes_digit a t*) (subsumes e t)
    (digit a u f (and_first (subsumes_digit a u) (subsumes e s) h) (and_first (subsumes_digit a (flip u)) (subsumes e s) k))
    (and_second (subsumes_digit a v) (subsumes e t) m)
  where
    digit : (a u : Trit) → T (fixed_digit u) → T (subsumes_digit a u) → T (subsumes_digit a (flip u)) → T (subsumes_digit a t*)
    digit t0 t0 f h k = absurd k
    digit t0 t1 f h k = absurd h
    digit t0 t* f h k = absurd f
    digit t1 t0 f h k = absurd h
    digit t1 t1 f h k = absurd k
    digit t1 t* f h k = absurd f
    digit t* u f h k = tt
over_star (suc i) (a ∷ e) (u ∷ s) (v ∷ t) f h k m =
    and_both (subsumes_digit a v) (subsumes e (starred i t)) (and_first (subsumes_digit a v) (subsumes e t) m)
    (over_star i e s t f (and_second (subsumes_digit a u) (subsumes e s) h)
    (and_second (subsumes_digit a u) (subsumes e (flipped i s)) k)
    (and_second (subsumes_digit a v) (subsumes e t) m))

-- an entry that subsumes s and does not fix position i subsumes s with that value flipped
pub over_flipped : (i : ℕ) (e s : Trits) → ¬ (T (fixed i e)) → T (subsumes e s) → T (subsumes e (flipped i s))
unfolding fixed subsumes flipped
over_flipped i e [] n h = h
over_flipped i [] (u ∷ s) n h = absurd h
over_flipped zero (a ∷ e) (u ∷ s) n h =
    and_both (subsumes_digit a (flip u)) (subsumes e s) (digit a n) (and_second (subsumes_digit a u) (subsumes e s) h)
  where
    digit : (a : Trit) → ¬ (T (fixed_digit a)) → T (subsumes_digit a (flip u))
    digit t0 n = absurd (n tt)
    digit t1 n = absurd (n tt)
    digit t* n = tt
over_flipped (suc i) (a ∷ e) (u ∷ s) n h =
    and_both (subsumes_digit a u) (subsumes e (flipped i s)) (and_first (subsumes_digit a u) (subsumes e s) h)
    (over_flipped i e s n (and_second (subsumes_digit a u) (subsumes e s) h))

-- a flipped value does not show where `*` is put
starred_flipped : (i : ℕ) (t : Trits) → starred i (flipped i t) ≡ starred i t
unfolding flipped starred
starred_flipped i [] = refl
starred_flipped zero (v ∷ t) = refl
starred_flipped (suc i) (v ∷ t) = ap (λ (r : Trits). v ∷ r) (starred_flipped i t)

-- ---- What guards subsume

module _ (τ : Entries) (s : Trits) (g : Guarded τ s) where
  -- a guard that subsumes t
  record Above (t : Trits) : Type 0 where
    d : Trits
    entry : EntryOf τ d
    guards : T (g.guards d)
    subsuming : T (subsumes d t)

  -- one position more
  kept_at : (i : ℕ) (t : Trits) → T (subsumes t s) → Above t → Above (widen_at τ i t)
  kept_at i t over a = go (decide (opens τ i t))
    where
      go : Dec (T (opens τ i t)) → Above (widen_at τ i t)
      go (no n) = rw (unopened τ i t n) a
      go (yes o) =
          let e = above τ (flipped i t) (opens_subsumed τ i t o) in
          let f = fixed_within i t s over (opens_fixed τ i t o) in
          let at = subsumes_trans e.y (flipped i t) (flipped i s) e.subsuming (flipped_within i t s over) in
          rw (opened τ i t o)
          (⊎_elim
          (λ own. record {
            d = e.y;
            entry = e.entry;
            guards = own;
            subsuming =
                subst (λ (r : Trits). T (subsumes e.y r)) (starred_flipped i t)
                (over_star i e.y s (flipped i t) f (g.over e.y e.entry own) at e.subsuming);
          })
          (λ all. record {
            d = a.d;
            entry = a.entry;
            guards = a.guards;
            subsuming = over_star i a.d s t f (g.over a.d a.entry a.guards) (all a.d a.entry a.guards)
                a.subsuming;
          })
          (g.shut e.y i e.entry f at))

  -- and several
  kept_from : (i n : ℕ) (t : Trits) → T (subsumes t s) → Above t → Above (widen_from τ i n t)
  unfolding widen_from
  kept_from i zero t over a = a
  kept_from i (suc n) t over a = kept_from (suc i) n (widen_at τ i t) (at_over τ i t s over) (kept_at i t over a)

  -- Where entries guard s, one of them subsumes what it is widened to.
  pub guarded_absorbed : T (subsumed τ (widen τ s))
  unfolding widen
  guarded_absorbed =
      let o = g.one in
      let a = kept_from 0 (length s) s (subsumes_same s)
      (record { d = o.0; entry = o.1; guards = o.2; subsuming = g.over o.0 o.1 o.2 }) in
      entry_subsumes τ a.d _ a.entry a.subsuming

-- What no entry touches is not widened.
pub untouched_stays : (τ : Entries) (s : Trits) → Untouched τ s → widen τ s ≡ s
untouched_stays τ s u = stays τ s (λ m o. u.1 m (opens_fixed τ m s o) (opens_subsumed τ m s o))

-- ---- A string appended

-- an entry of the list with e appended in place of what it subsumes is one of before, or e
grown_entry : (e : Trits) (τ : Entries) (d : Trits) → EntryOf (remove e τ ++ (e ∷ [])) d → EntryOf τ d ⊎ (e ≡ d)
unfolding EntryOf
grown_entry e τ d i =
    ⊎_elim
    (λ k. inl (without_entry (subsumes e) τ d (subst (λ (σ : Entries). EntryOf σ d) (remove_without e τ) k)).0)
    (λ k. ⊎_elim inr (λ k. absurd k) k)
    (append_entry (remove e τ) (e ∷ []) d i)

-- the same string: each subsumes the other
abbrev same : Trits → Trits → Bool
same d e = subsumes d e && subsumes e d

same_is : (d e : Trits) → T (same d e) → d ≡ e
same_is d e h =
    subsumes_both d e (and_first (subsumes d e) (subsumes e d) h) (and_second (subsumes d e) (subsumes e d) h)

same_own : (e : Trits) → T (same e e)
same_own e = and_both (subsumes e e) (subsumes e e) (subsumes_same e) (subsumes_same e)

not_both : (a b : Bool) → T (a && not b) → T b → ⊥
not_both true true h k = h
not_both true false h k = k
not_both false b h k = h

and_not : (a b : Bool) → T a → ¬ (T b) → T (a && not b)
and_not true true h n = absurd (n tt)
and_not true false h n = tt
and_not false b h n = absurd h

module _ (e : Trits) (τ : Entries) (s : Trits) (g : Guarded τ s) (quiet : ¬ (T (stirs e s s))) where
  -- e opens no position of s
  opens_none : (i : ℕ) → T (fixed i s) → ¬ (T (subsumes e (flipped i s)))
  opens_none i f h = quiet (stirs_at i e s s s (subsumes_same s) (subsumes_same s) (λ j l f. f) f h)

  -- a guard stays, if e does not subsume it, and e is none
  without_own : (d : Trits) → EntryOf τ d → T (g.guards d) → ¬ (T (subsumes e d)) → Guarded (remove e τ ++ (e ∷ [])) s
  without_own d i own n = record {
    guards = λ r. g.guards r && not (same r e);
    over = λ r k h. ⊎_elim (λ k. g.over r k (and_first (g.guards r) (not (same r e)) h))
        (λ q. absurd (not_both (g.guards r) (same r e) h (subst (λ (x : Trits). T (same x e)) q (same_own e))))
        (grown_entry e τ r k);
    one = (
      d,
      unremoved e τ d i n,
      and_not (g.guards d) (same d e) own (λ h. n (and_second (subsumes d e) (subsumes e d) h)),
    );
    shut = λ r m k f h. ⊎_elim
        (λ k. ⊎_elim
        (λ own. inl (and_not (g.guards r) (same r e) own
        (λ q. opens_none m f (subst (λ (x : Trits). T (subsumes x (flipped m s))) (same_is r e q) h))))
        (λ all. inr (λ x k q. ⊎_elim (λ k. all x k (and_first (g.guards x) (not (same x e)) q))
        (λ is. absurd (not_both (g.guards x) (same x e) q (subst (λ (x : Trits). T (same x e)) is (same_own e))))
        (grown_entry e τ x k)))
        (g.shut r m k f h))
        (λ is. absurd (opens_none m f (subst (λ (x : Trits). T (subsumes x (flipped m s))) (sym is) h)))
        (grown_entry e τ r k);
  }

  -- e takes the place of a guard that it subsumes: that one opens nothing, so all that opens guards
  with_own : (d : Trits) → EntryOf τ d → T (g.guards d) → T (subsumes e d) → Guarded (remove e τ ++ (e ∷ [])) s
  with_own d i own o = record {
    guards = λ r. g.guards r || same r e;
    over = λ r k h. ⊎_elim
        (λ own. ⊎_elim (λ k. g.over r k own) (λ is. subst (λ (x : Trits). T (subsumes x s)) is above_s) (grown_entry e τ r k))
        (λ q. subst (λ (x : Trits). T (subsumes x s)) (sym (same_is r e q)) above_s)
        (or_cases (g.guards r) (same r e) h);
    one = (e, appended e τ, or_right (g.guards e) (same e e) (same_own e));
    shut = λ r m k f h. ⊎_elim
        (λ k. inl (or_left (g.guards r) (same r e) (⊎_elim (λ own. own)
        (λ all. absurd (opens_none m f (subsumes_trans e d (flipped m s) o (all d i own))))
        (g.shut r m k f h))))
        (λ is. absurd (opens_none m f (subst (λ (x : Trits). T (subsumes x (flipped m s))) (sym is) h)))
        (grown_entry e τ r k);
  }
    where
      above_s : T (subsumes e s)
      above_s = subsumes_trans e d s o (g.over d i own)

  -- Entries still guard s once e, which opens nothing of it, is appended in place of what it subsumes.
  pub guarded_grown : Guarded (remove e τ ++ (e ∷ [])) s
  guarded_grown =
      let o = g.one in go (decide (subsumes e o.0))
    where
      go : Dec (T (subsumes e g.one.0)) → Guarded (remove e τ ++ (e ∷ [])) s
      go (yes o) = with_own g.one.0 g.one.1 g.one.2 o
      go (no n) = without_own g.one.0 g.one.1 g.one.2 n
