-- Strings that subsume one another, and strings that match no entry of a list. Assumes nothing.
use mathlib.Core.Path.{◌≡◌, refl, ap, ap₂}
use mathlib.Core.Bool.{not}
use mathlib.Core.List.{[], ◌∷◌}
use mathlib.Core.Logic.{◌↔◌, inl, inr, ⊎_elim}
use lib.Dec.{T, not_T, T_not}
use Rattle.model.specs.Groups.{Bits}
use Rattle.model.specs.Strings.{Trit, t0, t1, t*, Trits, covers, match_digit, matches, subsumes_digit}
use Rattle.model.specs.Strings.{subsumes, all_zero}
use Rattle.model.specs.Growth.{Entries, covered, widen}
use Rattle.model.specs.Widest.{avoids, EntryOf, opposed_count}
use Rattle.model.proofs.Tests.{tests, or_cases, or_left, or_right, and_first, and_second, and_both, true_of}
use Rattle.model.proofs.Strings.{subsumes_covers, subsumes_exact, both_match, match_exact}
use Rattle.model.proofs.Growth.{widen_wider}

-- ---- Subsuming and matching

-- A string subsumes itself.
pub subsumes_same : (s : Trits) → T (subsumes s s)
subsumes_same s = (subsumes_exact s s).1 (λ g c. c)

-- What a subsumed string subsumes is subsumed.
pub subsumes_trans : (q r s : Trits) → T (subsumes q r) → T (subsumes r s) → T (subsumes q s)
subsumes_trans q r s h k = (subsumes_exact q s).1 (λ g c. subsumes_covers q r g h (subsumes_covers r s g k c))

-- A digit subsumes what one that it subsumes does.
pub digit_trans : (a b c : Trit) → T (subsumes_digit a b) → T (subsumes_digit b c) → T (subsumes_digit a c)
digit_trans t0 t0 c h k = k
digit_trans t0 t1 c h k = absurd h
digit_trans t0 t* c h k = absurd h
digit_trans t1 t0 c h k = absurd h
digit_trans t1 t1 c h k = k
digit_trans t1 t* c h k = absurd h
digit_trans t* b c h k = tt

-- Digits that subsume each other are one.
pub same_digit : (t u : Trit) → T (subsumes_digit t u) → T (subsumes_digit u t) → t ≡ u
same_digit t0 t0 h k = refl
same_digit t0 t1 h k = absurd h
same_digit t0 t* h k = absurd h
same_digit t1 t0 h k = absurd h
same_digit t1 t1 h k = refl
same_digit t1 t* h k = absurd h
same_digit t* t0 h k = absurd k
same_digit t* t1 h k = absurd k
same_digit t* t* h k = refl

-- Strings that subsume each other are one.
pub subsumes_both : (r s : Trits) → T (subsumes r s) → T (subsumes s r) → r ≡ s
unfolding subsumes
subsumes_both [] [] h k = refl
subsumes_both [] (u ∷ s) h k = absurd h
subsumes_both (t ∷ r) [] h k = absurd h
subsumes_both (t ∷ r) (u ∷ s) h k =
    ap₂ {C = Trits} (λ x y. x ∷ y) (same_digit t u (search (tests)) (search (tests)))
    (subsumes_both r s (search (tests)) (search (tests)))

-- The all-zero string subsumes only itself.
pub zero_subsumes : (r s : Trits) → T (all_zero r) → T (subsumes r s) → r ≡ s
unfolding subsumes all_zero
zero_subsumes [] [] z h = refl
zero_subsumes [] (u ∷ s) z h = absurd h
zero_subsumes (t ∷ r) [] z h = absurd h
zero_subsumes (t0 ∷ r) (t0 ∷ s) z h = ap (λ (x : Trits). t0 ∷ x) (zero_subsumes r s z h)
zero_subsumes (t0 ∷ r) (t1 ∷ s) z h = absurd h
zero_subsumes (t0 ∷ r) (t* ∷ s) z h = absurd h
zero_subsumes (t1 ∷ r) (u ∷ s) z h = absurd z
zero_subsumes (t* ∷ r) (u ∷ s) z h = absurd z

-- What a digit matches, one that subsumes it matches.
pub wider_digit : (w t u : Trit) → T (subsumes_digit w t) → T (match_digit t u) → T (match_digit w u)
wider_digit t0 t0 u h m = m
wider_digit t0 t1 u h m = absurd h
wider_digit t0 t* u h m = absurd h
wider_digit t1 t0 u h m = absurd h
wider_digit t1 t1 u h m = m
wider_digit t1 t* u h m = absurd h
wider_digit t* t u h m = tt

-- What a string matches, one that subsumes it matches.
pub wider_matches : (r s v : Trits) → T (subsumes r s) → T (matches s v) → T (matches r v)
wider_matches r s v h m = let g = (match_exact s v).0 m in both_match r v g.0 (subsumes_covers r s g.0 h g.1) g.2

-- A string is opposed nowhere to what it matches.
pub matched_nowhere : (e v : Trits) → T (matches e v) → opposed_count e v ≡ 0
unfolding matches opposed_count
matched_nowhere [] v m = refl
matched_nowhere (t ∷ e) [] m = refl
matched_nowhere (t ∷ e) (u ∷ v) m =
    rw (true_of (match_digit t u) (search (tests))) (matched_nowhere e v (search (tests)))

-- ---- Strings that match no entry

-- A string matches no entry exactly when it covers nothing that the list covers.
pub avoids_exact : (τ : Entries) (s : Trits) → T (avoids τ s) ↔ ((g : Bits) → T (covers s g) → ¬ (T (covered τ g)))
unfolding avoids covered
avoids_exact [] s = (λ a g c d. d, λ f. tt)
avoids_exact (v ∷ τ) s = (
  λ a g c d.
      ⊎_elim
      (λ k. T_not (matches s v) (and_first (not (matches s v)) (avoids τ s) a) (both_match s v g c k))
      ((avoids_exact τ s).0 (and_second (not (matches s v)) (avoids τ s) a) g c)
      (or_cases (covers v g) (covered τ g) d),
  λ f.
      and_both (not (matches s v)) (avoids τ s)
      (not_T (matches s v)
      (λ m. let g = (match_exact s v).0 m in f g.0 g.1 (or_left (covers v g.0) (covered τ g.0) g.2)))
      ((avoids_exact τ s).1 (λ g c d. f g c (or_right (covers v g) (covered τ g) d))),
)

-- What is within a string that matches no entry matches none.
pub avoids_within : (τ : Entries) (r s : Trits) → T (subsumes r s) → T (avoids τ r) → T (avoids τ s)
avoids_within τ r s h a = (avoids_exact τ s).1 (λ g c. (avoids_exact τ r).0 a g (subsumes_covers r s g h c))

-- A widened string subsumes the one that was widened.
pub widen_up : (ρ : Entries) (s : Trits) → T (subsumes (widen ρ s) s)
widen_up ρ s = (subsumes_exact (widen ρ s) s).1 (λ g. (widen_wider ρ s g).0)

-- Widened against strings that match no entry of τ, a string that matches none still matches none.
pub widen_avoids : (τ ρ : Entries) (s : Trits) → ((r : Trits) → EntryOf ρ r → T (avoids τ r)) → T (avoids τ s)
    → T (avoids τ (widen ρ s))
unfolding covered EntryOf
widen_avoids τ ρ s f a =
    (avoids_exact τ (widen ρ s)).1
    (λ g c.
    ⊎_elim ((avoids_exact τ s).0 a g) (all_avoid ρ f g) (or_cases (covers s g) (covered ρ g) ((widen_wider ρ s g).1 c)))
  where
    all_avoid : (ρ : Entries) → ((r : Trits) → EntryOf ρ r → T (avoids τ r)) → (g : Bits) → T (covered ρ g)
        → ¬ (T (covered τ g))
    all_avoid [] f g c d = c
    all_avoid (r ∷ ρ) f g c d =
        ⊎_elim (λ k. (avoids_exact τ r).0 (f r (inl refl)) g k d) (λ k. all_avoid ρ (λ q e. f q (inr e)) g k d)
        (or_cases (covers r g) (covered ρ g) c)
