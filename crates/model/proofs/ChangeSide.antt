-- The change of side covers, among groups, exactly what the given table does not, and never what it covers. Assumes nothing.
use mathlib.Core.Path.{◌≡◌, refl, sym, ap, ap₂, ◌∙◌, subst}
use mathlib.Core.Bool.{Bool, true, false, not, ◌&&◌, ◌||◌, cond, or-false, or_assoc, or_comm, and-true, and-or_distrib_right}
use mathlib.Core.List.{[], ◌∷◌, ◌++◌, map}
use Prim.Native.Nat.{ℕ, zero, suc, ◌≤◌, ◌<◌}
use native.Mathlib.Omega.{arith}
use lib.Dec.{T, not_T}
use lib.ListN.{length}
use Rattle.model.specs.Groups.{Bits, nonzero}
use Rattle.model.specs.Strings.{Trit, t0, t1, t*, Trits, covers_digit, covers, match_digit, matches, fixed_digit, flip}
use Rattle.model.specs.Strings.{opposed, all_zero, stars, pieces}
use Rattle.model.specs.Growth.{Entries, fold, covered, Reduced}
use Rattle.model.specs.Tables.{Wide, unmatched, pieces_of, take_away, change_side}
use Rattle.model.proofs.Tests.{and_first, and_second, and_both}
use Rattle.model.proofs.Strings.{covers_length, both_match, stars_cover}
use Rattle.model.proofs.Positions.{stars_length, opposed_length, pieces_nil, pieces_cons}
use Rattle.model.proofs.Given.{Given, given, given_map, given_then}
use Rattle.model.proofs.Growth.{covered_append, GrownBy}
use Rattle.model.proofs.Shape.{wide_append, Shape, reduced_without, reduced_one, grow_all_made}
use Rattle.model.proofs.Entries.{unmatched_without}
use Rattle.model.proofs.Candidates.{front_covered, rising_wide}

-- ---- Pieces: what y covers and v does not

whole : (y v : Bool) → (y || (y && not v)) ≡ (y && true)
whole true v = refl
whole false v = refl

-- one position more: the piece at this position, if there is one, and those at the others
piece_step : (t u : Trit) (y v : Trits) (ρ : Entries) (b : Bool) (g : Bits) → T (match_digit t u)
    → covered ρ (b ∷ g) ≡ (covers_digit t b && (covers y g && not (covers v g)))
    → covered (cond (not (fixed_digit t) && fixed_digit u) ((flip u ∷ y) ∷ ρ) ρ) (b ∷ g) ≡
    ((covers_digit t b && covers y g) && not (covers_digit u b && covers v g))
unfolding covered covers
piece_step t0 t0 y v ρ true g m e = e
piece_step t0 t0 y v ρ false g m e = e
piece_step t0 t1 y v ρ b g m e = absurd m
piece_step t0 t* y v ρ true g m e = e
piece_step t0 t* y v ρ false g m e = e
piece_step t1 t0 y v ρ b g m e = absurd m
piece_step t1 t1 y v ρ true g m e = e
piece_step t1 t1 y v ρ false g m e = e
piece_step t1 t* y v ρ true g m e = e
piece_step t1 t* y v ρ false g m e = e
piece_step t* t0 y v ρ true g m e = rw e (whole (covers y g) (covers v g))
piece_step t* t0 y v ρ false g m e = e
piece_step t* t1 y v ρ true g m e = e
piece_step t* t1 y v ρ false g m e = rw e (whole (covers y g) (covers v g))
piece_step t* t* y v ρ b g m e = e

pieces_covered : (y v : Trits) (g : Bits) → T (matches y v) → covered (pieces y v) g ≡ (covers y g && not (covers v g))
unfolding covered covers matches
pieces_covered [] [] [] m = rw pieces_nil
pieces_covered [] [] (b ∷ g) m = rw pieces_nil
pieces_covered [] (u ∷ v) g m = absurd m
pieces_covered (t ∷ y) [] g m = absurd m
pieces_covered (t ∷ y) (u ∷ v) [] m = rw (pieces_cons t u y v) (no_front (not (fixed_digit t) && fixed_digit u))
  where
    front_none : (τ : Entries) → covered (map (λ (s : Trits). t ∷ s) τ) [] ≡ false
    front_none [] = refl
    front_none (s ∷ τ) = front_none τ

    no_front : (b : Bool)
        → covered (cond b ((flip u ∷ y) ∷ map (λ (s : Trits). t ∷ s) (pieces y v)) (map (λ (s : Trits). t ∷ s) (pieces y v))) []
        ≡ false
    no_front true = front_none (pieces y v)
    no_front false = front_none (pieces y v)
pieces_covered (t ∷ y) (u ∷ v) (b ∷ g) m =
    rw (pieces_cons t u y v)
    (piece_step t u y v (map (λ (s : Trits). t ∷ s) (pieces y v)) b g (and_first (match_digit t u) (matches y v) m)
    (front_covered t (pieces y v) b g ∙ ap (λ (c : Bool). covers_digit t b && c)
    (pieces_covered y v g (and_second (match_digit t u) (matches y v) m))))

-- ---- One entry taken away

taken_covered : (v : Trits) (τ : Entries) (g : Bits)
    → (covered (unmatched v τ) g || covered (pieces_of v τ) g) ≡ (covered τ g && not (covers v g))
unfolding covered unmatched pieces_of
taken_covered v [] g = refl
taken_covered v (y ∷ τ) g =
    go (matches y v) (λ m. pieces_covered y v g m) (λ n c d. n (both_match y v g c d)) (taken_covered v τ g)
  where
    move : (u p r c m d : Bool) → p ≡ (c && d) → (u || r) ≡ (m && d) → (u || (p || r)) ≡ ((c || m) && d)
    move u p r c m d e f =
        sym (or_assoc u p r) ∙ ap (λ (b : Bool). b || r) (or_comm u p) ∙ or_assoc p u r ∙ ap₂ ◌||◌ e f ∙ sym
        (and-or_distrib_right c m d)

    stay : (c u r m d : Bool) → (T c → T d) → (u || r) ≡ (m && d) → (c || u || r) ≡ ((c || m) && d)
    stay true u r m true f e = refl
    stay true u r m false f e = absurd (f tt)
    stay false u r m d f e = e

    go : (b : Bool) → (T b → covered (pieces y v) g ≡ (covers y g && not (covers v g)))
        → (¬ (T b) → T (covers y g) → T (covers v g) → ⊥)
        → (covered (unmatched v τ) g || covered (pieces_of v τ) g) ≡ (covered τ g && not (covers v g))
        → (covered (cond b (unmatched v τ) (y ∷ unmatched v τ)) g || covered
        (cond b (pieces y v ++ pieces_of v τ) (pieces_of v τ)) g)
        ≡ ((covers y g || covered τ g) && not (covers v g))
    go true f n e =
        ap (λ (c : Bool). covered (unmatched v τ) g || c) (covered_append (pieces y v) (pieces_of v τ) g)
        ∙ move (covered (unmatched v τ) g) (covered (pieces y v) g) (covered (pieces_of v τ) g) (covers y g) (covered τ g)
        (not (covers v g)) (f tt) e
    go false f n e =
        stay (covers y g) (covered (unmatched v τ) g) (covered (pieces_of v τ) g) (covered τ g) (not (covers v g))
        (λ c. not_T (covers v g) (n (λ t. t) c)) e

-- ---- Shape

pieces_wide : (l : ℕ) (y v : Trits) → length y ≡ l → Wide l (pieces y v)
unfolding pieces
pieces_wide l y v e = rising_wide l _ (λ i. opposed i v y) (λ i. opposed_length i v y ∙ e) 0 (length y)

pieces_of_wide : (l : ℕ) (v : Trits) (τ : Entries) → Wide l τ → Wide l (pieces_of v τ)
unfolding pieces_of Wide
pieces_of_wide l v [] w = tt
pieces_of_wide l v (y ∷ τ) w = go (matches y v) (pieces_of_wide l v τ w.1)
  where
    go : (b : Bool) → Wide l (pieces_of v τ) → Wide l (cond b (pieces y v ++ pieces_of v τ) (pieces_of v τ))
    go true h = wide_append l (pieces y v) (pieces_of v τ) (pieces_wide l y v w.0) h
    go false h = h

unmatched_wide : (l : ℕ) (v : Trits) (τ : Entries) → Wide l τ → Wide l (unmatched v τ)
unfolding unmatched Wide
unmatched_wide l v [] w = tt
unmatched_wide l v (y ∷ τ) w = go (matches y v) (unmatched_wide l v τ w.1)
  where
    go : (b : Bool) → Wide l (unmatched v τ) → Wide l (cond b (unmatched v τ) (y ∷ unmatched v τ))
    go true h = h
    go false h = (w.0, h)

unmatched_few : (v : Trits) (τ : Entries) → length (unmatched v τ) ≤ length τ
unfolding unmatched
unmatched_few v [] = omega arith
unmatched_few v (y ∷ τ) = go (matches y v) (unmatched_few v τ)
  where
    go : (b : Bool) → length (unmatched v τ) ≤ length τ → length (cond b (unmatched v τ) (y ∷ unmatched v τ)) ≤ suc (length τ)
    go true h = omega arith
    go false h = omega arith

-- ---- The change of side

-- ρ covers among groups what τ covers and vs do not, and it covers nothing else
record Left (τ vs ρ : Entries) : Type 0 where
  exact : (g : Bits) → T (nonzero g) → covered ρ g ≡ (covered τ g && not (covered vs g))
  within : (g : Bits) → T (covered ρ g) → T (covered τ g && not (covered vs g))

take_away_made : {R : Type 0} (l : ℕ) (τ : Entries) (v : Trits) → Shape R l τ
    → Given (λ (ρ : Entries). Shape R l ρ × GrownBy (unmatched v τ) (pieces_of v τ) ρ) (take_away τ v)
unfolding take_away
take_away_made l τ v sh =
    grow_all_made l (unmatched v τ) (pieces_of v τ)
    (record {
      wide = unmatched_wide l v τ sh.wide;
      few = omega (arith, unmatched_few v τ, sh.few);
      reduced = λ r. subst Reduced (sym (unmatched_without v τ)) (reduced_without (λ y. matches y v) τ (sh.reduced r));
    })
    (pieces_of_wide l v τ sh.wide)

regroup : (m c r : Bool) → ((m && not c) && not r) ≡ (m && not (c || r))
regroup true true r = refl
regroup true false r = refl
regroup false c r = refl

change_from : {R : Type 0} (l : ℕ) (τ vs : Entries) → Shape R l τ
    → Given (λ (ρ : Entries). Shape R l ρ × Left τ vs ρ) (fold take_away τ vs)
unfolding fold covered
change_from l τ [] sh = given (sh, record { exact = λ g n. sym (and-true (covered τ g)); within = λ g h. rw and-true h })
change_from l τ (v ∷ vs) sh =
    given_then _ (take_away_made l τ v sh)
    (λ ρ made.
    given_map
    (λ υ next. (
      next.0,
      record {
        exact = λ g n.
            next.1.exact g n
            ∙ ap (λ (b : Bool). b && not (covered vs g)) (made.1.exact g n ∙ taken_covered v τ g)
            ∙ regroup (covered τ g) (covers v g) (covered vs g);
        within = λ g h.
            let k = next.1.within g h in
            rw (← regroup (covered τ g) (covers v g) (covered vs g))
            (and_both (covered τ g && not (covers v g)) (not (covered vs g))
            (rw (taken_covered v τ g) at (made.1.within g (and_first (covered ρ g) (not (covered vs g)) k)))
            (and_second (covered ρ g) (not (covered vs g)) k));
      },
    ))
    (change_from l ρ vs made.0))

-- What the change of side gives: a list of strings of l positions that covers among groups what τ does not, and nothing
-- that τ covers.
pub record Changed (l : ℕ) (τ ρ : Entries) : Type 0 where
  pub shape : Shape (0 < l) l ρ
  pub exact : (g : Bits) → length g ≡ l → T (nonzero g) → covered ρ g ≡ not (covered τ g)
  pub within : (g : Bits) → T (covered ρ g) → (length g ≡ l) × T (not (covered τ g))

pub stars_nonzero : (l : ℕ) → 0 < l → ¬ (T (all_zero (stars l)))
unfolding all_zero stars
stars_nonzero zero h = λ z. omega arith
stars_nonzero (suc l) h = λ z. z

pub change_side_made : (l : ℕ) (τ : Entries) → Given (Changed l τ) (change_side l τ)
unfolding change_side covered Wide
change_side_made l τ =
    given_map
    (λ ρ made. record {
      shape = made.0;
      exact = λ g e n. made.1.exact g n ∙ rw (stars_cover l g e);
      within = λ g h.
          let k = made.1.within g h in (
            covers_length (stars l) g (rw or-false at (and_first (covers (stars l) g || false) (not (covered τ g)) k))
                ∙ stars_length l,
            and_second (covers (stars l) g || false) (not (covered τ g)) k,
          );
    })
    (change_from l (stars l ∷ []) τ
    (record { wide = (stars_length l, tt); few = omega arith; reduced = λ h. reduced_one (stars l) (stars_nonzero l h) }))
