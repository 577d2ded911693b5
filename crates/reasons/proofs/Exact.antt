-- Each verdict is given exactly in its condition over groups, and s is told to be there exactly when it is in the groups after
-- the equation, by the binary definition. Assumes nothing.
use mathlib.Core.Path.{◌≡◌, refl, sym, ◌∙◌, subst}
use mathlib.Core.Bool.{cond}
use mathlib.Core.List.{[]}
use mathlib.Core.Logic.{inl, inr, ◌↔◌, ⊎_elim}
use mathlib.Core.Option.{Option, some, none}
use Prim.Native.Nat.{ℕ, ◌<◌}
use lib.Dec.{T}
use lib.ListN.{length, get_or}
use Rattle.model.specs.Groups.{Bits, Groups, Group, meets, or}
use Rattle.model.specs.Strings.{Trits, covers}
use Rattle.model.specs.Growth.{Entries, covered}
use Rattle.model.specs.Tables.{positive, groups}
use Rattle.model.specs.Terms.{var, variables}
use Rattle.model.specs.Equations.{Equation, Kind, itself, deeper, plain, kind, WithVariable, WithSome, AfterKind, After}
use Rattle.model.specs.Reasons.{Within, Relevant, MadeUp, CoveredBy, Lowest, covers_inside, lowest, made_up}
use Rattle.model.proofs.Tests.{or_cases, or_left, or_right, decide, true_of, false_of}
use Rattle.model.proofs.Bits.{meets_or}
use Rattle.model.proofs.Variables.{meets_variable, meets_variables}
use Rattle.model.proofs.Reasons.{relevant_exact, made_relevant, covers_inside_exact, made_up_exact, Found, nowhere, at}
use Rattle.model.proofs.Reasons.{lowest_found, lowest_is, lowest_none}
use Rattle.covering.proofs.EveryGroup.{test}
use Rattle.covering.proofs.Pieces.{covered_at, covered_of}
use Rattle.reasons.specs.declared.Reason.TheVariants.{NoXEntry, NoTEntry, NotMadeUp, NotThere, NoSolution}
use Rattle.reasons.specs.Verdicts.{Verdict}
use Rattle.reasons.specs.Verdicts.{Kept, Joined, Absent, Refused}
use Rattle.reasons.specs.Verdicts.{verdict_number, untouched, joins, touched, verdict_of_sets, verdict_of_kind, verdict}
use Rattle.reasons.specs.Statements.{Untouched, Touched, XWithin, TWithin, Where, There}

-- ---- Entries that cover a group inside s, and the table's groups inside s

module _ (l : ℕ) (τ : Entries) (s : Bits) (whole : length s ≡ l) (m : Bits) (P : Groups)
    (same : (g : Bits) → length g ≡ l → T (meets m g) ↔ P g) where
  -- the test of an entry
  pub entry_exact : (e : Trits) → T (covers_inside l s m e) ↔ Within (CoveredBy l e) s P
  entry_exact e = (
    λ h. let w = (covers_inside_exact l s whole m e).0 h in (w.0, w.1, w.2, (same w.0 w.1.0.0).0 w.3),
    λ w. (covers_inside_exact l s whole m e).1 (w.0, w.1, w.2, (same w.0 w.1.0.0).1 w.3),
  )

  -- the table has such a group where an entry has
  entry_within : (i : ℕ) → i < length τ → Within (CoveredBy l (get_or τ i [])) s P → Within (groups positive l τ) s P
  unfolding groups
  entry_within i lt w =
      (w.0, (w.1.0, test (covered_at τ w.0 i lt (true_of (covers (get_or τ i []) w.0) w.1.1))), w.2, w.3)

  within_entry : Within (groups positive l τ) s P → (i : ℕ) × (i < length τ) × T (covers_inside l s m (get_or τ i []))
  unfolding groups
  within_entry w =
      let c = covered_of τ w.0 (true_of (covered τ w.0) w.1.1) in
      (c.0, c.1, (entry_exact (get_or τ c.0 [])).1 (w.0, (w.1.0, test c.2), w.2, w.3))

  -- what was found says whether there is one, and which entry is the lowest
  pub none_within : Found (covers_inside l s m) τ none → ¬ (Within (groups positive l τ) s P)
  none_within (nowhere f) w = let i = within_entry w in f i.0 i.1 i.2

  pub found_lowest : {i : ℕ} → Found (covers_inside l s m) τ (some i) → Lowest l τ s P i
  found_lowest (at {i} lt h f) = record {
    below = lt;
    covers_one = (entry_exact (get_or τ i [])).0 h;
    none_before = λ k less w. f k less ((entry_exact (get_or τ k [])).1 w);
  }

  pub lowest_within : {i : ℕ} → Lowest l τ s P i → Within (groups positive l τ) s P
  lowest_within {i} w = entry_within i w.below w.covers_one

  -- and the other way round
  pub lowest_of : {i : ℕ} → Lowest l τ s P i → lowest (covers_inside l s m) τ ≡ some i
  lowest_of {i} w =
      lowest_is (covers_inside l s m) τ i w.below ((entry_exact (get_or τ i [])).1 w.covers_one)
      (λ k less h. w.none_before k less ((entry_exact (get_or τ k [])).0 h))

  pub none_of : ¬ (Within (groups positive l τ) s P) → lowest (covers_inside l s m) τ ≡ none
  none_of n =
      lowest_none (covers_inside l s m) τ (λ k lt h. n (entry_within k lt ((entry_exact (get_or τ k [])).0 h)))

  pub some_of : Within (groups positive l τ) s P → (i : ℕ) × (lowest (covers_inside l s m) τ ≡ some i)
  some_of w = go (lowest (covers_inside l s m) τ) refl (lowest_found (covers_inside l s m) τ)
    where
      go : (o : Option ℕ) → lowest (covers_inside l s m) τ ≡ o → Found (covers_inside l s m) τ o
          → (i : ℕ) × (lowest (covers_inside l s m) τ ≡ some i)
      go none e f = absurd (none_within f w)
      go (some i) e f = (i, e)

-- ---- The verdict

module _ (l : ℕ) (e : Equation) (τ : Entries) (s : Bits) (group : Group l s) where
  mx : Bits
  mx = variables l (var e.left)

  mt : Bits
  mt = variables l e.right

  x_same : (g : Bits) → length g ≡ l → T (meets mx g) ↔ WithVariable e.left g
  unfolding mx
  x_same g n = meets_variable l e.left g n

  t_same : (g : Bits) → length g ≡ l → T (meets mt g) ↔ WithSome e.right g
  unfolding mt
  t_same g n = meets_variables l e.right g n

  -- the test of a relevant group
  relevant_same : (g : Bits) → length g ≡ l → T (meets (or mx mt) g) ↔ Relevant e g
  relevant_same g n = (
    λ h.
        ⊎_elim (λ k. inl ((x_same g n).0 k)) (λ k. inr ((t_same g n).0 k))
        (or_cases (meets mx g) (meets mt g) (rw (meets_or mx mt g) at h)),
    λ r.
        rw (meets_or mx mt g)
        (⊎_elim (λ k. or_left (meets mx g) (meets mt g) ((x_same g n).1 k))
        (λ k. or_right (meets mx g) (meets mt g) ((t_same g n).1 k)) r),
  )

  made_same : T (made_up l s (or mx mt) τ) ↔ MadeUp e (groups positive l τ) s
  unfolding groups
  made_same = (
    λ h y k.
        let w = (made_up_exact l s group.0 (or mx mt) τ).0 h y k in
        (w.0, w.1, w.2, ((relevant_same w.0 w.1.0.0).0 w.3.0, w.3.1)),
    λ f. (made_up_exact l s group.0 (or mx mt) τ).1 (λ y k.
        let w = f y k in
        (w.0, w.1, w.2, ((relevant_same w.0 w.1.0.0).1 w.3.0, w.3.1))),
  )

  covered_same : T (covered τ s) ↔ groups positive l τ s
  unfolding groups
  covered_same = (λ h. (group, h), λ h. h.1)

  -- ---- What the definition comes to, by the equation and the group

  untouched_is : Untouched e s → verdict l e τ s ≡ untouched τ s
  unfolding verdict verdict_of_kind verdict_of_sets mx mt
  untouched_is (inl p) = rw p refl
  untouched_is (inr (p, n)) = rw (p, false_of (meets (or mx mt) s) (λ h. n ((relevant_same s group.0).0 h))) refl

  touched_is : Touched e s → verdict l e τ s ≡ touched l mx mt τ s
  unfolding verdict verdict_of_kind verdict_of_sets mx mt
  touched_is (p, r) = rw (p, true_of (meets (or mx mt) s) ((relevant_same s group.0).1 r)) refl

  -- Where the condition of a verdict holds, it is given.
  pub where_given : (v : Verdict) → Where l e τ s v → verdict l e τ s ≡ v
  unfolding untouched touched joins verdict verdict_of_kind
  where_given Kept (u, h) = untouched_is u ∙ rw (true_of (covered τ s) (covered_same.1 h)) refl
  where_given (Joined i j) (t, a, b, m) =
      touched_is t ∙ rw (
        lowest_of l τ s group.0 mx (WithVariable e.left) x_same a,
        lowest_of l τ s group.0 mt (WithSome e.right) t_same b,
        true_of (made_up l s (or mx mt) τ) (made_same.1 m),
      ) refl
  where_given (Absent NoXEntry) (t, n) =
      touched_is t ∙ rw (none_of l τ s group.0 mx (WithVariable e.left) x_same n) refl
  where_given (Absent NoTEntry) (t, x, n) =
      touched_is t ∙ rw (
        (some_of l τ s group.0 mx (WithVariable e.left) x_same x).1,
        none_of l τ s group.0 mt (WithSome e.right) t_same n,
      ) refl
  where_given (Absent NotMadeUp) (t, x, y, n) =
      touched_is t ∙ rw (
        (some_of l τ s group.0 mx (WithVariable e.left) x_same x).1,
        (some_of l τ s group.0 mt (WithSome e.right) t_same y).1,
        false_of (made_up l s (or mx mt) τ) (λ h. n (made_same.0 h)),
      ) refl
  where_given (Absent NotThere) (u, n) = untouched_is u ∙ rw (false_of (covered τ s) (λ h. n (covered_same.0 h))) refl
  where_given (Absent NoSolution) p = rw p refl
  where_given (Refused r) h = absurd h

  -- Some verdict's condition holds: the one that is given.
  untouched_where : Untouched e s → Where l e τ s (untouched τ s)
  unfolding untouched
  untouched_where u = go (decide (covered τ s))
    where
      go : Dec (T (covered τ s)) → Where l e τ s (cond (covered τ s) Kept (Absent NotThere))
      go (yes h) = rw (true_of (covered τ s) h) (u, covered_same.0 h)
      go (no n) = rw (false_of (covered τ s) n) (u, λ h. n (covered_same.1 h))

  made_where : Touched e s → (i j : ℕ) → Lowest l τ s (WithVariable e.left) i → Lowest l τ s (WithSome e.right) j
      → Dec (T (made_up l s (or mx mt) τ)) → Where l e τ s (joins (some i) (some j) (made_up l s (or mx mt) τ))
  unfolding joins
  made_where t i j a b (yes h) = rw (true_of (made_up l s (or mx mt) τ) h) (t, a, b, made_same.0 h)
  made_where t i j a b (no n) =
      rw (false_of (made_up l s (or mx mt) τ) n) (
        t,
        lowest_within l τ s group.0 mx (WithVariable e.left) x_same a,
        lowest_within l τ s group.0 mt (WithSome e.right) t_same b,
        λ h. n (made_same.1 h),
      )

  joins_where : Touched e s → (o p : Option ℕ) → Found (covers_inside l s mx) τ o → Found (covers_inside l s mt) τ p
      → Where l e τ s (joins o p (made_up l s (or mx mt) τ))
  unfolding joins
  joins_where t none p f g = (t, none_within l τ s group.0 mx (WithVariable e.left) x_same f)
  joins_where t (some i) none f g =
      let a = found_lowest l τ s group.0 mx (WithVariable e.left) x_same f in (
        t,
        lowest_within l τ s group.0 mx (WithVariable e.left) x_same a,
        none_within l τ s group.0 mt (WithSome e.right) t_same g,
      )
  joins_where t (some i) (some j) f g =
      made_where t i j (found_lowest l τ s group.0 mx (WithVariable e.left) x_same f)
      (found_lowest l τ s group.0 mt (WithSome e.right) t_same g) (decide (made_up l s (or mx mt) τ))

  given_where : Where l e τ s (verdict l e τ s)
  unfolding touched
  given_where = by_kind (kind e) refl
    where
      by_relevance : kind e ≡ plain → Dec (T (meets (or mx mt) s)) → Where l e τ s (verdict l e τ s)
      by_relevance p (yes h) =
          let t : Touched e s = (p, (relevant_same s group.0).0 h) in
          rw (touched_is t)
          (joins_where t (lowest (covers_inside l s mx) τ) (lowest (covers_inside l s mt) τ)
          (lowest_found (covers_inside l s mx) τ)
          (lowest_found (covers_inside l s mt) τ))
      by_relevance p (no n) =
          let u : Untouched e s = inr (p, λ r. n ((relevant_same s group.0).1 r)) in
          rw (untouched_is u) (untouched_where u)

      by_kind : (k : Kind) → kind e ≡ k → Where l e τ s (verdict l e τ s)
      by_kind itself p = rw (untouched_is (inl p)) (untouched_where (inl p))
      by_kind deeper p = subst (Where l e τ s) (sym (where_given (Absent NoSolution) p)) p
      by_kind plain p = by_relevance p (decide (meets (or mx mt) s))

  -- No verdict on a group is a refusal.
  pub verdict_accepted : verdict_number (verdict l e τ s) ≡ 0
  verdict_accepted = go (verdict l e τ s) given_where
    where
      go : (v : Verdict) → Where l e τ s v → verdict_number v ≡ 0
      go Kept h = refl
      go (Joined i j) h = refl
      go (Absent r) h = refl
      go (Refused r) h = absurd h

  -- Each verdict is given exactly in its condition.
  pub verdict_exact : (v : Verdict) → (verdict l e τ s ≡ v) ↔ Where l e τ s v
  verdict_exact v = (λ p. subst (Where l e τ s) p given_where, where_given v)

  -- ---- The groups after the equation

  -- a table's groups have l positions
  long : (g : Bits) → groups positive l τ g → length g ≡ l
  unfolding groups
  long g h = h.0.0

  -- a group that the equation does not touch is there after it exactly where it was before
  untouched_after : Untouched e s → After e (groups positive l τ) s ↔ groups positive l τ s
  unfolding AfterKind
  untouched_after (inl p) = rw p (λ h. h, λ h. h)
  untouched_after (inr (p, n)) =
      rw p (
        ⊎_elim (λ h. h.0) (λ h. absurd (n (made_relevant (groups positive l τ) e s h))),
        λ h. inl (h, λ x. n (inl x), λ t. n (inr t)),
      )

  touched_after : Touched e s → After e (groups positive l τ) s
      ↔ (XWithin e (groups positive l τ) s × TWithin e (groups positive l τ) s × MadeUp e (groups positive l τ) s)
  touched_after (p, r) = relevant_exact l (groups positive l τ) long e p s group.0 r

  deeper_after : kind e ≡ deeper → ¬ (After e (groups positive l τ) s)
  unfolding AfterKind
  deeper_after p h = subst (λ (k : Kind). AfterKind k e (groups positive l τ) s) p h

  where_there : (v : Verdict) → Where l e τ s v → There v ↔ After e (groups positive l τ) s
  where_there Kept (u, h) = (λ _. (untouched_after u).1 h, λ _. tt)
  where_there (Joined i j) (t, a, b, m) = (
    λ _.
        (touched_after t).1 (
          lowest_within l τ s group.0 mx (WithVariable e.left) x_same a,
          lowest_within l τ s group.0 mt (WithSome e.right) t_same b,
          m,
        ),
    λ _. tt,
  )
  where_there (Absent NoXEntry) (t, n) = (λ h. absurd h, λ h. n ((touched_after t).0 h).0)
  where_there (Absent NoTEntry) (t, x, n) = (λ h. absurd h, λ h. n ((touched_after t).0 h).1)
  where_there (Absent NotMadeUp) (t, x, y, n) = (λ h. absurd h, λ h. n ((touched_after t).0 h).2)
  where_there (Absent NotThere) (u, n) = (λ h. absurd h, λ h. n ((untouched_after u).0 h))
  where_there (Absent NoSolution) p = (λ h. absurd h, λ h. deeper_after p h)
  where_there (Refused r) h = absurd h

  -- s is kept or joined exactly when it is in the groups after the equation, wherever the table's own equation is full too.
  pub there_exact : There (verdict l e τ s) ↔ After e (groups positive l τ) s
  there_exact = where_there (verdict l e τ s) given_where
