-- A group with x or a variable of t is there after x = t exactly when the groups inside it make it; and the tests of this
-- over all groups are exact. Assumes nothing.
use mathlib.Core.Path.{◌≡◌, refl, sym, ap, ap₂, ◌∙◌, subst}
use mathlib.Core.Bool.{Bool, true, false, not, ◌&&◌, ◌||◌, cond, or-false}
use mathlib.Core.List.{[], ◌∷◌, map}
use mathlib.Core.Logic.{◌⊎◌, inl, inr, ◌↔◌, ⊎_elim}
use mathlib.Core.Option.{Option, some, none}
use Prim.Native.Nat.{ℕ, zero, suc, ◌≤◌, ◌<◌}
use native.Mathlib.Nat.{suc_inj, suc-ne-zero, eq-or-lt_of_le, le_of_suc-le-suc}
use native.Mathlib.Omega.{arith}
use lib.Dec.{T, T_not, not_T}
use lib.ListN.{length, get_or}
use Rattle.model.specs.Groups.{Bits, Groups, Group, nonzero, has, meets, or, Ors, one, more, AOrB, Those, Equated}
use Rattle.model.specs.Strings.{Trits, covers}
use Rattle.model.specs.Growth.{Entries, covered}
use Rattle.model.specs.Tables.{positive, groups}
use Rattle.model.specs.Equations.{Equation, plain, kind, WithVariable, WithSome, AfterKind, After}
use Rattle.model.specs.Questions.{every, every_group}
use Rattle.model.specs.Reasons.{Inside, Within, Relevant, MadeUp, CoveredBy, some_group, inside, touches}
use Rattle.model.specs.Reasons.{covers_inside, next, lowest, together, made_up}
use Rattle.model.proofs.Tests.{or_cases, or_left, or_right, and_first, and_second, and_both, same_test, decide}
use Rattle.model.proofs.Tests.{not_not, nand, true_of, false_of}
use Rattle.model.proofs.Bits.{or_length}
use Rattle.model.proofs.Variables.{set_of_length, has_set_of, set_of_has, meets_has, has_meets}
use Rattle.model.proofs.Questions.{every_group_exact}

-- ---- The variables of a group

pub has_or : (g h : Bits) (y : ℕ) → has (or g h) y ≡ (has g y || has h y)
unfolding has or
has_or g h zero = refl
has_or [] h (suc i) = refl
has_or (a ∷ g) [] (suc i) = sym (or-false (get_or (a ∷ g) i false))
has_or (a ∷ g) (b ∷ h) (suc zero) = refl
has_or (a ∷ g) (b ∷ h) (suc (suc i)) = has_or g h (suc i)

has_bound : (s : Bits) (y : ℕ) → T (has s y) → y ≤ length s
unfolding has
has_bound s zero h = absurd h
has_bound [] (suc i) h = absurd h
has_bound (b ∷ s) (suc zero) h = omega arith
has_bound (b ∷ s) (suc (suc i)) h = omega (arith, has_bound s (suc i) h)

pub inside_tail : (a b : Bool) (s g : Bits) → Inside (b ∷ s) (a ∷ g) → Inside s g
unfolding has
inside_tail a b s g f zero h = absurd h
inside_tail a b s g f (suc i) h = f (suc (suc i)) h

-- Strings of one length with the same variables are one.
pub same_variables : (s g : Bits) → length g ≡ length s → Inside s g → Inside g s → g ≡ s
unfolding has
same_variables [] [] e f k = refl
same_variables [] (a ∷ g) e f k = absurd (suc-ne-zero _ e)
same_variables (b ∷ s) [] e f k = absurd (suc-ne-zero _ (sym e))
same_variables (b ∷ s) (a ∷ g) e f k =
    ap₂ {C = Bits} (λ x r. x ∷ r) (same_test a b (f 1) (k 1))
    (same_variables s g (suc_inj e) (inside_tail a b s g f) (inside_tail b a g s k))

inside_left : (s a b : Bits) → s ≡ or a b → Inside s a
inside_left s a b e y h = rw (e, has_or a b y) (or_left (has a y) (has b y) h)

inside_right : (s a b : Bits) → s ≡ or a b → Inside s b
inside_right s a b e y h = rw (e, has_or a b y) (or_right (has a y) (has b y) h)

inside_or : (s a b : Bits) → Inside s a → Inside s b → Inside s (or a b)
inside_or s a b f g y h = ⊎_elim (f y) (g y) (or_cases (has a y) (has b y) (rw (has_or a b y) at h))

-- ---- The characterisation, of any sets of groups S, X and Y

-- the groups of S inside s of which X or Y holds make up s
abbrev Parts : Groups → Groups → Groups → Bits → Type 0
Parts S X Y s = (y : ℕ) → T (has s y) → Within S s (λ g. (X g ⊎ Y g) × T (has g y))

wider : {S P : Groups} (s r : Bits) → Inside r s → Within S s P → Within S r P
wider s r f w = (w.0, w.1, λ y h. f y (w.2 y h), w.3)

module _ (S X Y : Groups) where
  -- what an "or" of strings a or b is made of
  record Made (s : Bits) : Type 0 where
    x_part : Within S s X
    t_part : Within S s Y
    parts : Parts S X Y s

  -- one a or b
  made_one : {s : Bits} → AOrB (Those S X) (Those S Y) s → Made s
  made_one {s} p =
      let left = inside_left s p.a p.b p.is in
      let right = inside_right s p.a p.b p.is in
      record {
        x_part = (p.a, p.in_a.0, left, p.in_a.1);
        t_part = (p.b, p.in_b.0, right, p.in_b.1);
        parts = λ y h.
            ⊎_elim (λ k. (p.a, p.in_a.0, left, (inl p.in_a.1, k))) (λ k. (p.b, p.in_b.0, right, (inr p.in_b.1, k)))
            (or_cases (has p.a y) (has p.b y)
            (rw (has_or p.a p.b y) at (subst (λ (r : Bits). T (has r y)) p.is h)));
      }

  -- one or more of them
  made_of : {s : Bits} → Ors (AOrB (Those S X) (Those S Y)) s → Made s
  made_of (one p) = made_one p
  made_of (more {g} {h} p q) =
      let m = made_one p in
      let n = made_of q in
      let left = inside_left (or g h) g h refl in
      record {
        x_part = wider {P = X} g (or g h) left m.x_part;
        t_part = wider {P = Y} g (or g h) left m.t_part;
        parts = λ y k.
            ⊎_elim (λ i. wider g (or g h) left (m.parts y i))
            (λ i. wider h (or g h) (inside_right (or g h) g h refl) (n.parts y i))
            (or_cases (has g y) (has h y) (rw (has_or g h y) at k));
      }

  module _ (l : ℕ) (long : (g : Bits) → S g → length g ≡ l) (s : Bits) (whole : length s ≡ l) (m : Made s) where
    -- a or b of a group that has X or Y: it with a group that has the other
    record Paired (g : Bits) : Type 0 where
      string : Bits
      is : AOrB (Those S X) (Those S Y) string
      wide : length string ≡ l
      in_s : Inside s string
      has_g : Inside string g

    paired : (g : Bits) → S g → Inside s g → X g ⊎ Y g → Paired g
    paired g i f (inl x) =
        let b = m.t_part in
        record {
          string = or g b.0;
          is = record { a = g; b = b.0; in_a = (i, x); in_b = (b.1, b.3); is = refl };
          wide = or_length g b.0 l (long g i) (long b.0 b.1);
          in_s = inside_or s g b.0 f b.2;
          has_g = inside_left (or g b.0) g b.0 refl;
        }
    paired g i f (inr y) =
        let a = m.x_part in
        record {
          string = or a.0 g;
          is = record { a = a.0; b = g; in_a = (a.1, a.3); in_b = (i, y); is = refl };
          wide = or_length a.0 g l (long a.0 a.1) (long g i);
          in_s = inside_or s a.0 g a.2 f;
          has_g = inside_right (or a.0 g) a.0 g refl;
        }

    -- an "or" of such strings inside s that has the first n variables of s
    record Built (n : ℕ) : Type 0 where
      string : Bits
      is : Ors (AOrB (Those S X) (Those S Y)) string
      wide : length string ≡ l
      in_s : Inside s string
      has_first : (y : ℕ) → y ≤ n → T (has s y) → T (has string y)

    -- one variable more: its group is paired
    built_more : (n : ℕ) → Built n → Within S s (λ g. (X g ⊎ Y g) × T (has g (suc n))) → Built (suc n)
    built_more n b w =
        let p = paired w.0 w.1 w.2 w.3.0 in
        let all = or p.string b.string in
        record {
          string = all;
          is = more p.is b.is;
          wide = or_length p.string b.string l p.wide b.wide;
          in_s = inside_or s p.string b.string p.in_s b.in_s;
          has_first = λ y le h.
              ⊎_elim
              (λ e. inside_left all p.string b.string refl y
              (p.has_g y (subst (λ (i : ℕ). T (has w.0 i)) (sym e) w.3.1)))
              (λ k. inside_right all p.string b.string refl y (b.has_first y (le_of_suc-le-suc k) h))
              (eq-or-lt_of_le le);
        }

    built_next : (n : ℕ) → Dec (T (has s (suc n))) → Built n → Built (suc n)
    built_next n (yes h) b = built_more n b (m.parts (suc n) h)
    built_next n (no k) b = record {
      string = b.string;
      is = b.is;
      wide = b.wide;
      in_s = b.in_s;
      has_first = λ y le h.
          ⊎_elim (λ e. absurd (k (subst (λ (i : ℕ). T (has s i)) e h))) (λ i. b.has_first y (le_of_suc-le-suc i) h)
          (eq-or-lt_of_le le);
    }

    built : (n : ℕ) → Built n
    unfolding has
    built zero =
        let p = paired m.x_part.0 m.x_part.1 m.x_part.2 (inl m.x_part.3) in
        record {
          string = p.string;
          is = one p.is;
          wide = p.wide;
          in_s = p.in_s;
          has_first = λ y le h. absurd (has_none y le h);
        }
      where
        has_none : (y : ℕ) → y ≤ zero → ¬ (T (has s y))
        has_none zero le h = h
        has_none (suc i) le h = absurd (omega (arith, le))
    built (suc n) = built_next n (decide (has s (suc n))) (built n)

    -- with all variables it is s
    made_all : Ors (AOrB (Those S X) (Those S Y)) s
    made_all =
        let b = built l in
        subst (Ors (AOrB (Those S X) (Those S Y)))
        (same_variables s b.string (b.wide ∙ sym whole) b.in_s
        (λ y h. b.has_first y (omega (arith, whole, has_bound s y h)) h))
        b.is

-- ---- After an equation

-- The characterisation of the binary definition: a group with x or a variable of t is there after x = t exactly when some group
-- inside it has x, some group inside it has a variable of t, and the relevant groups inside it make it up.
pub relevant_exact : (l : ℕ) (S : Groups) → ((g : Bits) → S g → length g ≡ l) → (e : Equation) → kind e ≡ plain → (s : Bits)
    → length s ≡ l → Relevant e s
    → After e S s ↔ (Within S s (WithVariable e.left) × Within S s (WithSome e.right) × MadeUp e S s)
unfolding AfterKind
relevant_exact l S long e p s whole r =
    rw p (
      λ h.
          let m = made_of S (WithVariable e.left) (WithSome e.right) (joins h) in
          (m.x_part, m.t_part, m.parts),
      λ h.
          inr (made_all S (WithVariable e.left) (WithSome e.right) l long s whole
          (record { x_part = h.0; t_part = h.1; parts = h.2 })),
    )
  where
    joins : Equated (WithVariable e.left) (WithSome e.right) S s
        → Ors (AOrB (Those S (WithVariable e.left)) (Those S (WithSome e.right))) s
    joins (inl h) = absurd (⊎_elim (λ x. h.1 x) (λ y. h.2 y) r)
    joins (inr h) = h

-- What an equation makes out of relevant groups is relevant.
pub made_relevant : (S : Groups) (e : Equation) (s : Bits)
    → Ors (AOrB (Those S (WithVariable e.left)) (Those S (WithSome e.right))) s → Relevant e s
made_relevant S e s h =
    let w = (made_of S (WithVariable e.left) (WithSome e.right) h).x_part in
    inl (w.2 e.left w.3)

-- ---- The tests over all groups

-- where not every string passes, one is found that does not
every_failed : (l : ℕ) (p : Bits → Bool) → ¬ (T (every l p)) → (g : Bits) × (length g ≡ l) × ¬ (T (p g))
unfolding every
every_failed zero p n = ([], refl, n)
every_failed (suc l) p n =
    ⊎_elim (λ k. let r = every_failed l (λ g. p (false ∷ g)) k in (false ∷ r.0, ap suc r.1, r.2))
    (λ k. let r = every_failed l (λ g. p (true ∷ g)) k in (true ∷ r.0, ap suc r.1, r.2))
    (nand (every l (λ g. p (false ∷ g))) (every l (λ g. p (true ∷ g))) n)

pub some_group_exact : (l : ℕ) (p : Bits → Bool) → T (some_group l p) ↔ ((g : Bits) × Group l g × T (p g))
unfolding some_group every_group
some_group_exact l p = (
  λ h.
      let r = every_failed l (λ g. not (nonzero g) || not (p g)) (T_not (every_group l (λ g. not (p g))) h) in
      let g = r.0 in (
        g,
        (r.1, not_not (nonzero g) (λ z. r.2 (or_left (not (nonzero g)) (not (p g)) z))),
        not_not (p g) (λ z. r.2 (or_right (not (nonzero g)) (not (p g)) z)),
      ),
  λ w.
      not_T (every_group l (λ g. not (p g)))
      (λ h. T_not (p w.0) ((every_group_exact l (λ g. not (p g))).0 h w.0 w.1) w.2),
)

-- ---- Inside

-- the variables that s lacks
has_others : (s g : Bits) (y : ℕ) → length g ≡ length s → T (has g y) → has (map not s) y ≡ not (has s y)
unfolding has
has_others s g zero e h = absurd h
has_others s [] (suc i) e h = absurd h
has_others [] (c ∷ g) (suc i) e h = absurd (suc-ne-zero _ e)
has_others (b ∷ s) (c ∷ g) (suc zero) e h = refl
has_others (b ∷ s) (c ∷ g) (suc (suc i)) e h = has_others s g (suc i) (suc_inj e) h

pub inside_exact : (s g : Bits) → length g ≡ length s → T (inside s g) ↔ Inside s g
unfolding inside
inside_exact s g e = (
  λ h y k.
      not_not (has s y) (λ n. T_not (meets (map not s) g) h
      (has_meets (map not s) g y (rw (has_others s g y e k) n) k)),
  λ f.
      not_T (meets (map not s) g) (λ m.
      let r = meets_has (map not s) g m in
      T_not (has s r.0) (rw (has_others s g r.0 e r.2) at r.1) (f r.0 r.2)),
)

-- ---- Entries

module _ (l : ℕ) (s : Bits) (whole : length s ≡ l) (m : Bits) where
  touches_exact : (g : Bits) → length g ≡ l → T (touches s m g) ↔ (Inside s g × T (meets m g))
  unfolding touches
  touches_exact g e = (
    λ h. ((inside_exact s g (e ∙ sym whole)).0 (and_first (inside s g) (meets m g) h), and_second (inside s g) (meets m g) h),
    λ h. and_both (inside s g) (meets m g) ((inside_exact s g (e ∙ sym whole)).1 h.0) h.1,
  )

  pub covers_inside_exact : (e : Trits) → T (covers_inside l s m e) ↔ Within (CoveredBy l e) s (λ g. T (meets m g))
  unfolding covers_inside
  covers_inside_exact e = (
    λ h.
        let r = (some_group_exact l (λ g. covers e g && touches s m g)).0 h in
        let t = (touches_exact r.0 r.1.0).0 (and_second (covers e r.0) (touches s m r.0) r.2) in
        (r.0, (r.1, and_first (covers e r.0) (touches s m r.0) r.2), t.0, t.1),
    λ w.
        (some_group_exact l (λ g. covers e g && touches s m g)).1 (
          w.0,
          w.1.0,
          and_both (covers e w.0) (touches s m w.0) w.1.1 ((touches_exact w.0 w.1.0.0).1 (w.2, w.3)),
        ),
  )

  -- the groups of the table inside s that have a variable of m and the variable y
  pub together_exact : (τ : Entries) (y : ℕ) → T (some_group l (λ g. covered τ g && (touches s m g && has g y)))
      ↔ Within (groups positive l τ) s (λ g. T (meets m g) × T (has g y))
  unfolding groups
  together_exact τ y = (
    λ h.
        let r = (some_group_exact l (λ g. covered τ g && (touches s m g && has g y))).0 h in
        let g = r.0 in
        let k = and_second (covered τ g) (touches s m g && has g y) r.2 in
        let t = (touches_exact g r.1.0).0 (and_first (touches s m g) (has g y) k) in
        (g, (r.1, and_first (covered τ g) (touches s m g && has g y) r.2), t.0, (t.1, and_second (touches s m g) (has g y) k)),
    λ w.
        let g = w.0 in
        (some_group_exact l (λ g. covered τ g && (touches s m g && has g y))).1 (
          g,
          w.1.0,
          and_both (covered τ g) (touches s m g && has g y) w.1.1
              (and_both (touches s m g) (has g y) ((touches_exact g w.1.0.0).1 (w.2, w.3.0)) w.3.1),
        ),
  )

  pub together_length : (τ : Entries) → length (together l s m τ) ≡ l
  unfolding together
  together_length τ = set_of_length l (λ y. some_group l (λ g. covered τ g && (touches s m g && has g y)))

  together_inside : (τ : Entries) → Inside s (together l s m τ)
  unfolding together
  together_inside τ y h =
      let w = (together_exact τ y).0 (has_set_of l (λ y. some_group l (λ g. covered τ g && (touches s m g && has g y))) y h) in
      w.2 y w.3.1

  pub made_up_exact : (τ : Entries) → T (made_up l s m τ)
      ↔ ((y : ℕ) → T (has s y) → Within (groups positive l τ) s (λ g. T (meets m g) × T (has g y)))
  unfolding made_up together
  made_up_exact τ =
      let p : ℕ → Bool = λ y. some_group l (λ g. covered τ g && (touches s m g && has g y)) in
      let i = inside_exact (together l s m τ) s (whole ∙ sym (together_length τ)) in (
        λ h y k. (together_exact τ y).0 (has_set_of l p y (i.0 h y k)),
        λ f. i.1 (λ y k. set_of_has l p y s whole k ((together_exact τ y).1 (f y k))),
      )

  -- They make up s exactly where together they are s.
  pub made_up_together : (τ : Entries) → T (made_up l s m τ) ↔ (together l s m τ ≡ s)
  unfolding made_up
  made_up_together τ =
      let g = together l s m τ in
      let i = inside_exact g s (whole ∙ sym (together_length τ)) in (
        λ h. same_variables s g (together_length τ ∙ sym whole) (together_inside τ) (i.0 h),
        λ e. i.1 (λ y k. rw e k),
      )

-- ---- The lowest entry

-- what is found among entries: the lowest that passes, or that none does
pub data Found (p : Trits → Bool) (τ : Entries) : Option ℕ → Type 0 where
  nowhere : ((k : ℕ) → k < length τ → ¬ (T (p (get_or τ k [])))) → Found p τ none
  at : {i : ℕ} → i < length τ → T (p (get_or τ i [])) → ((k : ℕ) → k < i → ¬ (T (p (get_or τ k [])))) → Found p τ (some i)

found_next : (p : Trits → Bool) (e : Trits) (τ : Entries) → ¬ (T (p e)) → {o : Option ℕ} → Found p τ o → Found p (e ∷ τ) (next o)
unfolding next
found_next p e τ n (nowhere f) = nowhere go
  where
    go : (k : ℕ) → k < length (e ∷ τ) → ¬ (T (p (get_or (e ∷ τ) k [])))
    go zero lt = n
    go (suc k) lt = f k (omega (arith, lt))
found_next p e τ n (at {i} lt h f) = at {i = suc i} (omega (arith, lt)) h go
  where
    go : (k : ℕ) → k < suc i → ¬ (T (p (get_or (e ∷ τ) k [])))
    go zero below = n
    go (suc k) below = f k (omega (arith, below))

pub lowest_found : (p : Trits → Bool) (τ : Entries) → Found p τ (lowest p τ)
unfolding lowest
lowest_found p [] = nowhere (λ k lt. absurd (omega (arith, lt)))
lowest_found p (e ∷ τ) = go (decide (p e)) (lowest_found p τ)
  where
    go : Dec (T (p e)) → Found p τ (lowest p τ) → Found p (e ∷ τ) (cond (p e) (some 0) (next (lowest p τ)))
    go (yes h) f = rw (true_of (p e) h) (at {i = 0} (omega arith) h (λ k lt. absurd (omega (arith, lt))))
    go (no n) f = rw (false_of (p e) n) (found_next p e τ n f)

-- and it is the one that is found
pub lowest_is : (p : Trits → Bool) (τ : Entries) (i : ℕ) → i < length τ → T (p (get_or τ i []))
    → ((k : ℕ) → k < i → ¬ (T (p (get_or τ k [])))) → lowest p τ ≡ some i
unfolding lowest next
lowest_is p [] i lt h f = absurd (omega (arith, lt))
lowest_is p (e ∷ τ) zero lt h f = rw (true_of (p e) h) refl
lowest_is p (e ∷ τ) (suc i) lt h f =
    rw (
      false_of (p e) (f 0 (omega arith)),
      lowest_is p τ i (omega (arith, lt)) h (λ k below. f (suc k) (omega (arith, below))),
    ) refl

pub lowest_none : (p : Trits → Bool) (τ : Entries) → ((k : ℕ) → k < length τ → ¬ (T (p (get_or τ k [])))) → lowest p τ ≡ none
unfolding lowest next
lowest_none p [] f = refl
lowest_none p (e ∷ τ) f =
    rw (false_of (p e) (f 0 (omega arith)), lowest_none p τ (λ k below. f (suc k) (omega (arith, below)))) refl
