-- What strings cover, for any number of positions. Assumes nothing.
use mathlib.Core.Path.{◌≡◌, refl, sym, ap, ap₂, ◌∙◌}
use mathlib.Core.Bool.{Bool, true, false, not, ◌&&◌, ◌||◌, or-false, and-false, and-true, and_self}
use mathlib.Core.List.{[], ◌∷◌}
use mathlib.Core.Logic.{◌↔◌}
use Prim.Native.Nat.{ℕ, zero, suc}
use native.Mathlib.Nat.{suc_inj, suc-ne-zero}
use lib.Dec.{T}
use lib.ListN.{length, length-map}
use Rattle.model.specs.Groups.{Bits, nonzero, or, meets}
use Rattle.model.specs.Strings.{Trit, t0, t1, t*, Trits, covers_digit, covers, match_digit, matches, meet_digit, meet}
use Rattle.model.specs.Strings.{or_digit, or_strings, subsumes_digit, subsumes, all_zero, digit, exactly, stars, zeros}
use Rattle.model.proofs.Tests.{tests, or_right, and_first, and_second, and_both}
use Rattle.model.proofs.Bits.{or_nil}

-- ---- Length, and a string that is covered

pub covers_length : (s : Trits) (g : Bits) → T (covers s g) → length g ≡ length s
unfolding covers
covers_length [] [] c = refl
covers_length [] (b ∷ g) c = absurd c
covers_length (t ∷ s) [] c = absurd c
covers_length (t ∷ s) (b ∷ g) c = ap suc (covers_length s g (and_second (covers_digit t b) (covers s g) c))

pub some_digit : (t : Trit) → (b : Bool) × T (covers_digit t b)
some_digit t0 = (false, tt)
some_digit t1 = (true, tt)
some_digit t* = (false, tt)

pub some_covered : (s : Trits) → (g : Bits) × T (covers s g)
unfolding covers
some_covered [] = ([], tt)
some_covered (t ∷ s) =
    let b = some_digit t in
    let g = some_covered s in
    (b.0 ∷ g.0, and_both (covers_digit t b.0) (covers s g.0) b.1 g.1)

-- ---- Or

or_digit_covers : (t u : Trit) (a b : Bool) → T (covers_digit t a) → T (covers_digit u b)
    → T (covers_digit (or_digit t u) (a || b))
or_digit_covers t0 t0 true b h k = absurd h
or_digit_covers t0 t0 false b h k = k
or_digit_covers t0 t1 a true h k = or_right a true tt
or_digit_covers t0 t1 a false h k = absurd k
or_digit_covers t0 t* a b h k = tt
or_digit_covers t1 u true b h k = tt
or_digit_covers t1 u false b h k = absurd h
or_digit_covers t* t0 a b h k = tt
or_digit_covers t* t1 a true h k = or_right a true tt
or_digit_covers t* t1 a false h k = absurd k
or_digit_covers t* t* a b h k = tt

pub or_covers : (s r : Trits) (g h : Bits) → T (covers s g) → T (covers r h) → T (covers (or_strings s r) (or g h))
unfolding covers or_strings or
or_covers [] r [] h c d = d
or_covers [] r (a ∷ g) h c d = absurd c
or_covers (t ∷ s) r [] h c d = absurd c
or_covers (t ∷ s) [] (a ∷ g) [] c d = c
or_covers (t ∷ s) [] (a ∷ g) (b ∷ h) c d = absurd d
or_covers (t ∷ s) (u ∷ r) (a ∷ g) [] c d = absurd d
or_covers (t ∷ s) (u ∷ r) (a ∷ g) (b ∷ h) c d = search (tests, or_digit_covers, or_covers s r g h)

-- the two parts of a string that "s or r" covers
pub record Parts (s r : Trits) (g : Bits) : Type 0 where
  pub first : Bits
  pub second : Bits
  pub in_first : T (covers s first)
  pub in_second : T (covers r second)
  pub is : g ≡ or first second

digit_parts : (t u : Trit) (c : Bool) → T (covers_digit (or_digit t u) c)
    → (a b : Bool) × T (covers_digit t a) × T (covers_digit u b) × c ≡ (a || b)
digit_parts t0 t0 c h = (false, c, tt, h, refl)
digit_parts t0 t1 c h = (false, c, tt, h, refl)
digit_parts t0 t* c h = (false, c, tt, tt, refl)
digit_parts t1 t0 true h = (true, false, tt, tt, refl)
digit_parts t1 t1 true h = (true, true, tt, tt, refl)
digit_parts t1 t* true h = (true, true, tt, tt, refl)
digit_parts t1 u false h = absurd h
digit_parts t* t0 c h = (c, false, tt, tt, sym (or-false c))
digit_parts t* t1 c h = (false, c, tt, h, refl)
digit_parts t* t* c h = (false, c, tt, tt, refl)

pub parts : (s r : Trits) (g : Bits) → T (covers (or_strings s r) g) → Parts s r g
unfolding covers or_strings or
parts [] r g h = record { first = []; second = g; in_first = tt; in_second = h; is = refl }
parts (t ∷ s) [] g h = record { first = g; second = []; in_first = h; in_second = tt; is = sym (or_nil g) }
parts (t ∷ s) (u ∷ r) [] h = absurd h
parts (t ∷ s) (u ∷ r) (c ∷ g) h =
    let p = digit_parts t u c (search (tests)) in
    let q = parts s r g (search (tests)) in
    record {
      first = p.0 ∷ q.first;
      second = p.1 ∷ q.second;
      in_first = and_both (covers_digit t p.0) (covers s q.first) p.2 q.in_first;
      in_second = and_both (covers_digit u p.1) (covers r q.second) p.3 q.in_second;
      is = ap₂ {C = Bits} (λ x k. x ∷ k) p.4 q.is;
    }

-- The strings covered by "a or b" are exactly the ors of strings covered by a and by b.
pub or_exact : (s r : Trits) (g : Bits) → T (covers (or_strings s r) g) ↔ Parts s r g
or_exact s r g = (parts s r g, λ p. rw p.is (or_covers s r p.first p.second p.in_first p.in_second))

-- A cover is closed under or.
pub cover_closed : (s : Trits) (g h : Bits) → T (covers s g) → T (covers s h) → T (covers s (or g h))
unfolding covers or
cover_closed [] [] h c d = d
cover_closed [] (a ∷ g) h c d = absurd c
cover_closed (t ∷ s) [] h c d = absurd c
cover_closed (t ∷ s) (a ∷ g) [] c d = absurd d
cover_closed (t ∷ s) (a ∷ g) (b ∷ h) c d = search (tests, digit_closed, cover_closed s g h)
  where
    digit_closed : (t : Trit) (a b : Bool) → T (covers_digit t a) → T (covers_digit t b) → T (covers_digit t (a || b))
    digit_closed t0 true b h k = absurd h
    digit_closed t0 false b h k = k
    digit_closed t1 true b h k = tt
    digit_closed t1 false b h k = absurd h
    digit_closed t* a b h k = tt

-- ---- Subsumes

pub subsumes_covers : (s y : Trits) (g : Bits) → T (subsumes s y) → T (covers y g) → T (covers s g)
unfolding covers subsumes
subsumes_covers [] [] g h k = k
subsumes_covers [] (u ∷ y) g h k = absurd h
subsumes_covers (t ∷ s) [] g h k = absurd h
subsumes_covers (t ∷ s) (u ∷ y) [] h k = absurd k
subsumes_covers (t ∷ s) (u ∷ y) (b ∷ g) h k = search (tests, at, subsumes_covers s y g)
  where
    at : (t u : Trit) (b : Bool) → T (subsumes_digit t u) → T (covers_digit u b) → T (covers_digit t b)
    at t0 t0 b h k = k
    at t0 t1 b h k = absurd h
    at t0 t* b h k = absurd h
    at t1 t0 b h k = absurd h
    at t1 t1 b h k = k
    at t1 t* b h k = absurd h
    at t* u b h k = tt

digit_subsumes : (t u : Trit) → ((b : Bool) → T (covers_digit u b) → T (covers_digit t b)) → T (subsumes_digit t u)
digit_subsumes t0 t0 f = tt
digit_subsumes t0 t1 f = f true tt
digit_subsumes t0 t* f = f true tt
digit_subsumes t1 t0 f = f false tt
digit_subsumes t1 t1 f = tt
digit_subsumes t1 t* f = f false tt
digit_subsumes t* u f = tt

covers_subsumes : (s y : Trits) → ((g : Bits) → T (covers y g) → T (covers s g)) → T (subsumes s y)
unfolding covers subsumes
covers_subsumes [] [] f = tt
covers_subsumes [] (u ∷ y) f =
    let g = some_covered (u ∷ y) in suc-ne-zero _
    (sym (covers_length (u ∷ y) g.0 g.1) ∙ covers_length [] g.0 (f g.0 g.1))
covers_subsumes (t ∷ s) [] f = f [] tt
covers_subsumes (t ∷ s) (u ∷ y) f =
    let b = some_digit u in
    let g = some_covered y in
    and_both (subsumes_digit t u) (subsumes s y)
    (digit_subsumes t u (λ c k. and_first (covers_digit t c) (covers s g.0)
    (f (c ∷ g.0) (and_both (covers_digit u c) (covers y g.0) k g.1))))
    (covers_subsumes s y (λ h k. and_second (covers_digit t b.0) (covers s h)
    (f (b.0 ∷ h) (and_both (covers_digit u b.0) (covers y h) b.1 k))))

-- Subsumes holds exactly when every binary string covered by the one is covered by the other.
pub subsumes_exact : (s y : Trits) → T (subsumes s y) ↔ ((g : Bits) → T (covers y g) → T (covers s g))
subsumes_exact s y = (λ h g k. subsumes_covers s y g h k, covers_subsumes s y)

-- an all-zero string covers no group
pub zero_covers : (y : Trits) (g : Bits) → T (all_zero y) → T (covers y g) → ¬ (T (nonzero g))
unfolding covers all_zero nonzero
zero_covers [] [] z c h = h
zero_covers [] (b ∷ g) z c h = c
zero_covers (t ∷ y) [] z c h = h
zero_covers (t0 ∷ y) (true ∷ g) z c h = c
zero_covers (t0 ∷ y) (false ∷ g) z c h = zero_covers y g z c h
zero_covers (t1 ∷ y) (b ∷ g) z c h = z
zero_covers (t* ∷ y) (b ∷ g) z c h = z

-- ---- Match and meet

swap_and : (a b c d : Bool) → ((a && b) && (c && d)) ≡ ((a && c) && (b && d))
swap_and true b true d = refl
swap_and true b false d = and-false b
swap_and false b c d = refl

-- The meet of strings that match covers exactly what both cover.
pub meet_exact : (s r : Trits) (g : Bits) → T (matches s r) → covers (meet s r) g ≡ (covers s g && covers r g)
unfolding covers matches meet
meet_exact [] [] [] m = refl
meet_exact [] [] (b ∷ g) m = refl
meet_exact [] (u ∷ r) g m = absurd m
meet_exact (t ∷ s) [] g m = absurd m
meet_exact (t ∷ s) (u ∷ r) [] m = refl
meet_exact (t ∷ s) (u ∷ r) (b ∷ g) m =
    ap₂ ◌&&◌ (at t u b (and_first (match_digit t u) (matches s r) m))
    (meet_exact s r g (and_second (match_digit t u) (matches s r) m))
    ∙ swap_and (covers_digit t b) (covers_digit u b) (covers s g) (covers r g)
  where
    at : (t u : Trit) (b : Bool) → T (match_digit t u) → covers_digit (meet_digit t u) b ≡ (covers_digit t b && covers_digit u b)
    at t0 t0 b m = sym (and_self (not b))
    at t0 t1 b m = absurd m
    at t0 t* b m = sym (and-true (not b))
    at t1 t0 b m = absurd m
    at t1 t1 b m = sym (and_self b)
    at t1 t* b m = sym (and-true b)
    at t* u b m = refl

pub both_match : (s r : Trits) (g : Bits) → T (covers s g) → T (covers r g) → T (matches s r)
unfolding covers matches
both_match [] [] g h k = tt
both_match [] (u ∷ r) [] h k = k
both_match [] (u ∷ r) (b ∷ g) h k = h
both_match (t ∷ s) [] [] h k = h
both_match (t ∷ s) [] (b ∷ g) h k = k
both_match (t ∷ s) (u ∷ r) [] h k = absurd h
both_match (t ∷ s) (u ∷ r) (b ∷ g) h k = search (tests, at, both_match s r g)
  where
    at : (t u : Trit) (b : Bool) → T (covers_digit t b) → T (covers_digit u b) → T (match_digit t u)
    at t0 t0 b h k = tt
    at t0 t1 true h k = h
    at t0 t1 false h k = k
    at t0 t* b h k = tt
    at t1 t0 true h k = k
    at t1 t0 false h k = h
    at t1 t1 b h k = tt
    at t1 t* b h k = tt
    at t* u b h k = tt

-- Strings match exactly when they cover a string in common.
pub match_exact : (s r : Trits) → T (matches s r) ↔ ((g : Bits) × T (covers s g) × T (covers r g))
match_exact s r = (
  λ m.
      let g = some_covered (meet s r) in
      let c : T (covers s g.0 && covers r g.0) = rw (meet_exact s r g.0 m) at g.1 in
      (g.0, and_first (covers s g.0) (covers r g.0) c, and_second (covers s g.0) (covers r g.0) c),
  λ g. both_match s r g.0 g.1 g.2,
)

-- ---- The strings of sets and of groups

pub stars_cover : (l : ℕ) (g : Bits) → length g ≡ l → covers (stars l) g ≡ true
unfolding covers stars
stars_cover zero [] e = refl
stars_cover zero (b ∷ g) e = absurd (suc-ne-zero _ e)
stars_cover (suc l) [] e = absurd (suc-ne-zero _ (sym e))
stars_cover (suc l) (b ∷ g) e = stars_cover l g (suc_inj e)

pub zeros_cover : (m g : Bits) → length g ≡ length m → covers (zeros m) g ≡ not (meets m g)
unfolding covers zeros meets
zeros_cover [] [] e = refl
zeros_cover [] (b ∷ g) e = absurd (suc-ne-zero _ e)
zeros_cover (a ∷ m) [] e = absurd (suc-ne-zero _ (sym e))
zeros_cover (true ∷ m) (true ∷ g) e = refl
zeros_cover (true ∷ m) (false ∷ g) e = zeros_cover m g (suc_inj e)
zeros_cover (false ∷ m) (b ∷ g) e = zeros_cover m g (suc_inj e)

pub exactly_length : (g : Bits) → length (exactly g) ≡ length g
unfolding exactly
exactly_length g = length-map g digit

pub exactly_covers : (g : Bits) → T (covers (exactly g) g)
unfolding covers exactly
exactly_covers [] = tt
exactly_covers (true ∷ g) = exactly_covers g
exactly_covers (false ∷ g) = exactly_covers g

pub exactly_one : (h g : Bits) → T (covers (exactly h) g) → g ≡ h
unfolding covers exactly
exactly_one [] [] c = refl
exactly_one [] (b ∷ g) c = absurd c
exactly_one (a ∷ h) [] c = absurd c
exactly_one (true ∷ h) (true ∷ g) c = ap (λ (x : Bits). true ∷ x) (exactly_one h g c)
exactly_one (true ∷ h) (false ∷ g) c = absurd c
exactly_one (false ∷ h) (true ∷ g) c = absurd c
exactly_one (false ∷ h) (false ∷ g) c = ap (λ (x : Bits). false ∷ x) (exactly_one h g c)
