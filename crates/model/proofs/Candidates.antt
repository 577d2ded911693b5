-- What the lists of candidates cover, and the length of their strings. Assumes nothing.
use mathlib.Core.Path.{◌≡◌, refl, sym, ap, ap₂, ◌∙◌}
use mathlib.Core.Bool.{Bool, true, false, ◌&&◌, ◌||◌, cond, or-false, and-false, and-or_distrib_left, and-or_distrib_right}
use mathlib.Core.List.{[], ◌∷◌, map}
use mathlib.Core.Logic.{⊎_elim}
use Prim.Native.Nat.{ℕ, zero, suc}
use native.Mathlib.Nat.{suc_inj, suc-ne-zero}
use lib.Dec.{T}
use lib.ListN.{length, length-map}
use Rattle.model.specs.Groups.{Bits, meets, or}
use Rattle.model.specs.Strings.{Trit, t1, t*, Trits, covers_digit, covers, matches, meet, or_strings, stars, zeros}
use Rattle.model.specs.Strings.{zero_if}
use Rattle.model.specs.Strings.{one_at, rising, ones}
use Rattle.model.specs.Growth.{Entries, covered}
use Rattle.model.specs.Tables.{Wide, meet_if, meets_with, meets_of, ors}
use Rattle.model.proofs.Tests.{or_cases, or_left, or_right, and_first, and_second, false_of}
use Rattle.model.proofs.Strings.{covers_length, Parts, parts, or_covers, meet_exact, both_match, stars_cover}
use Rattle.model.proofs.Positions.{one_at_length, ones_nil, ones_cons}
use Rattle.model.proofs.Growth.{covered_append}
use Rattle.model.proofs.Shape.{wide_append}

-- ---- Length

-- what a list of strings of l positions covers has l positions
pub wide_long : (l : ℕ) (τ : Entries) (g : Bits) → Wide l τ → T (covered τ g) → length g ≡ l
unfolding covered Wide
wide_long l [] g w h = absurd h
wide_long l (s ∷ τ) g w h =
    ⊎_elim (λ c. covers_length s g c ∙ w.0) (λ k. wide_long l τ g w.1 k) (or_cases (covers s g) (covered τ g) h)

pub or_strings_length : (l : ℕ) (s r : Trits) → length s ≡ l → length r ≡ l → length (or_strings s r) ≡ l
unfolding or_strings
or_strings_length l [] r d e = e
or_strings_length l (t ∷ s) [] d e = d
or_strings_length zero (t ∷ s) (u ∷ r) d e = absurd (suc-ne-zero _ d)
or_strings_length (suc l) (t ∷ s) (u ∷ r) d e = ap suc (or_strings_length l s r (suc_inj d) (suc_inj e))

pub meet_length : (l : ℕ) (s r : Trits) → length s ≡ l → length r ≡ l → length (meet s r) ≡ l
unfolding meet
meet_length l [] r d e = d
meet_length l (t ∷ s) [] d e = e
meet_length zero (t ∷ s) (u ∷ r) d e = absurd (suc-ne-zero _ d)
meet_length (suc l) (t ∷ s) (u ∷ r) d e = ap suc (meet_length l s r (suc_inj d) (suc_inj e))

pub zeros_length : (m : Bits) → length (zeros m) ≡ length m
unfolding zeros
zeros_length m = length-map m zero_if

pub wide_map : (l k : ℕ) (f : Trits → Trits) → ((s : Trits) → length s ≡ k → length (f s) ≡ l) → (τ : Entries) → Wide k τ
    → Wide l (map f τ)
unfolding Wide
wide_map l k f e [] w = tt
wide_map l k f e (s ∷ τ) w = (e s w.0, wide_map l k f e τ w.1)

-- strings of l positions formed for positions rising
pub rising_wide : (l : ℕ) (p : ℕ → Bool) (f : ℕ → Trits) → ((i : ℕ) → length (f i) ≡ l) → (i n : ℕ) → Wide l (rising p f i n)
unfolding rising Wide
rising_wide l p f e i zero = tt
rising_wide l p f e i (suc n) = go (p i) (rising_wide l p f e (suc i) n)
  where
    go : (b : Bool) → Wide l (rising p f (suc i) n) → Wide l (cond b (f i ∷ rising p f (suc i) n) (rising p f (suc i) n))
    go true w = (e i, w)
    go false w = w

pub ones_wide : (m : Bits) → Wide (length m) (ones m)
unfolding ones
ones_wide m = rising_wide (length m) _ (one_at (length m)) (one_at_length (length m)) 0 (length m)

meets_with_wide : (l : ℕ) (s : Trits) (ρ : Entries) → length s ≡ l → Wide l ρ → Wide l (meets_with s ρ)
unfolding meets_with meet_if Wide
meets_with_wide l s [] e w = tt
meets_with_wide l s (r ∷ ρ) e w =
    wide_append l (cond (matches s r) (meet s r ∷ []) []) (meets_with s ρ) (go (matches s r)) (meets_with_wide l s ρ e w.1)
  where
    go : (b : Bool) → Wide l (cond b (meet s r ∷ []) [])
    go true = (meet_length l s r e w.0, tt)
    go false = tt

pub meets_of_wide : (l : ℕ) (τ ρ : Entries) → Wide l τ → Wide l ρ → Wide l (meets_of τ ρ)
unfolding meets_of Wide
meets_of_wide l [] ρ w v = tt
meets_of_wide l (s ∷ τ) ρ w v =
    wide_append l (meets_with s ρ) (meets_of τ ρ) (meets_with_wide l s ρ w.0 v) (meets_of_wide l τ ρ w.1 v)

pub ors_wide : (l : ℕ) (α β : Entries) → Wide l α → Wide l β → Wide l (ors α β)
unfolding ors Wide
ors_wide l [] β w v = tt
ors_wide l (a ∷ α) β w v =
    wide_append l (map (or_strings a) β) (ors α β) (wide_map l l (or_strings a) (λ s e. or_strings_length l a s w.0 e) β v)
    (ors_wide l α β w.1 v)

-- ---- Meets cover what both cover

meet_if_covered : (s r : Trits) (g : Bits) → covered (meet_if s r) g ≡ (covers s g && covers r g)
unfolding covered meet_if
meet_if_covered s r g = go (matches s r) refl
  where
    apart : ¬ (T (matches s r)) → false ≡ (covers s g && covers r g)
    apart n =
        sym (false_of (covers s g && covers r g)
        (λ c. n (both_match s r g (and_first (covers s g) (covers r g) c) (and_second (covers s g) (covers r g) c))))

    go : (b : Bool) → matches s r ≡ b → covered (cond b (meet s r ∷ []) []) g ≡ (covers s g && covers r g)
    go true e = or-false (covers (meet s r) g) ∙ meet_exact s r g (rw e tt)
    go false e = apart (λ t. rw e at t)

meets_with_covered : (s : Trits) (ρ : Entries) (g : Bits) → covered (meets_with s ρ) g ≡ (covers s g && covered ρ g)
unfolding covered meets_with
meets_with_covered s [] g = sym (and-false (covers s g))
meets_with_covered s (r ∷ ρ) g =
    covered_append (meet_if s r) (meets_with s ρ) g
    ∙ ap₂ ◌||◌ (meet_if_covered s r g) (meets_with_covered s ρ g)
    ∙ sym (and-or_distrib_left (covers s g) (covers r g) (covered ρ g))

pub meets_of_covered : (τ ρ : Entries) (g : Bits) → covered (meets_of τ ρ) g ≡ (covered τ g && covered ρ g)
unfolding covered meets_of
meets_of_covered [] ρ g = refl
meets_of_covered (s ∷ τ) ρ g =
    covered_append (meets_with s ρ) (meets_of τ ρ) g
    ∙ ap₂ ◌||◌ (meets_with_covered s ρ g) (meets_of_covered τ ρ g)
    ∙ sym (and-or_distrib_right (covers s g) (covered τ g) (covered ρ g))

-- ---- The strings with a 1 at a variable of the set cover what has a variable of it

-- strings with one more position in front
pub front_covered : (t : Trit) (τ : Entries) (b : Bool) (g : Bits)
    → covered (map (λ (s : Trits). t ∷ s) τ) (b ∷ g) ≡ (covers_digit t b && covered τ g)
unfolding covered covers
front_covered t [] b g = sym (and-false (covers_digit t b))
front_covered t (s ∷ τ) b g =
    ap (λ (c : Bool). covers_digit t b && covers s g || c) (front_covered t τ b g) ∙ sym
    (and-or_distrib_left (covers_digit t b) (covers s g) (covered τ g))

pub ones_covered : (m g : Bits) → length g ≡ length m → covered (ones m) g ≡ meets m g
unfolding covered covers meets
ones_covered [] g e = rw ones_nil
ones_covered (a ∷ m) [] e = absurd (suc-ne-zero _ (sym e))
ones_covered (a ∷ m) (b ∷ g) e = rw (ones_cons a m) (go a b (front_covered t* (ones m) b g ∙ ones_covered m g (suc_inj e)))
  where
    others : Entries
    others = map (λ (s : Trits). t* ∷ s) (ones m)

    go : (a b : Bool) → covered others (b ∷ g) ≡ meets m g
        → covered (cond a ((t1 ∷ stars (length m)) ∷ others) others) (b ∷ g) ≡ (a && b || meets m g)
    go true true r = rw (stars_cover (length m) g (suc_inj e))
    go true false r = r
    go false b r = r

-- ---- Ors of two lists

-- g is the "or" of a string that α covers and one that β covers
pub record Both (α β : Entries) (g : Bits) : Type 0 where
  pub first : Bits
  pub second : Bits
  pub in_first : T (covered α first)
  pub in_second : T (covered β second)
  pub is : g ≡ or first second

wider : {α β α' β' : Entries} {g : Bits} → ((h : Bits) → T (covered α h) → T (covered α' h))
    → ((h : Bits) → T (covered β h) → T (covered β' h))
    → Both α β g → Both α' β' g
wider f k p =
    record {
      first = p.first;
      second = p.second;
      in_first = f p.first p.in_first;
      in_second = k p.second
          p.in_second;
      is = p.is;
    }

in_first_entry : (s : Trits) (τ : Entries) (h : Bits) → T (covers s h) → T (covered (s ∷ τ) h)
unfolding covered
in_first_entry s τ h k = or_left (covers s h) (covered τ h) k

in_others : (s : Trits) (τ : Entries) (h : Bits) → T (covered τ h) → T (covered (s ∷ τ) h)
unfolding covered
in_others s τ h k = or_right (covers s h) (covered τ h) k

of_parts : (a b : Trits) (α β : Entries) (g : Bits) → Parts a b g → Both (a ∷ α) (b ∷ β) g
of_parts a b α β g p =
    record {
      first = p.first;
      second = p.second;
      in_first = in_first_entry a α p.first p.in_first;
      in_second = in_first_entry b β p.second p.in_second;
      is = p.is;
    }

row_split : (a : Trits) (α β : Entries) (g : Bits) → T (covered (map (or_strings a) β) g) → Both (a ∷ α) β g
unfolding covered
row_split a α [] g h = absurd h
row_split a α (b ∷ β) g h =
    ⊎_elim
    (λ c. of_parts a b α β g (parts a b g c))
    (λ k. wider (λ h k. k) (in_others b β) (row_split a α β g k))
    (or_cases (covers (or_strings a b) g) (covered (map (or_strings a) β) g) h)

pub ors_split : (α β : Entries) (g : Bits) → T (covered (ors α β) g) → Both α β g
unfolding covered ors
ors_split [] β g h = absurd h
ors_split (a ∷ α) β g h =
    ⊎_elim
    (λ c. row_split a α β g c)
    (λ k. wider (in_others a α) (λ h k. k) (ors_split α β g k))
    (or_cases (covered (map (or_strings a) β) g) (covered (ors α β) g) (rw covered_append at h))

row_covered : (a : Trits) (β : Entries) (g h : Bits) → T (covers a g) → T (covered β h)
    → T (covered (map (or_strings a) β) (or g h))
unfolding covered
row_covered a [] g h c m = m
row_covered a (b ∷ β) g h c m =
    ⊎_elim
    (λ d. or_left (covers (or_strings a b) (or g h)) (covered (map (or_strings a) β) (or g h)) (or_covers a b g h c d))
    (λ k. or_right (covers (or_strings a b) (or g h)) (covered (map (or_strings a) β) (or g h)) (row_covered a β g h c k))
    (or_cases (covers b h) (covered β h) m)

pub ors_covered : (α β : Entries) (g h : Bits) → T (covered α g) → T (covered β h) → T (covered (ors α β) (or g h))
unfolding covered ors
ors_covered [] β g h m n = m
ors_covered (a ∷ α) β g h m n =
    rw covered_append
    (⊎_elim
    (λ c. or_left (covered (map (or_strings a) β) (or g h)) (covered (ors α β) (or g h)) (row_covered a β g h c n))
    (λ k. or_right (covered (map (or_strings a) β) (or g h)) (covered (ors α β) (or g h)) (ors_covered α β g h k n))
    (or_cases (covers a g) (covered α g) m))
