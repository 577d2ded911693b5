-- One position of a string changed, and the strings formed for each position rising. Assumes nothing.
use mathlib.Core.Path.{◌≡◌, refl, ap, ◌∙◌}
use mathlib.Core.Bool.{Bool, true, false, not, ◌&&◌, ◌||◌, cond, and-or_distrib_left}
use mathlib.Core.List.{List, [], ◌∷◌, map}
use Prim.Native.Nat.{ℕ, zero, suc}
use lib.Dec.{T}
use lib.ListN.{length, get_or, length-replicate}
use Rattle.model.specs.Groups.{Bits}
use Rattle.model.specs.Strings.{Trit, t0, t1, t*, Trits, covers_digit, covers, fixed_digit, flip, fixed, starred, flipped}
use Rattle.model.specs.Strings.{opposed, stars, one_at, rising, ones, pieces}
use Rattle.model.proofs.Tests.{tests, or_left, and_first, and_second, and_both}

-- ---- One position

pub starred_length : (i : ℕ) (y : Trits) → length (starred i y) ≡ length y
unfolding starred
starred_length i [] = refl
starred_length zero (t ∷ y) = refl
starred_length (suc i) (t ∷ y) = ap suc (starred_length i y)

pub opposed_length : (i : ℕ) (v y : Trits) → length (opposed i v y) ≡ length y
unfolding opposed
opposed_length i v [] = refl
opposed_length i [] (t ∷ y) = refl
opposed_length zero (u ∷ v) (t ∷ y) = refl
opposed_length (suc i) (u ∷ v) (t ∷ y) = ap suc (opposed_length i v y)

pub stars_length : (l : ℕ) → length (stars l) ≡ l
unfolding stars
stars_length l = length-replicate l t*

pub one_at_length : (l i : ℕ) → length (one_at l i) ≡ l
unfolding one_at
one_at_length zero i = refl
one_at_length (suc l) zero = ap suc (stars_length l)
one_at_length (suc l) (suc i) = ap suc (one_at_length l i)

-- a position made `*` loses nothing
pub starred_covers : (i : ℕ) (y : Trits) (g : Bits) → T (covers y g) → T (covers (starred i y) g)
unfolding covers starred
starred_covers i [] g h = h
starred_covers zero (t ∷ y) [] h = h
starred_covers zero (t ∷ y) (b ∷ g) h = and_second (covers_digit t b) (covers y g) h
starred_covers (suc i) (t ∷ y) [] h = h
starred_covers (suc i) (t ∷ y) (b ∷ g) h = search (tests, starred_covers i y g)

-- and what it adds is what the string with that value flipped covers
pub starred_split : (i : ℕ) (y : Trits) (g : Bits) → T (fixed i y) → T (covers (starred i y) g)
    → T (covers y g || covers (flipped i y) g)
unfolding covers starred flipped fixed
starred_split i [] g f h = absurd f
starred_split zero (t ∷ y) [] f h = absurd h
starred_split zero (t ∷ y) (b ∷ g) f h = at t b (covers y g) f h
  where
    at : (t : Trit) (b c : Bool) → T (fixed_digit t) → T c → T (covers_digit t b && c || (covers_digit (flip t) b && c))
    at t0 true c f h = h
    at t0 false c f h = or_left c false h
    at t1 true c f h = or_left c false h
    at t1 false c f h = h
    at t* b c f h = absurd f
starred_split (suc i) (t ∷ y) [] f h = absurd h
starred_split (suc i) (t ∷ y) (b ∷ g) f h =
    rw (← and-or_distrib_left (covers_digit t b) (covers y g) (covers (flipped i y) g))
    (and_both (covers_digit t b) (covers y g || covers (flipped i y) g)
    (and_first (covers_digit t b) (covers (starred i y) g) h)
    (starred_split i y g f (and_second (covers_digit t b) (covers (starred i y) g) h)))

-- ---- Positions rising

module _ {A : Type 0} where
  rising_shift : (p : ℕ → Bool) (f : ℕ → A) (i n : ℕ) → rising p f (suc i) n ≡ rising (λ j. p (suc j)) (λ j. f (suc j)) i n
  unfolding rising
  rising_shift p f i zero = refl
  rising_shift p f i (suc n) = ap (λ (r : List A). cond (p (suc i)) (f (suc i) ∷ r) r) (rising_shift p f (suc i) n)

  rising_map : (p : ℕ → Bool) (f : ℕ → A) (c : A → A) (i n : ℕ) → rising p (λ j. c (f j)) i n ≡ map c (rising p f i n)
  unfolding rising
  rising_map p f c i zero = refl
  rising_map p f c i (suc n) = ap (λ (r : List A). cond (p i) (c (f i) ∷ r) r) (rising_map p f c (suc i) n) ∙ choose (p i)
    where
      choose : (b : Bool)
          → cond b (c (f i) ∷ map c (rising p f (suc i) n)) (map c (rising p f (suc i) n)) ≡ map c
          (cond b (f i ∷ rising p f (suc i) n) (rising p f (suc i) n))
      choose true = refl
      choose false = refl

pub ones_nil : ones [] ≡ []
unfolding ones rising
ones_nil = refl

pub ones_cons : (a : Bool) (m : Bits)
    → ones (a ∷ m) ≡ cond a ((t1 ∷ stars (length m)) ∷ map (λ (s : Trits). t* ∷ s) (ones m))
    (map (λ (s : Trits). t* ∷ s) (ones m))
unfolding ones rising one_at
ones_cons a m =
    ap (λ (r : List Trits). cond a ((t1 ∷ stars (length m)) ∷ r) r)
    (rising_shift (λ i. get_or (a ∷ m) i false) (one_at (length (a ∷ m))) 0 (length m)
    ∙ rising_map (λ i. get_or m i false) (one_at (length m)) (λ (s : Trits). t* ∷ s) 0 (length m))

pub pieces_nil : (v : Trits) → pieces [] v ≡ []
unfolding pieces rising
pieces_nil v = refl

-- y with the opposite of v, at the first position and at the others
pub pieces_cons : (t u : Trit) (y v : Trits)
    → pieces (t ∷ y) (u ∷ v)
    ≡ cond (not (fixed_digit t) && fixed_digit u) ((flip u ∷ y) ∷ map (λ (s : Trits). t ∷ s) (pieces y v))
    (map (λ (s : Trits). t ∷ s) (pieces y v))
unfolding pieces rising fixed opposed
pieces_cons t u y v =
    ap (λ (r : List Trits). cond (not (fixed_digit t) && fixed_digit u) ((flip u ∷ y) ∷ r) r)
    (rising_shift (λ i. not (fixed i (t ∷ y)) && fixed i (u ∷ v)) (λ i. opposed i (u ∷ v) (t ∷ y)) 0 (length y)
    ∙ rising_map (λ i. not (fixed i y) && fixed i v) (λ i. opposed i v y) (λ (s : Trits). t ∷ s) 0 (length y))
