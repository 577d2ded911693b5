-- A string with one position more fixed, to another's value there or to the opposite: its word, and what it covers.
-- Assumes nothing.
use mathlib.Core.Bool.{Bool, true, false, not, ◌&&◌, ◌||◌, false≢true, and-or_distrib_left}
use mathlib.Core.List.{[], ◌∷◌, map}
use mathlib.Core.Path.{◌≡◌, refl, sym, ap, ap₂, ◌∙◌}
use Prim.Native.Nat.{ℕ, zero, suc, ◌+◌, ◌-◌, ◌*◌, ◌/◌, ◌%◌, ◌^◌, ◌<◌, ◌≤◌, suc-le-suc, zero-le}
use native.Mathlib.Nat.{mod-lt}
use native.Mathlib.Omega.{arith}
use borrow.Author.Tests.{eqb-true}
use lib.Bits.{bit_and, bit_or, and_block, and_zero_r, and_high, and_lt, and_le_l, and_le_r}
use lib.Bits.{or_add_and, or_disjoint, or_shr, or_mod}
use lib.Dec.{eqb, lit<}
use lib.ListN.{length, length-map}
use lib.Pow.{pow_pos, pow-lt, pow-add, split}
use Rattle.model.specs.Groups.{Bits}
use Rattle.model.specs.Strings.{Trit, t0, t1, t*, Trits, covers_digit, match_digit, subsumes_digit, fixed_digit, flip}
use Rattle.model.specs.Strings.{covers, matches, subsumes, fixed, opposed}
use Rattle.words.specs.Words.{care_of, word, high, low, halves, both as both_halves, fixed_word, opposite_word}
use Rattle.words.specs.Words.{opposed_word}
use Rattle.words.proofs.Halves.{high_lt, low_lt}
use Rattle.words.proofs.Words.{word_opposite}
use Rattle.words.proofs.Positions.{one_shl, both_halves_or, fixed_bit, word_opposed}
use Rattle.covering.specs.Covering.{agreed}
use Rattle.covering.proofs.EveryGroup.{both, left, right}

-- ---- The word of a string that agrees at i: to agree is to oppose the opposite

-- the opposite of the opposite
flip_back : (v : Trits) → map flip (map flip v) ≡ v
flip_back [] = refl
flip_back (t0 ∷ v) = ap (λ (r : Trits). t0 ∷ r) (flip_back v)
flip_back (t1 ∷ v) = ap (λ (r : Trits). t1 ∷ r) (flip_back v)
flip_back (t* ∷ v) = ap (λ (r : Trits). t* ∷ r) (flip_back v)

-- to agree with v is to oppose its opposite
agreed_opposed : (i : ℕ) (v y : Trits) → opposed i (map flip v) y ≡ agreed i v y
unfolding agreed opposed
agreed_opposed i [] [] = refl
agreed_opposed i [] (t ∷ y) = refl
agreed_opposed i (u ∷ v) [] = refl
agreed_opposed zero (t0 ∷ v) (t ∷ y) = refl
agreed_opposed zero (t1 ∷ v) (t ∷ y) = refl
agreed_opposed zero (t* ∷ v) (t ∷ y) = refl
agreed_opposed (suc i) (u ∷ v) (t ∷ y) = ap (λ (r : Trits). t ∷ r) (agreed_opposed i v y)

-- as the code makes it
pub agreed_word : (i y v : ℕ) (s t : Trits) → i < 32 → length s ≡ length t → length s ≤ 32 → y ≡ word s → v ≡ word t
    → fixed i s ≡ false
    → bit_or y (bit_and v (bit_or (((1 * 2 ^ i) % 2 ^ 64 * 2 ^ 32) % 2 ^ 64) ((1 * 2 ^ i) % 2 ^ 64))) ≡ word (agreed i t s)
unfolding opposed_word
agreed_word i y v s t h n short es et k =
    let f : length (map flip t) ≡ length t = length-map t flip in
    let back : opposite_word (word (map flip t)) ≡ word t =
    word_opposite (map flip t) (rw (f, ← n) short) ∙ ap word (flip_back t) in
    rw (one_shl i 64 (omega arith), both_halves_or i h, es, et)
    (ap (λ (x : ℕ). bit_or (word s) (bit_and x (both_halves i))) (sym back)
    ∙ word_opposed i h (map flip t) s (n ∙ sym f) short k
    ∙ ap word (agreed_opposed i t s))

-- ---- The test of a position to split

-- a digit is 0 where it is not 1
not_one : (d : ℕ) → d < 2 → eqb d 0 ≡ not (eqb d 1)
not_one zero h = refl
not_one (suc zero) h = refl
not_one (suc (suc d)) h = absurd (omega arith)

-- as the code tests it
pub splits_word : (i c d : ℕ) (s t : Trits) → c ≡ care_of t → d ≡ care_of s
    → (eqb (c / 2 ^ i % 2) 1 && eqb (d / 2 ^ i % 2) 0) ≡ (fixed i t && not (fixed i s))
splits_word i c d s t et es =
    rw (et, es)
    (ap₂ ◌&&◌ (fixed_bit i t) (not_one (care_of s / 2 ^ i % 2) (mod-lt _ (lit< tt)) ∙ ap not (fixed_bit i s)))

-- ---- An opposed string's word is greater

-- a word with more bits is no less
pub or_more : (a b : ℕ) → (a ≤ bit_or a b) × (b ≤ bit_or a b)
or_more a b = (omega (arith, or_add_and a b, and_le_r a b), omega (arith, or_add_and a b, and_le_l a b))

-- the bit of position i
abbrev bit : ℕ → ℕ → ℕ
bit x i = x / 2 ^ i % 2

-- what a word has at position i
and_bit : (x i : ℕ) → bit_and x (2 ^ i) ≡ bit x i * 2 ^ i
and_bit x i =
    let e : 2 ^ (1 + i) - 2 ^ i ≡ 2 ^ i = omega (arith, pow-add 2 1 i) in
    ap (bit_and x) (sym e) ∙ and_high x 1 i

-- a bit of two words
or_bit : (x y i : ℕ) → bit (bit_or x y) i ≡ bit_or (bit x i) (bit y i)
or_bit x y i = ap (λ (z : ℕ). z % 2) (or_shr x y i) ∙ or_mod (x / 2 ^ i) (y / 2 ^ i) 1

-- where a word has no 1 at position i, it has none in common with what another has there
no_common : (x v i : ℕ) → bit x i ≡ 0 → bit_and x (bit_and v (2 ^ i)) ≡ 0
no_common x v i z = rw (and_bit v i) (go (bit v i) (mod-lt (v / 2 ^ i) (lit< tt)))
  where
    go : (d : ℕ) → d < 2 → bit_and x (d * 2 ^ i) ≡ 0
    go zero h = let e : 0 * 2 ^ i ≡ 0 = omega arith in rw e (and_zero_r x)
    go (suc zero) h = let e : 1 * 2 ^ i ≡ 2 ^ i = omega arith in rw (e, and_bit x i, z) (omega arith)
    go (suc (suc d)) h = absurd (omega arith)

-- nothing there: no 1
no_bit : (x i : ℕ) → bit_and x (2 ^ i) ≡ 0 → bit x i ≡ 0
no_bit x i e = go (bit x i) (mod-lt (x / 2 ^ i) (lit< tt)) (sym (and_bit x i) ∙ e)
  where
    go : (d : ℕ) → d < 2 → d * 2 ^ i ≡ 0 → d ≡ 0
    go zero h z = refl
    go (suc zero) h z = absurd (omega (arith, pow_pos i))
    go (suc (suc d)) h z = absurd (omega arith)

-- two words of which neither has a bit
or_none : (p q : ℕ) → bit_or p q ≡ 0 → (p ≡ 0) × (q ≡ 0)
or_none p q e =
    let m = or_more p q in
    (omega arith, omega arith)

-- v is fixed at i, y is not
pub opposed_more : (i y v c d : ℕ) → i < 32 → v < 2 ^ 64 → c ≡ fixed_word v → d ≡ fixed_word y
    → (eqb (bit c i) 1 && eqb (bit d i) 0) ≡ true → y < opposed_word i v y
unfolding fixed_word opposite_word both_halves opposed_word
opposed_more i y v c d h k ec ed e =
    let at_i : ℕ → ℕ = λ x. bit x i in
    let one = sym (or_bit (high v) (low v) i) ∙ sym (ap at_i ec) ∙ eqb-true (bit c i) 1 (left _ _ e) in
    let none = or_none (bit (high y) i) (bit (low y) i)
    (sym (or_bit (high y) (low y) i) ∙ sym (ap at_i ed) ∙ eqb-true (bit d i) 0 (right (eqb (bit c i) 1) _ e)) in
    let a = bit_and (low v) (2 ^ i) in
    let b = bit_and (high v) (2 ^ i) in
    let small = and_lt 32 (high v) (2 ^ i) (high_lt v k) (pow-lt h) in
    let apart : bit_and y (halves a b) ≡ 0 =
    ap (λ (z : ℕ). bit_and z (halves a b)) (sym (split y 32))
    ∙ and_block 32 (high y) a (low y) b (low_lt y) small
    ∙ ap₂ halves (no_common (high y) (low v) i none.0) (no_common (low y) (high v) i none.1) in
    let some : ¬ (halves a b ≡ 0) = λ z.
    let p = no_bit (low v) i (omega arith) in
    let q = no_bit (high v) i (omega arith) in
    absurd (omega (arith, ap₂ bit_or q p, one)) in
    let made : opposed_word i v y ≡ y + halves a b =
    ap (bit_or y) (and_block 32 (low v) (2 ^ i) (high v) (2 ^ i) (high_lt v k) (pow-lt h)) ∙ or_disjoint y (halves a b) apart in
    omega (arith, made, some)

-- ---- What the two strings cover

-- a digit is covered by a fixed position or by its opposite
either_digit : (u : Trit) (b : Bool) → fixed_digit u ≡ true → (covers_digit (flip u) b || covers_digit u b) ≡ true
either_digit t0 true h = refl
either_digit t0 false h = refl
either_digit t1 true h = refl
either_digit t1 false h = refl
either_digit t* b h = absurd (false≢true h)

-- two tests of which one is true
head_split : (p q c : Bool) → (p || q) ≡ true → c ≡ (p && c || q && c)
head_split true true true h = refl
head_split true true false h = refl
head_split true false true h = refl
head_split true false false h = refl
head_split false q c h = sym (ap (λ (b : Bool). b && c) h)

-- `*` covers every digit
free_digit : (t : Trit) (b : Bool) → fixed_digit t ≡ false → covers_digit t b ≡ true
free_digit t0 b h = absurd (false≢true (sym h))
free_digit t1 b h = absurd (false≢true (sym h))
free_digit t* b h = refl

-- what y covers, the one or the other covers
pub split_covers : (i : ℕ) (v y : Trits) (g : Bits) → length y ≡ length v → fixed i y ≡ false → fixed i v ≡ true
    → covers y g ≡ (covers (opposed i v y) g || covers (agreed i v y) g)
unfolding covers fixed opposed agreed
split_covers i [] y g n k h = absurd (false≢true h)
split_covers i (u ∷ v) [] g n k h = absurd (omega arith)
split_covers zero (u ∷ v) (t ∷ y) [] n k h = refl
split_covers (suc i) (u ∷ v) (t ∷ y) [] n k h = refl
split_covers zero (u ∷ v) (t ∷ y) (b ∷ g) n k h =
    ap (λ (c : Bool). c && covers y g) (free_digit t b k)
    ∙ head_split (covers_digit (flip u) b) (covers_digit u b) (covers y g) (either_digit u b h)
split_covers (suc i) (u ∷ v) (t ∷ y) (b ∷ g) n k h =
    ap (λ (c : Bool). covers_digit t b && c) (split_covers i v y g (omega arith) k h)
    ∙ and-or_distrib_left (covers_digit t b) (covers (opposed i v y) g) (covers (agreed i v y) g)

-- ---- The string that agrees

-- it is as long as y
pub agreed_length : (i : ℕ) (v y : Trits) → length (agreed i v y) ≡ length y
unfolding agreed
agreed_length i [] y = refl
agreed_length i (u ∷ v) [] = refl
agreed_length zero (u ∷ v) (t ∷ y) = refl
agreed_length (suc i) (u ∷ v) (t ∷ y) = ap suc (agreed_length i v y)

-- a position matches itself
match_self : (u : Trit) → match_digit u u ≡ true
match_self t0 = refl
match_self t1 = refl
match_self t* = refl

-- it matches v where y does
pub agreed_matches : (i : ℕ) (v y : Trits) → matches v y ≡ true → matches v (agreed i v y) ≡ true
unfolding matches agreed
agreed_matches i [] y h = h
agreed_matches i (u ∷ v) [] h = h
agreed_matches zero (u ∷ v) (t ∷ y) h = both (match_self u) (right (match_digit u t) _ h)
agreed_matches (suc i) (u ∷ v) (t ∷ y) h =
    both (left (match_digit u t) (matches v y) h) (agreed_matches i v y (right (match_digit u t) _ h))

-- what was fixed stays fixed
pub agreed_keeps : (i k : ℕ) (v y : Trits) → fixed i v ≡ true → fixed k y ≡ true → fixed k (agreed i v y) ≡ true
unfolding fixed agreed
agreed_keeps i k [] y h f = f
agreed_keeps i k (u ∷ v) [] h f = f
agreed_keeps zero zero (u ∷ v) (t ∷ y) h f = h
agreed_keeps zero (suc k) (u ∷ v) (t ∷ y) h f = f
agreed_keeps (suc i) zero (u ∷ v) (t ∷ y) h f = f
agreed_keeps (suc i) (suc k) (u ∷ v) (t ∷ y) h f = agreed_keeps i k v y h f

-- and position i is fixed
pub agreed_fixes : (i : ℕ) (v y : Trits) → length y ≡ length v → fixed i v ≡ true → fixed i (agreed i v y) ≡ true
unfolding fixed agreed
agreed_fixes i [] y n h = absurd (false≢true h)
agreed_fixes i (u ∷ v) [] n h = absurd (omega arith)
agreed_fixes zero (u ∷ v) (t ∷ y) n h = h
agreed_fixes (suc i) (u ∷ v) (t ∷ y) n h = agreed_fixes i v y (omega arith) h

-- one position
fixed_subsumes : (u t : Trit) → match_digit u t ≡ true → (fixed_digit u ≡ true → fixed_digit t ≡ true)
    → subsumes_digit u t ≡ true
fixed_subsumes t0 t0 m f = refl
fixed_subsumes t0 t1 m f = m
fixed_subsumes t0 t* m f = f refl
fixed_subsumes t1 t0 m f = m
fixed_subsumes t1 t1 m f = refl
fixed_subsumes t1 t* m f = f refl
fixed_subsumes t* t m f = refl

-- a matching string that is fixed wherever v is fixed is subsumed by v
pub subsumes_fixed : (v y : Trits) → length v ≡ length y → matches v y ≡ true
    → ((k : ℕ) → k < length v → fixed k v ≡ true → fixed k y ≡ true) → subsumes v y ≡ true
unfolding subsumes matches fixed
subsumes_fixed [] [] e m f = refl
subsumes_fixed [] (t ∷ y) e m f = absurd (omega arith)
subsumes_fixed (u ∷ v) [] e m f = absurd (omega arith)
subsumes_fixed (u ∷ v) (t ∷ y) e m f =
    both (fixed_subsumes u t (left _ _ m) (f 0 (suc-le-suc zero-le)))
    (subsumes_fixed v y (omega arith) (right (match_digit u t) _ m) (λ k h. f (suc k) (suc-le-suc h)))
