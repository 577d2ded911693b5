-- The largest group inside s that an entry covers: as a set it decides whether the entry covers a group inside s with a variable
-- of m, and the code's word is that of the set. Assumes nothing.
use mathlib.Core.Path.{◌≡◌, refl, sym, ap, ap₂, ◌∙◌}
use mathlib.Core.Bool.{Bool, true, false, not, ◌&&◌, cond}
use mathlib.Core.List.{[], ◌∷◌, map}
use Prim.Native.Nat.{ℕ, zero, suc, ◌+◌, ◌*◌, ◌≤◌}
use native.Mathlib.Nat.{suc_inj, suc-ne-zero}
use lib.Bits.{bit_and, bit_xor, and_block, xor_block, and_lt}
use lib.Dec.{T, eqb}
use lib.ListN.{length, length-map}
use Rattle.model.specs.Groups.{Bits, has, meets}
use Rattle.model.specs.Strings.{Trit, t0, t1, t*, Trits, covers_digit, covers}
use Rattle.model.specs.Reasons.{Inside, covers_inside}
use Rattle.model.proofs.Tests.{and_first, and_second, and_both, same_test, decide, true_of, false_of}
use Rattle.model.proofs.Bits.{meets_nonzero}
use Rattle.model.proofs.Variables.{meets_has, has_meets}
use Rattle.model.proofs.Reasons.{inside_tail, covers_inside_exact}
use Rattle.words.specs.Words.{zero_bit, value_bit, zeros_of, value_of, word, set_word}
use Rattle.words.proofs.Codec.{bit_lt, apart_words}
use Rattle.words.proofs.Digits.{zero_bit_lt, value_bit_lt, eqb_digit, digits_equal}
use Rattle.words.proofs.Halves.{high_word, low_word}
use Rattle.covering.specs.Sets.{greatest_digit}
use Rattle.reasons.specs.Entries.{fits_digit, fits, rest, largest, largest_word}

-- ---- What of s is not 0 in the entry

rest_length : (s : Bits) (e : Trits) → length e ≡ length s → length (rest s e) ≡ length s
unfolding rest
rest_length [] e n = refl
rest_length (b ∷ s) [] n = absurd (suc-ne-zero _ (sym n))
rest_length (b ∷ s) (t ∷ e) n = ap suc (rest_length s e (suc_inj n))

-- it is inside s
rest_inside : (s : Bits) (e : Trits) → Inside s (rest s e)
unfolding has rest
rest_inside s e zero h = absurd h
rest_inside [] e (suc i) h = h
rest_inside (b ∷ s) [] (suc i) h = absurd h
rest_inside (b ∷ s) (t ∷ e) (suc zero) h = and_first b (greatest_digit t) h
rest_inside (b ∷ s) (t ∷ e) (suc (suc i)) h = rest_inside s e (suc i) h

-- where every 1 is in s the entry covers it
fits_covers : (b : Bool) (t : Trit) → T (fits_digit b t) → T (covers_digit t (b && greatest_digit t))
fits_covers true t0 h = tt
fits_covers false t0 h = tt
fits_covers true t1 h = tt
fits_covers false t1 h = h
fits_covers b t* h = tt

rest_covered : (s : Bits) (e : Trits) → length e ≡ length s → T (fits s e) → T (covers e (rest s e))
unfolding covers rest fits
rest_covered [] [] n h = tt
rest_covered [] (t ∷ e) n h = absurd (suc-ne-zero _ n)
rest_covered (b ∷ s) [] n h = absurd (suc-ne-zero _ (sym n))
rest_covered (b ∷ s) (t ∷ e) n h =
    and_both (covers_digit t (b && greatest_digit t)) (covers e (rest s e))
    (fits_covers b t (and_first (fits_digit b t) (fits s e) h))
    (rest_covered s e (suc_inj n) (and_second (fits_digit b t) (fits s e) h))

-- ---- A string inside s that the entry covers

-- every 1 of the entry is in s
covered_digit : (b c : Bool) (t : Trit) → T (covers_digit t c) → (T c → T b) → T (fits_digit b t)
covered_digit b c t0 h f = tt
covered_digit b c t1 h f = f h
covered_digit b c t* h f = tt

covered_fits : (s : Bits) (e : Trits) (g : Bits) → T (covers e g) → Inside s g → T (fits s e)
unfolding has covers fits
covered_fits [] e g h f = tt
covered_fits (b ∷ s) [] g h f = tt
covered_fits (b ∷ s) (t ∷ e) [] h f = absurd h
covered_fits (b ∷ s) (t ∷ e) (c ∷ g) h f =
    and_both (fits_digit b t) (fits s e) (covered_digit b c t (and_first (covers_digit t c) (covers e g) h) (f 1))
    (covered_fits s e g (and_second (covers_digit t c) (covers e g) h) (inside_tail c b s g f))

-- and the string is inside what of s is not 0 in the entry
greater : (c : Bool) (t : Trit) → T (covers_digit t c) → T c → T (greatest_digit t)
greater true t0 h k = absurd h
greater false t0 h k = absurd k
greater c t1 h k = tt
greater c t* h k = tt

covered_inside : (s : Bits) (e : Trits) (g : Bits) → T (covers e g) → Inside s g → Inside (rest s e) g
unfolding has covers rest
covered_inside s e g h f zero k = absurd k
covered_inside s e [] h f (suc i) k = absurd k
covered_inside s [] (c ∷ g) h f (suc i) k = absurd h
covered_inside [] (t ∷ e) (c ∷ g) h f (suc i) k = f (suc i) k
covered_inside (b ∷ s) (t ∷ e) (c ∷ g) h f (suc zero) k =
    and_both b (greatest_digit t) (f 1 k) (greater c t (and_first (covers_digit t c) (covers e g) h) k)
covered_inside (b ∷ s) (t ∷ e) (c ∷ g) h f (suc (suc i)) k =
    covered_inside s e g (and_second (covers_digit t c) (covers e g) h) (inside_tail c b s g f) (suc i) k

-- ---- The largest group

-- a string of zeros has no variable
pub none_has : (s : Bits) (y : ℕ) → ¬ (T (has (map (λ (b : Bool). false) s) y))
unfolding has
none_has s zero h = h
none_has [] (suc i) h = h
none_has (b ∷ s) (suc zero) h = h
none_has (b ∷ s) (suc (suc i)) h = none_has s (suc i) h

-- the largest group, where it has a variable, is a group inside s that the entry covers
pub largest_has : (s : Bits) (e : Trits) → length e ≡ length s → (y : ℕ) → T (has (largest s e) y)
    → (largest s e ≡ rest s e) × T (covers e (rest s e)) × Inside s (rest s e)
unfolding largest
largest_has s e n y h = go (decide (fits s e)) h
  where
    go : Dec (T (fits s e)) → T (has (largest s e) y) → (largest s e ≡ rest s e) × T (covers e (rest s e)) × Inside s (rest s e)
    go (yes k) h = (
      ap (λ (c : Bool). cond c (rest s e) (map (λ (b : Bool). false) s)) (true_of (fits s e) k),
      rest_covered s e n k,
      rest_inside s e,
    )
    go (no k) h = absurd (none_has s y (rw (false_of (fits s e) k) at h))

-- it has all variables of each group inside s that the entry covers
pub largest_all : (s : Bits) (e : Trits) (g : Bits) → T (covers e g) → Inside s g → Inside (largest s e) g
unfolding largest
largest_all s e g h f = rw (true_of (fits s e) (covered_fits s e g h f)) (covered_inside s e g h f)

pub largest_length : (s : Bits) (e : Trits) → length e ≡ length s → length (largest s e) ≡ length s
unfolding largest
largest_length s e n = go (fits s e)
  where
    go : (c : Bool) → length (cond c (rest s e) (map (λ (b : Bool). false) s)) ≡ length s
    go true = rest_length s e n
    go false = length-map s (λ (b : Bool). false)

-- The entry covers a group inside s with a variable of m exactly where the largest has one.
pub largest_exact : (l : ℕ) (s m : Bits) (e : Trits) → length s ≡ l → length e ≡ l
    → covers_inside l s m e ≡ meets m (largest s e)
largest_exact l s m e whole wide = same_test (covers_inside l s m e) (meets m (largest s e)) there back
  where
    there : T (covers_inside l s m e) → T (meets m (largest s e))
    there h =
        let w = (covers_inside_exact l s whole m e).0 h in
        let r = meets_has m w.0 w.3 in
        has_meets m (largest s e) r.0 r.1 (largest_all s e w.0 w.1.1 w.2 r.0 r.2)

    back : T (meets m (largest s e)) → T (covers_inside l s m e)
    back h =
        let r = meets_has m (largest s e) h in
        let g = largest_has s e (wide ∙ sym whole) r.0 r.2 in
        let k : T (meets m (rest s e)) = rw g.0 at h in
        (covers_inside_exact l s whole m e).1 (
          rest s e,
          ((rest_length s e (wide ∙ sym whole) ∙ whole, meets_nonzero m (rest s e) k), g.1),
          g.2,
          k,
        )

-- ---- As words

-- a position whose 1 is in s
fits_bit : (b : Bool) (t : Trit) → eqb (bit_and (value_bit t) (cond b 1 0)) (value_bit t) ≡ fits_digit b t
fits_bit true t0 = refl
fits_bit false t0 = refl
fits_bit true t1 = refl
fits_bit false t1 = refl
fits_bit true t* = refl
fits_bit false t* = refl

fits_word : (s : Bits) (e : Trits) → length e ≡ length s → eqb (bit_and (value_of e) (set_word s)) (value_of e) ≡ fits s e
unfolding value_of set_word fits
fits_word [] [] n = refl
fits_word [] (t ∷ e) n = absurd (suc-ne-zero _ n)
fits_word (b ∷ s) [] n = absurd (suc-ne-zero _ (sym n))
fits_word (b ∷ s) (t ∷ e) n =
    let d : ℕ = cond b 1 0 in
    ap (λ (z : ℕ). eqb z (value_of e * 2 + value_bit t))
    (and_block 1 (value_of e) (set_word s) (value_bit t) d (value_bit_lt t) (bit_lt b))
    ∙ eqb_digit (bit_and (value_of e) (set_word s)) (value_of e) (bit_and (value_bit t) d) (value_bit t)
    (and_lt 1 (value_bit t) d (value_bit_lt t) (bit_lt b)) (value_bit_lt t)
    ∙ ap₂ ◌&&◌ (fits_bit b t) (fits_word s e (suc_inj n))

-- what of a position of s is not 0
rest_bit : (b : Bool) (t : Trit) → bit_xor (cond b 1 0) (bit_and (cond b 1 0) (zero_bit t)) ≡ cond (b && greatest_digit t) 1 0
rest_bit true t0 = refl
rest_bit false t0 = refl
rest_bit true t1 = refl
rest_bit false t1 = refl
rest_bit true t* = refl
rest_bit false t* = refl

rest_word : (s : Bits) (e : Trits) → length e ≡ length s
    → bit_xor (set_word s) (bit_and (set_word s) (zeros_of e)) ≡ set_word (rest s e)
unfolding zeros_of set_word rest
rest_word [] [] n = refl
rest_word [] (t ∷ e) n = absurd (suc-ne-zero _ n)
rest_word (b ∷ s) [] n = absurd (suc-ne-zero _ (sym n))
rest_word (b ∷ s) (t ∷ e) n =
    let d : ℕ = cond b 1 0 in
    ap (bit_xor (set_word s * 2 + d)) (and_block 1 (set_word s) (zeros_of e) d (zero_bit t) (bit_lt b) (zero_bit_lt t))
    ∙ xor_block 1 (set_word s) (bit_and (set_word s) (zeros_of e)) d (bit_and d (zero_bit t)) (bit_lt b)
    (and_lt 1 d (zero_bit t) (bit_lt b) (zero_bit_lt t))
    ∙ digits_equal (rest_word s e (suc_inj n)) (rest_bit b t)

-- the word of no variable
pub none_word : (s : Bits) → set_word (map (λ (b : Bool). false) s) ≡ 0
unfolding set_word
none_word [] = refl
none_word (b ∷ s) = ap (λ (x : ℕ). x * 2 + 0) (none_word s)

-- The code's word is that of the set.
pub largest_is : (s : Bits) (e : Trits) → length e ≡ length s → length e ≤ 32
    → largest_word (word e) (set_word s) ≡ set_word (largest s e)
unfolding largest_word largest
largest_is s e n short =
    rw (low_word e short, high_word e short, fits_word s e n) (go (fits s e))
  where
    go : (c : Bool) → cond c (bit_xor (set_word s) (bit_and (set_word s) (zeros_of e))) 0
        ≡ set_word (cond c (rest s e) (map (λ (b : Bool). false) s))
    go true = rest_word s e n
    go false = sym (none_word s)

-- a set meets another where that meets it
meets_swap : (m g : Bits) → T (meets m g) → T (meets g m)
meets_swap m g h = let r = meets_has m g h in has_meets g m r.0 r.2 r.1

pub apart_word : (m g : Bits) → eqb (bit_and (set_word g) (set_word m)) 0 ≡ not (meets m g)
apart_word m g = apart_words g m ∙ ap not (same_test (meets g m) (meets m g) (meets_swap g m) (meets_swap m g))

-- The code's test of an entry.
pub reaches_word : (l : ℕ) (s m : Bits) (e : Trits) → length s ≡ l → length e ≡ l → l ≤ 32
    → eqb (bit_and (largest_word (word e) (set_word s)) (set_word m)) 0 ≡ not (covers_inside l s m e)
reaches_word l s m e whole wide short =
    rw (largest_is s e (wide ∙ sym whole) (rw wide short), largest_exact l s m e whole wide) (apart_word m (largest s e))
