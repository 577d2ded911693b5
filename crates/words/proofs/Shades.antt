-- The shade of an entry e with a string s: of each t that s is widened to, where e opens it and whether e subsumes it.
-- Assumes nothing.
use Rattle.std.proofs.Common.{◌≡◌, ℕ, zero, suc, ◌+◌, ◌-◌, ◌*◌, ◌/◌, ◌%◌, ◌^◌, ◌<◌, ◌≤◌, Bool, true, false, cond, ◌&&◌, T, eqb, [], ◌∷◌, length, sym, refl, ap, ◌∙◌, ap₂, pow-suc, suc-ne-zero, arith, lit<, ltb-false, eq-eqb, ne_eqb}
use native.Mathlib.Nat.{suc_inj}
use lib.Bits.{bit_and, bit_or, bit_xor, and_block, xor_block, and_lt, xor_lt, and_zero_l, and_comm, xor_comm, and_self}
use lib.Bits.{xor_self, and_mask, and_le_r, or_zero_l, or_add_and}
use lib.Dec.{eqb-suc-zero}
use lib.Pow as pow
use Rattle.model.specs.Strings.{Trit, t0, t1, t*, Trits, subsumes_digit, subsumes}
use Rattle.model.proofs.Tests.{true_of}
use Rattle.words.specs.Words.{care_bit, care_of, zeros_of, value_of, word, high, low, halves, set_word, openings, near}
use Rattle.words.specs.Words.{zero_bit, value_bit, lack_count, fixed_word, lacks_word, lone, openings_of, opens_word}
use Rattle.words.specs.Words.{subsumes_word, shade_word}
use Rattle.words.proofs.Digits.{Op, on, on_digit, Digitwise, zero_l, value_l, zero_r, and_of, or_of, xor_of, on_cons}
use Rattle.words.proofs.Digits.{care_bit_lt, digits_equal, paired, nine, never, never', eqb_digit, eqb_cons, nothing}
use Rattle.words.proofs.Halves.{cares_or, care_word, fixed_lt, halves_or, word_lt}
use Rattle.words.proofs.Words.{and_swap, both_true, xor_test, word_subsumes}
use Rattle.words.proofs.LackedBits.{Z, O, lack_zeros, lack_values, head_digit, head_none, openings_kept}
use Rattle.words.proofs.LackedBits.{openings_lost, open_none, lacks_halves, lacks_fixed, word_near, word_openings}

-- ---- "And" goes into "or" and into "xor"

module _ (op : ℕ → ℕ → ℕ) (of : (F G : Op) → Digitwise F → Digitwise G → Digitwise (λ p q r s. op (F p q r s) (G p q r s)))
    (none : op 0 0 ≡ 0) where
  -- both sides go digit by digit
  inside : Digitwise (λ p q r s. bit_and p (op q r))
  inside = and_of _ _ zero_l (of _ _ value_l zero_r)

  outside : Digitwise (λ p q r s. op (bit_and p q) (bit_and p r))
  outside = of _ _ (and_of _ _ zero_l value_l) (and_of _ _ zero_l zero_r)

  -- and are the same on digits
  over_digit : (f a b : ℕ) → f < 2 → a < 2 → b < 2 → bit_and f (op a b) ≡ op (bit_and f a) (bit_and f b)
  over_digit zero a b hf ha hb = and_zero_l (op a b) ∙ sym (ap₂ op (and_zero_l a) (and_zero_l b) ∙ none)
  over_digit (suc zero) a b hf ha hb =
      one (op a b) ((of _ _ value_l zero_r).bound 0 a b 0 (lit< tt) ha hb (lit< tt)) ∙ sym (ap₂ op (one a ha) (one b hb))
    where
      one : (d : ℕ) → d < 2 → bit_and 1 d ≡ d
      one zero h = refl
      one (suc zero) h = refl
      one (suc (suc d)) h = absurd (omega arith)
  over_digit (suc (suc f)) a b hf ha hb = absurd (omega arith)

  -- so they are the same
  and_over : (k f a b : ℕ) → f < 2 ^ k → bit_and f (op a b) ≡ op (bit_and f a) (bit_and f b)
  and_over zero f a b h = let z : f ≡ 0 = omega arith in rw z (sym none)
  and_over (suc k) f a b h =
      go (f / 2) (a / 2) (b / 2) (f % 2) (a % 2) (b % 2) (omega arith) (omega arith) (omega arith) (omega arith)
      (omega arith) (omega arith) (and_over k (f / 2) (a / 2) (b / 2) (omega (arith, pow-suc 2 k)))
    where
      go : (x y z d g h : ℕ) → d < 2 → g < 2 → h < 2 → f ≡ x * 2 + d → a ≡ y * 2 + g → b ≡ z * 2 + h
          → bit_and x (op y z) ≡ op (bit_and x y) (bit_and x z) → bit_and f (op a b) ≡ op (bit_and f a) (bit_and f b)
      go x y z d g h hd hg hh ef ea eb ih =
          rw (ef, ea, eb)
          (inside.step x y z 0 d g h 0 hd hg hh (lit< tt)
          ∙ digits_equal ih (over_digit d g h hd hg hh)
          ∙ sym (outside.step x y z 0 d g h 0 hd hg hh (lit< tt)))

-- ---- A string t that subsumes s is s with some positions made `*`

-- a position stays or becomes `*`
pub wider : (P : Trit → Trit → Type 0) → ((b : Trit) → P b b) → ((b : Trit) → P b t*) → (b c : Trit) → subsumes_digit c b ≡ true
    → P b c
wider P same star t0 t0 h = same t0
wider P same star t1 t0 h = never h
wider P same star t* t0 h = never h
wider P same star t0 t1 h = never h
wider P same star t1 t1 h = same t1
wider P same star t* t1 h = never h
wider P same star b t* h = star b

-- a claim about e, s and t, position by position
pub widened : (P : Trits → Trits → Trits → Type 0) → P [] [] []
    → ((a b c : Trit) (e s t : Trits) → subsumes_digit c b ≡ true → length e ≡ length s → subsumes t s ≡ true → P e s t
    → P (a ∷ e) (b ∷ s) (c ∷ t))
    → (e s t : Trits) → length e ≡ length s → subsumes t s ≡ true → P e s t
unfolding subsumes
widened P nil cons [] [] [] n h = nil
widened P nil cons [] [] (c ∷ t) n h = never h
widened P nil cons [] (b ∷ s) t n h = absurd (suc-ne-zero _ (sym n))
widened P nil cons (a ∷ e) [] t n h = absurd (suc-ne-zero _ n)
widened P nil cons (a ∷ e) (b ∷ s) [] n h = never h
widened P nil cons (a ∷ e) (b ∷ s) (c ∷ t) n h =
    let k = both_true (subsumes_digit c b) (subsumes t s) h in
    cons a b c e s t k.0 (suc_inj n) k.1 (widened P nil cons e s t (suc_inj n) k.1)

-- the positions that e fixes of those that became `*`
abbrev gap : Trits → Trits → Trits → ℕ
gap e s t = bit_and (care_of e) (bit_xor (care_of s) (care_of t))

-- at one position
abbrev gap_digit : Trit → Trit → Trit → ℕ
gap_digit a b c = bit_and (care_bit a) (bit_xor (care_bit b) (care_bit c))

-- there is none, by the first position and the others
gap_cons : (a b c : Trit) (e s t : Trits)
    → eqb (gap (a ∷ e) (b ∷ s) (c ∷ t)) 0 ≡ (eqb (gap_digit a b c) 0 && eqb (gap e s t) 0)
unfolding care_of
gap_cons a b c e s t =
    let opened = bit_xor (care_bit b) (care_bit c) in
    let small = xor_lt 1 (care_bit b) (care_bit c) (care_bit_lt b) (care_bit_lt c) in
    ap (λ (x : ℕ). eqb (bit_and (care_of (a ∷ e)) x) 0)
    (xor_block 1 (care_of s) (care_of t) (care_bit b) (care_bit c) (care_bit_lt b) (care_bit_lt c))
    ∙ ap (λ (x : ℕ). eqb x 0)
    (and_block 1 (care_of e) (bit_xor (care_of s) (care_of t)) (care_bit a) opened (care_bit_lt a) small)
    ∙ eqb_digit (gap e s t) 0 (gap_digit a b c) 0 (and_lt 1 (care_bit a) opened (care_bit_lt a) small) (lit< tt)

-- e subsumes t exactly where it subsumes s and there is none
gap_subsumes : (e s t : Trits) → length e ≡ length s → subsumes t s ≡ true
    → (eqb (gap e s t) 0 && subsumes e s) ≡ subsumes e t
unfolding subsumes
gap_subsumes =
    widened (λ e s t. (eqb (gap e s t) 0 && subsumes e s) ≡ subsumes e t) (unfold care_of in refl)
    (λ a b c e s t k n h ih.
    ap (λ (x : Bool). x && (subsumes_digit a b && subsumes e s)) (gap_cons a b c e s t)
    ∙ and_swap (eqb (gap_digit a b c) 0) (eqb (gap e s t) 0) (subsumes_digit a b) (subsumes e s)
    ∙ ap₂ ◌&&◌ (digit b c k a) ih)
  where
    digit : (b c : Trit) → subsumes_digit c b ≡ true → (a : Trit)
        → (eqb (gap_digit a b c) 0 && subsumes_digit a b) ≡ subsumes_digit a c
    digit =
        wider _ (nine _ refl refl refl refl refl refl refl refl refl) (nine _ refl refl refl refl refl refl refl refl refl)

-- where there is one, e opens nothing of t
gap_shut : (e s t : Trits) → length e ≡ length s → subsumes t s ≡ true → eqb (gap e s t) 0 ≡ false
    → set_word (openings e t) ≡ 0
gap_shut =
    widened (λ e s t. eqb (gap e s t) 0 ≡ false → set_word (openings e t) ≡ 0) (unfold care_of in never')
    (λ a b c e s t k n h ih g.
    step a b c e s t k n h ih (eqb (gap_digit a b c) 0) (subsumes_digit a c) refl refl (sym (gap_cons a b c e s t) ∙ g))
  where
    digit : (b c : Trit) → subsumes_digit c b ≡ true → (a : Trit) → eqb (gap_digit a b c) 0 ≡ false
        → (subsumes_digit a c ≡ false) × ((x : Bool) → head_digit a c x ≡ 0)
    digit = unfold head_digit in
        wider _ (nine _ never' never' never' never' never' never' never' never' never')
        (nine _ (λ h. (refl, λ x. refl)) (λ h. (refl, λ x. refl)) never' (λ h. (refl, λ x. refl)) (λ h. (refl, λ x. refl))
        never' never' never' never')

    step : (a b c : Trit) (e s t : Trits) → subsumes_digit c b ≡ true → length e ≡ length s → subsumes t s ≡ true
        → (eqb (gap e s t) 0 ≡ false → set_word (openings e t) ≡ 0)
        → (d u : Bool) → eqb (gap_digit a b c) 0 ≡ d → subsumes_digit a c ≡ u → (d && eqb (gap e s t) 0) ≡ false
        → set_word (openings (a ∷ e) (c ∷ t)) ≡ 0
    step a b c e s t k n h ih false u d q g =
        let r = digit b c k a d in
        openings_lost a c e t r.0 ∙ rw (r.1 (subsumes e t))
    step a b c e s t k n h ih true true d q g =
        let none : subsumes e t ≡ false = sym (gap_subsumes e s t n h) ∙ rw g in
        openings_kept a c e t q ∙ rw (ih g, none, head_none a c)
    step a b c e s t k n h ih true false d q g =
        let none : subsumes e t ≡ false = sym (gap_subsumes e s t n h) ∙ rw g in
        openings_lost a c e t q ∙ rw (none, head_none a c)

-- where there is none, what asks only for the positions that e fixes is the same of s and t
gap_same : (F : Op) → Digitwise F → ((b a : Trit) → eqb (gap_digit a b t*) 0 ≡ true → on_digit F a t* ≡ on_digit F a b)
    → (e s t : Trits) → length e ≡ length s → subsumes t s ≡ true → eqb (gap e s t) 0 ≡ true → on F e t ≡ on F e s
gap_same F f star =
    widened (λ e s t. eqb (gap e s t) 0 ≡ true → on F e t ≡ on F e s) (λ g. refl)
    (λ a b c e s t k n h ih g.
    let r = both_true (eqb (gap_digit a b c) 0) (eqb (gap e s t) 0) (sym (gap_cons a b c e s t) ∙ g) in
    on_cons F f a c e t
    ∙ digits_equal (ih r.1) (wider (λ b c. (a : Trit) → eqb (gap_digit a b c) 0 ≡ true → on_digit F a c ≡ on_digit F a b)
    (λ b a g. refl) star b c k a r.0)
    ∙ sym (on_cons F f a b e s))

-- ---- An entry that is not near s

-- it lacks of t no fewer positions than of s
lacks_more : (e s t : Trits) → length e ≡ length s → subsumes t s ≡ true → lack_count e s ≤ lack_count e t
unfolding lack_count
lacks_more =
    widened (λ e s t. lack_count e s ≤ lack_count e t) (omega arith)
    (λ a b c e s t k n h ih.
    go (subsumes_digit a b) (subsumes_digit a c) (lack_count e s) (lack_count e t) (digit b c k a) ih)
  where
    digit : (b c : Trit) → subsumes_digit c b ≡ true → (a : Trit) → subsumes_digit a c ≡ true → subsumes_digit a b ≡ true
    digit = wider _ (λ b a h. h) (nine _ never never (λ h. refl) never never (λ h. refl) never never (λ h. refl))

    go : (u v : Bool) (m n : ℕ) → (v ≡ true → u ≡ true) → m ≤ n → cond u m (suc m) ≤ cond v n (suc n)
    go true true m n f h = h
    go true false m n f h = omega arith
    go false true m n f h = never (f refl)
    go false false m n f h = omega arith

-- so it opens nothing of t
pub far_none : (e s t : Trits) → length e ≡ length s → length t ≡ length s → near e s ≡ false → T (subsumes t s)
    → set_word (openings e t) ≡ 0
unfolding near
far_none e s t n m far h =
    sym (open_none e t (n ∙ sym m)
    (omega (arith, ltb-false (lack_count e s) 2 far, lacks_more e s t n (true_of (subsumes t s) h))))

-- ---- The halves of a shade

-- where e can open: where y lacks nothing of it, and where it lacks something
pub opens_all : (e y : ℕ) → lacks_word e y ≡ 0 → bit_xor (fixed_word e) (2 ^ 32 - 1) ≡ opens_word e y
unfolding opens_word
opens_all e y z = rw (eq-eqb (lacks_word e y) 0 z)

pub opens_one : (e y : ℕ) → ¬ (lacks_word e y ≡ 0) → fixed_word (lacks_word e y) ≡ opens_word e y
unfolding opens_word
opens_one e y z = rw (ne_eqb (lacks_word e y) 0 z)

module _ (e y : ℕ) (he : e < 2 ^ 64) (hy : y < 2 ^ 64) where
  -- the bits that lack are a word's
  lacked_lt : lacks_word e y < 2 ^ 64
  unfolding lacks_word
  lacked_lt = xor_lt 64 (bit_and e y) e (and_lt 64 e y he hy) he

  -- where e can open is within a half
  opens_lt : opens_word e y < 2 ^ 32
  unfolding opens_word
  opens_lt = go (eqb (lacks_word e y) 0)
    where
      go : (b : Bool) → cond b (bit_xor (fixed_word e) (2 ^ 32 - 1)) (fixed_word (lacks_word e y)) < 2 ^ 32
      go true = xor_lt 32 (fixed_word e) (2 ^ 32 - 1) (fixed_lt e he) (lit< tt)
      go false = fixed_lt (lacks_word e y) lacked_lt

  -- as `(fixes << 32) | opens` comes into a goal
  pub shade_made : bit_or ((fixed_word e * 2 ^ 32) % 2 ^ 64) (opens_word e y) ≡ shade_word e y
  unfolding shade_word
  shade_made = halves_or (fixed_word e) (opens_word e y) (fixed_lt e he) opens_lt

  -- its halves
  shade_high : high (shade_word e y) ≡ fixed_word e
  unfolding shade_word
  shade_high = pow.high (fixed_word e) 32 opens_lt

  shade_low : low (shade_word e y) ≡ opens_word e y
  unfolding shade_word
  shade_low = pow.low (fixed_word e) 32 opens_lt

-- what is left open of d
left_open : (f d : ℕ) → d < 2 ^ 32 → bit_and (bit_xor f (2 ^ 32 - 1)) d ≡ bit_xor d (bit_and d f)
left_open f d h =
    and_comm (bit_xor f (2 ^ 32 - 1)) d
    ∙ and_over bit_xor xor_of refl 32 d f (2 ^ 32 - 1) h
    ∙ ap (bit_xor (bit_and d f)) (and_mask d 32 ∙ omega arith)
    ∙ xor_comm (bit_and d f) d

-- where e is near y and z lacks of e what y does, the openings of z
opens_near : (e y z : ℕ) → z < 2 ^ 64 → lone (lacks_word e y) ≡ true
    → bit_and (opens_word e y) (fixed_word z) ≡ openings_of (lacks_word e y) e z
unfolding opens_word openings_of
opens_near e y z hz l = rw l (go (eqb (lacks_word e y) 0))
  where
    w : ℕ
    w = lacks_word e y

    go : (b : Bool) → bit_and (cond b (bit_xor (fixed_word e) (2 ^ 32 - 1)) (fixed_word w)) (fixed_word z)
        ≡ cond b (bit_xor (fixed_word z) (bit_and (fixed_word z) (fixed_word e))) (bit_and (fixed_word w) (fixed_word z))
    go true = left_open (fixed_word e) (fixed_word z) (fixed_lt z hz)
    go false = refl

-- f has no bit of "a or b" exactly where it has none of either
apart_or : (f a b : ℕ) → f < 2 ^ 32 → eqb (bit_and f (bit_or a b)) 0 ≡ (eqb (bit_and f a) 0 && eqb (bit_and f b) 0)
apart_or f a b h = ap (λ (x : ℕ). eqb x 0) (and_over bit_or or_of refl 32 f a b h) ∙ or_test (bit_and f a) (bit_and f b)
  where
    or_test : (a b : ℕ) → eqb (bit_or a b) 0 ≡ (eqb a 0 && eqb b 0)
    or_test zero b = ap (λ (x : ℕ). eqb x 0) (or_zero_l b)
    or_test (suc a) b =
        ne_eqb (bit_or (suc a) b) 0 (λ z. omega (arith, or_add_and (suc a) b, and_le_r (suc a) b))
        ∙ ap (λ (x : Bool). x && eqb b 0) (sym (eqb-suc-zero a))

-- ---- What it says of strings

-- e fixes a position that s lacks exactly where it does not subsume s
lacking_test : (e s : Trits) → length e ≡ length s
    → eqb (bit_and (bit_or (zeros_of e) (value_of e)) (bit_or (Z e s) (O e s))) 0 ≡ subsumes e s
unfolding subsumes
lacking_test =
    paired _ (unfold zeros_of value_of in refl)
    (λ t u e s n ih.
    eqb_cons _ _ (and_of _ _ (or_of _ _ zero_l value_l) (or_of _ _ lack_zeros lack_values)) nothing t u e s
    ∙ ap₂ ◌&&◌ (digit t u) ih)
  where
    digit : (t u : Trit)
        → eqb (bit_and (bit_or (zero_bit t) (value_bit t)) (bit_or (bit_xor (bit_and (zero_bit t) (zero_bit u)) (zero_bit t))
        (bit_xor (bit_and (value_bit t) (value_bit u)) (value_bit t)))) 0 ≡ subsumes_digit t u
    digit = nine _ refl refl refl refl refl refl refl refl refl

module _ (e s : Trits) (n : length e ≡ length s) (short : length e ≤ 32) where
  -- nothing lacks exactly where e subsumes s
  lacks_test : eqb (lacks_word (word e) (word s)) 0 ≡ subsumes e s
  unfolding lacks_word subsumes_word
  lacks_test = xor_test (bit_and (word e) (word s)) (word e) ∙ word_subsumes e s n short

  -- a near e that does not subsume s opens what is fixed of the position that s lacks
  pub word_edge : near e s ≡ true → subsumes e s ≡ false
      → bit_and (fixed_word (lacks_word (word e) (word s))) (fixed_word (word s)) ≡ set_word (openings e s)
  unfolding openings_of
  word_edge h d = rw (lacks_test ∙ d, word_near e s n short ∙ h) at (word_openings e s n short)

  -- e can open at a position that it fixes exactly where it does not subsume s
  opens_test : eqb (bit_and (fixed_word (word e)) (opens_word (word e) (word s))) 0 ≡ subsumes e s
  unfolding opens_word
  opens_test = go (eqb w 0) refl
    where
      w : ℕ
      w = lacks_word (word e) (word s)

      f : ℕ
      f = fixed_word (word e)

      small : f < 2 ^ 32
      small = fixed_lt (word e) (word_lt e short)

      go : (b : Bool) → eqb w 0 ≡ b → eqb (bit_and f (cond b (bit_xor f (2 ^ 32 - 1)) (fixed_word w))) 0 ≡ subsumes e s
      go true q =
          eq-eqb _ 0 (and_comm f (bit_xor f (2 ^ 32 - 1)) ∙ left_open f f small ∙ ap (bit_xor f) (and_self f) ∙ xor_self f)
          ∙ sym q ∙ lacks_test
      go false q =
          ap (λ (x : ℕ). eqb x 0) (ap₂ bit_and (care_word e short ∙ sym (cares_or e)) (lacks_fixed e s n short))
          ∙ lacking_test e s n

module _ (e s t : Trits) (n : length e ≡ length s) (m : length t ≡ length s) (short : length s ≤ 32)
    (h : subsumes t s ≡ true) where
  -- e and t are as short
  short_e : length e ≤ 32
  short_e = rw n short

  short_t : length t ≤ 32
  short_t = rw m short

  -- the halves of the shade of e and s
  fixes : high (shade_word (word e) (word s)) ≡ fixed_word (word e)
  fixes = shade_high (word e) (word s) (word_lt e short_e) (word_lt s short)

  opens : low (shade_word (word e) (word s)) ≡ opens_word (word e) (word s)
  opens = shade_low (word e) (word s) (word_lt e short_e) (word_lt s short)

  -- the positions that e fixes of those that became `*`, as the code has them
  shade_gap : bit_and (fixed_word (word e)) (bit_xor (fixed_word (word s)) (fixed_word (word t))) ≡ gap e s t
  shade_gap = ap₂ bit_and (care_word e short_e) (ap₂ bit_xor (care_word s short) (care_word t short_t))

  -- where there is none, t lacks of e what s does
  lacks_same : gap e s t ≡ 0 → lacks_word (word e) (word s) ≡ lacks_word (word e) (word t)
  lacks_same z =
      lacks_halves e s n short_e
      ∙ sym (lacks_halves e t (n ∙ sym m) short_e
      ∙ ap₂ halves (gap_same _ lack_zeros zero_digit e s t n h (eq-eqb (gap e s t) 0 z))
      (gap_same _ lack_values value_digit e s t n h (eq-eqb (gap e s t) 0 z)))
    where
      zero_digit : (b a : Trit) → eqb (gap_digit a b t*) 0 ≡ true
          → bit_xor (bit_and (zero_bit a) 0) (zero_bit a) ≡ bit_xor (bit_and (zero_bit a) (zero_bit b)) (zero_bit a)
      zero_digit = nine _ never never (λ g. refl) never never (λ g. refl) (λ g. refl) (λ g. refl) (λ g. refl)

      value_digit : (b a : Trit) → eqb (gap_digit a b t*) 0 ≡ true
          → bit_xor (bit_and (value_bit a) 0) (value_bit a) ≡ bit_xor (bit_and (value_bit a) (value_bit b)) (value_bit a)
      value_digit = nine _ never never (λ g. refl) never never (λ g. refl) (λ g. refl) (λ g. refl) (λ g. refl)

  -- the openings of t, where there is none and where there is one
  pub shade_open : near e s ≡ true
      → bit_and (high (shade_word (word e) (word s))) (bit_xor (fixed_word (word s)) (fixed_word (word t))) ≡ 0
      → bit_and (low (shade_word (word e) (word s))) (fixed_word (word t)) ≡ set_word (openings e t)
  shade_open near_s z =
      let g : gap e s t ≡ 0 = sym shade_gap ∙ rw fixes at z in
      ap (λ (x : ℕ). bit_and x (fixed_word (word t))) opens
      ∙ opens_near (word e) (word s) (word t) (word_lt t short_t) (word_near e s n short_e ∙ near_s)
      ∙ ap (λ (w : ℕ). openings_of w (word e) (word t)) (lacks_same g)
      ∙ word_openings e t (n ∙ sym m) short_e

  pub shade_shut : ¬ (bit_and (high (shade_word (word e) (word s))) (bit_xor (fixed_word (word s)) (fixed_word (word t))) ≡ 0)
      → 0 ≡ set_word (openings e t)
  shade_shut z = sym (gap_shut e s t n h (ne_eqb (gap e s t) 0 (λ g. z (rw fixes (shade_gap ∙ g)))))

  -- e subsumes t where it fixes neither a position that became `*` nor one where it can open
  pub shade_subsumes : eqb (bit_and (high (shade_word (word e) (word s)))
      (bit_or (bit_xor (fixed_word (word s)) (fixed_word (word t))) (low (shade_word (word e) (word s))))) 0 ≡ subsumes e t
  shade_subsumes =
      rw (fixes, opens)
      (apart_or (fixed_word (word e)) _ (opens_word (word e) (word s)) (fixed_lt (word e) (word_lt e short_e))
      ∙ ap₂ ◌&&◌ (ap (λ (x : ℕ). eqb x 0) shade_gap) (opens_test e s n short_e)
      ∙ gap_subsumes e s t n h)
