-- The words of a string and the string of two words are each other's inverse; so are sets and their words. Assumes nothing.
use Rattle.std.proofs.Common.{◌≡◌, ℕ, zero, suc, ◌+◌, ◌-◌, ◌*◌, ◌/◌, ◌%◌, ◌^◌, ◌<◌, Bool, true, false, cond, not, ◌&&◌, ◌||◌, eqb, List, [], ◌∷◌, map, length, get_or, drop, sym, refl, ap, ◌∙◌, ap₂, suc-le-suc, zero-le, le_of_suc-le-suc, not-suc-le-zero, pow-suc, div-add-mod', div-one, arith, lit<, pow_pos, shr-shr, ne_eqb}
use mathlib.Core.Bool.{false≢true}
use native.Mathlib.Nat.{zero-div}
use lib.Arith.{digits_div, digits_mod}
use lib.Bits.{bit_and, bit_or, and_block, or_block, and_shr, and_mod, and_zero_l, and_zero_r, or_zero_l, or_zero_r}
use lib.Count.{count_trailing_zeros}
use Rattle.model.specs.Groups.{Bits, nonzero, meets, or}
use Rattle.model.specs.Strings.{Trit, t0, t1, t*, Trits, exactly, stars}
use Rattle.model.proofs.Given.{Each}
use Rattle.words.specs.declared.Entry.{Entry}
use Rattle.words.specs.Words.{care_bit, value_bit, care_of, value_of, entry, set_word, trit_of, string, set, Encodes}
use Rattle.words.proofs.Digits.{care_bit_lt, value_bit_lt, eqb_digit}

-- ---- From a string and back

trit_of_bits : (t : Trit) → trit_of (care_bit t) (value_bit t) ≡ t
trit_of_bits t0 = refl
trit_of_bits t1 = refl
trit_of_bits t* = refl

pub string_entry : (s : Trits) → string (length s) (entry s) ≡ s
unfolding string care_of value_of
string_entry [] = refl
string_entry (t ∷ s) =
    ap₂ {C = Trits} (λ b r. b ∷ r)
    (ap₂ trit_of (digits_mod (care_of s) (care_bit_lt t)) (digits_mod (value_of s) (value_bit_lt t)) ∙ trit_of_bits t)
    (ap (string (length s)) (λ i. record {
      care = digits_div (care_of s) (care_bit_lt t) i;
      value = digits_div (value_of s)
          (value_bit_lt t) i;
    })
    ∙ string_entry s)

pub string_length : (l : ℕ) (e : Entry) → length (string l e) ≡ l
unfolding string
string_length zero e = refl
string_length (suc l) e = ap suc (string_length l _)

-- a position of the string of two words, of their bits
pub string_at : (l i : ℕ) (e : Entry) → i < l → get_or (string l e) i t* ≡ trit_of (e.care / 2 ^ i % 2) (e.value / 2 ^ i % 2)
unfolding string
string_at zero i e lt = absurd (omega arith)
string_at (suc l) zero e lt = rw (div-one e.care, div-one e.value)
string_at (suc l) (suc i) e lt =
    string_at l i (record { care = e.care / 2; value = e.value / 2 }) (omega arith)
    ∙ ap₂ (λ (c v : ℕ). trit_of (c % 2) (v % 2)) (halved e.care) (halved e.value)
  where
    halved : (w : ℕ) → w / 2 / 2 ^ i ≡ w / 2 ^ suc i
    halved w = shr-shr w 1 i ∙ ap (λ (k : ℕ). w / 2 ^ k) (omega arith)

pub string_of_entry : (l : ℕ) (e : Entry) (s : Trits) → length s ≡ l → e ≡ entry s → string l e ≡ s
string_of_entry l e s n d = rw (← n, d) (string_entry s)

pub care_lt : (s : Trits) → care_of s < 2 ^ length s
unfolding care_of
care_lt [] = lit< tt
care_lt (t ∷ s) = omega (arith, care_lt s, care_bit_lt t, pow-suc 2 (length s))

pub value_lt : (s : Trits) → value_of s < 2 ^ length s
unfolding value_of
value_lt [] = lit< tt
value_lt (t ∷ s) = omega (arith, value_lt s, value_bit_lt t, pow-suc 2 (length s))

pub value_bit_in : (t : Trit) → bit_and (value_bit t) (care_bit t) ≡ value_bit t
value_bit_in t0 = refl
value_bit_in t1 = refl
value_bit_in t* = refl

-- no value without care
pub value_in : (s : Trits) → bit_and (value_of s) (care_of s) ≡ value_of s
unfolding care_of value_of
value_in [] = refl
value_in (t ∷ s) =
    and_block 1 (value_of s) (care_of s) (value_bit t) (care_bit t) (value_bit_lt t) (care_bit_lt t)
    ∙ ap₂ (λ (x y : ℕ). x * 2 + y) (value_in s) (value_bit_in t)

-- ---- From words and back

care_digit : (c v : ℕ) → c < 2 → care_bit (trit_of c v) ≡ c
care_digit zero v h = refl
care_digit (suc zero) zero h = refl
care_digit (suc zero) (suc v) h = refl
care_digit (suc (suc c)) v h = absurd (omega arith)

value_digit : (c v : ℕ) → v < 2 → bit_and v c ≡ v → value_bit (trit_of c v) ≡ v
value_digit zero v h k = sym (and_zero_r v) ∙ k
value_digit (suc c) zero h k = refl
value_digit (suc c) (suc zero) h k = refl
value_digit (suc c) (suc (suc v)) h k = absurd (omega arith)

care_string : (l : ℕ) (e : Entry) → e.care < 2 ^ l → care_of (string l e) ≡ e.care
unfolding string care_of
care_string zero e h = omega arith
care_string (suc l) e h =
    ap₂ (λ (x y : ℕ). x * 2 + y)
    (care_string l (record { care = e.care / 2; value = e.value / 2 }) (omega (arith, pow-suc 2 l)))
    (care_digit (e.care % 2) (e.value % 2) (omega arith))
    ∙ div-add-mod' e.care 2

value_string : (l : ℕ) (e : Entry) → e.value < 2 ^ l → bit_and e.value e.care ≡ e.value → value_of (string l e) ≡ e.value
unfolding string value_of
value_string zero e h k = omega arith
value_string (suc l) e h k =
    ap₂ (λ (x y : ℕ). x * 2 + y)
    (value_string l (record { care = e.care / 2; value = e.value / 2 }) (omega (arith, pow-suc 2 l))
    (sym (and_shr e.value e.care 1) ∙ ap (λ (x : ℕ). x / 2) k))
    (value_digit (e.care % 2) (e.value % 2) (omega arith) (sym (and_mod e.value e.care 1) ∙ ap (λ (x : ℕ). x % 2) k))
    ∙ div-add-mod' e.value 2

-- Two words encode a string of l positions exactly when no bit is above l and no value without care.
pub clean_encodes : (l : ℕ) (e : Entry) → e.care < 2 ^ l → e.value < 2 ^ l → bit_and e.value e.care ≡ e.value
    → Encodes l e
clean_encodes l e h k n = λ i. record { care = sym (care_string l e h) i; value = sym (value_string l e k n) i }

-- ---- Sets

pub bit_lt : (b : Bool) → cond b 1 0 < 2
bit_lt true = lit< tt
bit_lt false = lit< tt

pub bit_back : (b : Bool) → eqb (cond b 1 0) 1 ≡ b
bit_back true = refl
bit_back false = refl

pub set_set_word : (g : Bits) → set (length g) (set_word g) ≡ g
unfolding set set_word
set_set_word [] = refl
set_set_word (b ∷ g) =
    ap₂ {C = Bits} (λ c r. c ∷ r)
    (ap (λ (x : ℕ). eqb x 1) (digits_mod (set_word g) (bit_lt b)) ∙ bit_back b)
    (ap (set (length g)) (digits_div (set_word g) (bit_lt b)) ∙ set_set_word g)

pub set_length : (l w : ℕ) → length (set l w) ≡ l
unfolding set
set_length zero w = refl
set_length (suc l) w = ap suc (set_length l (w / 2))

-- The sets of a row of words have l positions each.
pub sets_long : (l : ℕ) (ws : List ℕ) → Each (λ (g : Bits). length g ≡ l) (map (set l) ws)
unfolding Each
sets_long l [] = tt
sets_long l (w ∷ ws) = (set_length l w, sets_long l ws)

pub digit_back : (d : ℕ) → d < 2 → cond (eqb d 1) 1 0 ≡ d
digit_back zero h = refl
digit_back (suc zero) h = refl
digit_back (suc (suc d)) h = absurd (omega arith)

pub set_word_set : (l w : ℕ) → w < 2 ^ l → set_word (set l w) ≡ w
unfolding set set_word
set_word_set zero w h = omega arith
set_word_set (suc l) w h =
    ap₂ (λ (x y : ℕ). x * 2 + y) (set_word_set l (w / 2) (omega (arith, pow-suc 2 l))) (digit_back (w % 2) (omega arith))
    ∙ div-add-mod' w 2

one_bit_or : (a b : Bool) → bit_or (cond a 1 0) (cond b 1 0) ≡ cond (a || b) 1 0
one_bit_or true true = refl
one_bit_or true false = refl
one_bit_or false true = refl
one_bit_or false false = refl

-- the word of the "or" of two sets
pub set_word_or : (g h : Bits) → set_word (or g h) ≡ bit_or (set_word g) (set_word h)
unfolding or set_word
set_word_or [] h = sym (or_zero_l (set_word h))
set_word_or (a ∷ g) [] = sym (or_zero_r (set_word (a ∷ g)))
set_word_or (a ∷ g) (b ∷ h) =
    sym (or_block 1 (set_word g) (set_word h) (cond a 1 0) (cond b 1 0) (bit_lt a) (bit_lt b)
    ∙ ap₂ (λ (x y : ℕ). x * 2 + y) (sym (set_word_or g h)) (one_bit_or a b))

-- a word shifted down loses the first positions of its set
pub set_word_drop : (i : ℕ) (g : Bits) → set_word g / 2 ^ i ≡ set_word (drop i g)
unfolding set_word
set_word_drop zero g = div-one (set_word g)
set_word_drop (suc i) [] = zero-div (2 ^ suc i)
set_word_drop (suc i) (b ∷ g) =
    sym (shr-shr (set_word (b ∷ g)) 1 i ∙ ap (λ (k : ℕ). set_word (b ∷ g) / 2 ^ k) (omega arith))
    ∙ ap (λ (x : ℕ). x / 2 ^ i) (digits_div (set_word g) (bit_lt b))
    ∙ set_word_drop i g

digit_at : (k : Bits) (i : ℕ) → eqb (set_word (drop i k) % 2) 1 ≡ get_or k i false
unfolding set_word
digit_at [] zero = refl
digit_at [] (suc i) = refl
digit_at (b ∷ k) zero = ap (λ (x : ℕ). eqb x 1) (digits_mod (set_word k) (bit_lt b)) ∙ bit_back b
digit_at (b ∷ k) (suc i) = digit_at k i

-- a position of a set is a bit of its word
pub set_bit : (k : Bits) (i : ℕ) → eqb (set_word k / 2 ^ i % 2) 1 ≡ get_or k i false
set_bit k i = ap (λ (x : ℕ). eqb (x % 2) 1) (set_word_drop i k) ∙ digit_at k i

-- a position of a set lies within it
pub set_inside : (k : Bits) (i : ℕ) → get_or k i false ≡ true → i < length k
set_inside [] i h = absurd (false≢true h)
set_inside (b ∷ k) zero h = suc-le-suc zero-le
set_inside (b ∷ k) (suc i) h = suc-le-suc (set_inside k i h)

-- a word is 0 exactly where its set is empty
pub nonzero_word : (g : Bits) → nonzero g ≡ not (eqb (set_word g) 0)
unfolding nonzero set_word
nonzero_word [] = refl
nonzero_word (true ∷ g) = sym (ap not (ne_eqb (set_word g * 2 + 1) 0 (λ e. omega arith)))
nonzero_word (false ∷ g) = nonzero_word g ∙ sym (ap not (eqb_digit (set_word g) 0 0 0 (lit< tt) (lit< tt)))

-- two words have no bit in common exactly where their sets do not meet
pub apart_words : (g h : Bits) → eqb (bit_and (set_word g) (set_word h)) 0 ≡ not (meets g h)
unfolding meets set_word
apart_words [] h = ap (λ (n : ℕ). eqb n 0) (and_zero_l (set_word h))
apart_words (a ∷ g) [] = ap (λ (n : ℕ). eqb n 0) (and_zero_r (set_word (a ∷ g)))
apart_words (a ∷ g) (b ∷ h) =
    ap (λ (n : ℕ). eqb n 0) (and_block 1 (set_word g) (set_word h) (cond a 1 0) (cond b 1 0) (bit_lt a) (bit_lt b))
    ∙ go a b (eqb_digit rest 0 0 0 (lit< tt) (lit< tt) ∙ apart_words g h)
  where
    rest : ℕ
    rest = bit_and (set_word g) (set_word h)

    go : (a b : Bool) → eqb (rest * 2 + 0) 0 ≡ not (meets g h)
        → eqb (rest * 2 + bit_and (cond a 1 0) (cond b 1 0)) 0 ≡ not (a && b || meets g h)
    go true true e = ne_eqb (rest * 2 + 1) 0 (λ z. omega arith)
    go true false e = e
    go false b e = ap (λ (n : ℕ). eqb (rest * 2 + n) 0) (and_zero_l (cond b 1 0)) ∙ e

care_exactly : (g : Bits) → care_of (exactly g) ≡ 2 ^ length g - 1
unfolding exactly care_of
care_exactly [] = refl
care_exactly (true ∷ g) = rw (care_exactly g) (omega (arith, pow-suc 2 (length g), pow_pos (length g)))
care_exactly (false ∷ g) = rw (care_exactly g) (omega (arith, pow-suc 2 (length g), pow_pos (length g)))

value_exactly : (g : Bits) → value_of (exactly g) ≡ set_word g
unfolding exactly value_of set_word
value_exactly [] = refl
value_exactly (true ∷ g) = rw (value_exactly g)
value_exactly (false ∷ g) = rw (value_exactly g)

-- the words of the string that covers one string of 0 and 1: all positions fixed
pub exactly_entry : (g : Bits) → entry (exactly g) ≡ record { care = 2 ^ length g - 1; value = set_word g }
exactly_entry g = λ i. record { care = care_exactly g i; value = value_exactly g i }

-- all l bits of care with the word of a group are the words of the string that covers just that group
pub group_entry : (g : Bits) (full w l : ℕ) → length g ≡ l → full ≡ 2 ^ l - 1 → w ≡ set_word g
    → record { care = full; value = w } ≡ entry (exactly g)
group_entry g full w l e f is = rw (f, is, ← e) (sym (exactly_entry g))

-- ---- The first position of a set

-- t is the first position of the set
pub record First (g : Bits) (t : ℕ) : Type 0 where
  pub here : get_or g t false ≡ true
  pub none : (m : ℕ) → m < t → get_or g m false ≡ false

first_later : (g : Bits) (t : ℕ) → First g t → First (false ∷ g) (suc t)
first_later g t f = record { here = f.here; none = before }
  where
    before : (m : ℕ) → m < suc t → get_or (false ∷ g) m false ≡ false
    before zero h = refl
    before (suc m) h = f.none m (le_of_suc-le-suc h)

pub trailing_first : (k : ℕ) (g : Bits) → set_word g < 2 ^ k → ¬ (set_word g ≡ 0) → First g (count_trailing_zeros k (set_word g))
unfolding count_trailing_zeros set_word
trailing_first zero g h z = absurd (z (omega arith))
trailing_first (suc k) [] h z = absurd (z refl)
trailing_first (suc k) (true ∷ g) h z =
    rw (digits_mod (set_word g) {r = 1} (lit< tt)) (record { here = refl; none = λ m l. absurd (not-suc-le-zero l) })
trailing_first (suc k) (false ∷ g) h z =
    rw (digits_mod (set_word g) {r = 0} (lit< tt), digits_div (set_word g) {r = 0} (lit< tt))
    (first_later g _ (trailing_first k g (omega (arith, pow-suc 2 k)) (λ e. z (rw e))))

-- an empty set has no position
pub empty_none : (g : Bits) → set_word g ≡ 0 → (m : ℕ) → get_or g m false ≡ false
unfolding set_word
empty_none [] e m = refl
empty_none (true ∷ g) e m = absurd (omega arith)
empty_none (false ∷ g) e zero = refl
empty_none (false ∷ g) e (suc m) = empty_none g (omega arith) m

-- ---- The string of `*`

care_stars : (l : ℕ) → care_of (stars l) ≡ 0
unfolding stars care_of
care_stars zero = refl
care_stars (suc l) = rw (care_stars l)

pub value_stars : (l : ℕ) → value_of (stars l) ≡ 0
unfolding stars value_of
value_stars zero = refl
value_stars (suc l) = rw (value_stars l)

pub stars_entry : (l : ℕ) → entry (stars l) ≡ record { care = 0; value = 0 }
stars_entry l = λ i. record { care = care_stars l i; value = value_stars l i }
