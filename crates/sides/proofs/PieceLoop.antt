-- The pieces of one string appended, the lowest position left first, in the shape of the code's loop. Assumes nothing.
use mathlib.Core.Path.{◌≡◌, refl, sym, ap, ap₂, ◌∙◌}
use mathlib.Core.Bool.{Bool, true, false, not, ◌&&◌, ◌||◌, cond}
use mathlib.Core.List.{List, [], ◌∷◌, ◌++◌}
use mathlib.Core.Option.{Option, some, none}
use Prim.Native.Nat.{ℕ, zero, suc, ◌+◌, ◌-◌, ◌*◌, ◌/◌, ◌%◌, ◌^◌, ◌≤◌, ◌<◌}
use native.Mathlib.Nat.{pow-suc}
use native.Mathlib.Omega.{arith}
use borrow.Author.Tests.{eqb-true, eqb-false}
use lib.Bits.{bit_and, bit_xor, and_shr, and_mod, xor_shr, xor_mod, and_le_l}
use lib.Count.{count_trailing_zeros}
use lib.Dec.{eqb}
use lib.ListN.{length, get_or}
use lib.Pow.{high, ones_split, ones_lt, pow_pos}
use Rattle.model.specs.Groups.{Bits}
use Rattle.model.specs.Strings.{Trits, all_zero, fixed, opposed, rising, pieces}
use Rattle.model.specs.Growth.{◌>>=◌, fold, Entries, subsumed, append}
use Rattle.model.specs.Widest.{fresh, append_all}
use Rattle.model.proofs.Given.{fold_append}
use Rattle.words.specs.Words.{care_of, set, set_word}
use Rattle.words.proofs.Codec.{care_lt, set_bit, set_inside, set_length, set_word_set, digit_back, First, trailing_first}
use Rattle.words.proofs.Codec.{empty_none}
use Rattle.words.proofs.Positions.{fixed_bit}
use Rattle.words.proofs.Clearing.{cleared, cleared_length, cleared_word, cleared_first, cleared_other}
use Rattle.tables.proofs.Tests.{both_true}
use Rattle.lists.specs.WorkingLists.{Grown}
use Rattle.lists.specs.WorkingLists.{Count, Full}
use Rattle.lists.specs.WorkingLists.{Holds, Makes, makes}
use Rattle.lists.proofs.Holding.{makes_count, makes_full}
use Rattle.sides.specs.Parts.{append_pieces}
use Rattle.lists.proofs.BindLaws.{then_some}

-- ---- One string appended, and more after it

module _ (κ τ : Entries) where
  -- what is left of two lists is left of each
  fresh_append : (xs ys : List Trits) → fresh κ (xs ++ ys) ≡ fresh κ xs ++ fresh κ ys
  unfolding fresh
  fresh_append [] ys = refl
  fresh_append (z ∷ xs) ys = go (all_zero z || subsumed κ z) (fresh_append xs ys)
    where
      go : (b : Bool) → fresh κ (xs ++ ys) ≡ fresh κ xs ++ fresh κ ys
          → cond b (fresh κ (xs ++ ys)) (z ∷ fresh κ (xs ++ ys)) ≡ cond b (fresh κ xs) (z ∷ fresh κ xs) ++ fresh κ ys
      go true e = e
      go false e = ap (λ (r : List Trits). z ∷ r) e

  -- so the one can be appended after the other
  pub append_fresh_on : (xs ys : List Trits)
      → append_all τ (fresh κ (xs ++ ys)) ≡ (append_all τ (fresh κ xs) >>= λ ρ. append_all ρ (fresh κ ys))
  unfolding append_all
  append_fresh_on xs ys = rw (fresh_append xs ys) (fold_append append τ (fresh κ xs) (fresh κ ys))

  module _ (z : Trits) where
    -- an all-zero string is left out
    pub fresh_zero : all_zero z ≡ true → append_all τ (fresh κ (z ∷ [])) ≡ some τ
    unfolding append_all fold fresh
    fresh_zero e = rw e

    module _ (n : all_zero z ≡ false) where
      -- so is one that an entry of κ subsumes
      pub fresh_subsumed : subsumed κ z ≡ true → append_all τ (fresh κ (z ∷ [])) ≡ some τ
      unfolding append_all fold fresh
      fresh_subsumed e = rw (n, e)

      -- any other is appended
      pub fresh_new : subsumed κ z ≡ false → append_all τ (fresh κ (z ∷ [])) ≡ append τ z
      unfolding append_all fold fresh
      fresh_new e = rw (n, e) (then_some (append τ z))

-- ---- The open positions

-- bit i of the care word
care_digit : (i : ℕ) (s : Trits) → care_of s / 2 ^ i % 2 ≡ cond (fixed i s) 1 0
care_digit i s = sym (digit_back _ (omega arith)) ∙ ap (λ (b : Bool). cond b 1 0) (fixed_bit i s)

-- each of 32 bits is 1
full_digit : (i : ℕ) → i < 32 → 4294967295 / 2 ^ i % 2 ≡ 1
full_digit i lt =
    let j = 31 - i in
    let e : suc j + i ≡ 32 = omega arith in
    let is : 2 ^ 32 - 1 ≡ (2 ^ suc j - 1) * 2 ^ i + (2 ^ i - 1) = rw e at (ones_split (suc j) i) in
    let odd : (2 ^ suc j - 1) % 2 ≡ 1 = omega (arith, pow-suc 2 j, pow_pos j) in
    ap (λ (x : ℕ). x / 2 ^ i % 2) is ∙ ap (λ (x : ℕ). x % 2) (high (2 ^ suc j - 1) i (ones_lt i)) ∙ odd

-- the positions that a piece is made at, as bits: t is fixed there and s is not
open_bit : (s t : Trits) (i : ℕ) → i < 32
    → eqb (bit_and (care_of t) (bit_xor (care_of s) 4294967295) / 2 ^ i % 2) 1 ≡ (not (fixed i s) && fixed i t)
open_bit s t i lt =
    ap (λ (x : ℕ). eqb (x % 2) 1) (and_shr (care_of t) (bit_xor (care_of s) 4294967295) i)
    ∙ ap (λ (x : ℕ). eqb x 1) (and_mod (care_of t / 2 ^ i) (bit_xor (care_of s) 4294967295 / 2 ^ i) 1)
    ∙ ap₂ (λ (x y : ℕ). eqb (bit_and x y) 1) (care_digit i t)
    (ap (λ (x : ℕ). x % 2) (xor_shr (care_of s) 4294967295 i) ∙ xor_mod (care_of s / 2 ^ i) (4294967295 / 2 ^ i) 1
    ∙ ap₂ bit_xor (care_digit i s) (full_digit i lt))
    ∙ both (fixed i s) (fixed i t)
  where
    both : (a b : Bool) → eqb (bit_and (cond b 1 0) (bit_xor (cond a 1 0) 1)) 1 ≡ (not a && b)
    both true true = refl
    both true false = refl
    both false true = refl
    both false false = refl

-- ---- Positions rising

module _ {A : Type 0} (p q : ℕ → Bool) (f : ℕ → A) where
  -- tests that agree choose alike
  rising_same : (a n : ℕ) → ((m : ℕ) → a ≤ m → m < a + n → p m ≡ q m) → rising p f a n ≡ rising q f a n
  unfolding rising
  rising_same a zero e = refl
  rising_same a (suc n) e =
      rw (e a (omega arith) (omega arith), rising_same (suc a) n (λ m b c. e m (omega arith) (omega arith)))

  -- the first position is in front, and the others are those of the test without it
  rising_first : (i a n : ℕ) → a ≤ i → i < a + n → p i ≡ true → q i ≡ false → ((m : ℕ) → m < i → p m ≡ false)
      → ((m : ℕ) → ¬ (m ≡ i) → q m ≡ p m) → rising p f a n ≡ f i ∷ rising q f a n
  unfolding rising
  rising_first i a zero le lt here gone before other = absurd (omega arith)
  rising_first i a (suc n) le lt here gone before other =
      go (eqb a i) refl (λ b. rising_first i (suc a) n b (omega arith) here gone before other)
    where
      go : (b : Bool) → eqb a i ≡ b → (suc a ≤ i → rising p f (suc a) n ≡ f i ∷ rising q f (suc a) n)
          → rising p f a (suc n) ≡ f i ∷ rising q f a (suc n)
      go true e next =
          let is = eqb-true a i e in
          rw (is, here, gone)
          (ap (λ (r : List A). f i ∷ r) (rising_same (suc i) n (λ m b c. sym (other m (λ k. absurd (omega (arith, k)))))))
      go false e next =
          let not_i = eqb-false a i e in
          let early = before a (omega (arith, not_i)) in
          rw (early, other a not_i ∙ early) (next (omega (arith, not_i)))

-- no position
rising_none : {A : Type 0} (p : ℕ → Bool) (f : ℕ → A) (a n : ℕ) → ((m : ℕ) → p m ≡ false) → rising p f a n ≡ []
unfolding rising
rising_none p f a zero e = refl
rising_none p f a (suc n) e = rw (e a) (rising_none p f (suc a) n e)

-- ---- The loop

-- The array holds a list; with the pieces at the positions left, whose word is `left`, it becomes the whole. Each of them is
-- one where s is `*` and t is fixed.
pub record PiecesSoFar (l : ℕ) (κ : Entries) (s t : Trits) (whole : Option Entries) (list : List ℕ) (k left : ℕ)
    : Type 0 where
  pub now : Entries
  pub held : Holds l list k now
  pub places : Bits
  pub long : length places ≡ l
  pub is : left ≡ set_word places
  pub inside : (j : ℕ) → j < l → get_or places j false ≡ true → (not (fixed j s) && fixed j t) ≡ true
  pub rest : append_all now (fresh κ (rising (λ j. get_or places j false) (λ j. opposed j t s) 0 l)) ≡ whole

-- all positions are left
pub pieces_start : {l : ℕ} (κ : Entries) (s t : Trits) {list : List ℕ} {n : ℕ} {τ : Entries} → Holds l list n τ
    → length s ≡ l → length t ≡ l
    → PiecesSoFar l κ s t (append_pieces κ t τ s) list n (bit_and (care_of t) (bit_xor (care_of s) 4294967295))
unfolding append_pieces pieces
pieces_start {l = l} κ s t {τ = τ} h d e = record {
  now = τ;
  held = h;
  places = set l left;
  long = set_length l left;
  is = sym back;
  inside = λ j lt g. sym (at j lt) ∙ g;
  rest =
      rw d (ap (λ (r : List Trits). append_all τ (fresh κ r))
      (rising_same _ _ (λ j. opposed j t s) 0 l (λ m a b. at m (omega arith))));
}
  where
    left : ℕ
    left = bit_and (care_of t) (bit_xor (care_of s) 4294967295)

    back : set_word (set l left) ≡ left
    back = set_word_set l left (omega (arith, and_le_l (care_of t) (bit_xor (care_of s) 4294967295), (rw e at (care_lt t))))

    at : (j : ℕ) → j < l → get_or (set l left) j false ≡ (not (fixed j s) && fixed j t)
    at j lt = sym (set_bit (set l left) j) ∙ rw back (open_bit s t j (omega (arith, h.short)))

module _ {l : ℕ} {κ : Entries} {s t : Trits} {whole : Option Entries} {list : List ℕ} {k left : ℕ}
    (w : PiecesSoFar l κ s t whole list k left) where
  -- no position is left
  pub pieces_end : left ≡ 0 → Makes l list (Count k) whole
  unfolding append_all fold fresh
  pieces_end z =
      let none_left = rising_none (λ j. get_or w.places j false) (λ j. opposed j t s) 0 l
      (empty_none w.places (sym w.is ∙ z)) in
      let e = rw none_left at w.rest in
      rw (← e) (makes w.held)

  module _ (small : left < 2 ^ 64) (some_left : ¬ (left ≡ 0)) where
    -- the lowest position left
    abbrev i : ℕ
    i = count_trailing_zeros 64 left

    first : First w.places i
    first = let e = w.is in rw e (trailing_first 64 w.places (rw (← e) small) (λ z. some_left (e ∙ z)))

    -- it is one of the l
    pieces_below : i < l
    pieces_below = omega (arith, set_inside w.places i first.here, w.long)

    -- s is `*` there and t is fixed
    pub pieces_open : (not (fixed i s) ≡ true) × (fixed i t ≡ true)
    pieces_open = both_true _ _ (w.inside i pieces_below first.here)

    -- what is left from it on
    rest_first : (append_all w.now (fresh κ (opposed i t s ∷ []))
        >>= λ ρ. append_all ρ (fresh κ (rising (λ j. get_or (cleared w.places) j false) (λ j. opposed j t s) 0 l))) ≡ whole
    rest_first =
        sym (append_fresh_on κ w.now (opposed i t s ∷ []) _)
        ∙ ap (λ (r : List Trits). append_all w.now (fresh κ r))
        (sym (rising_first _ _ (λ j. opposed j t s) i 0 l (omega arith) (omega (arith, pieces_below)) first.here
        (cleared_first w.places i first) first.none (cleared_other w.places i first)))
        ∙ w.rest

    module _ {list' : List ℕ} {r : Grown} (made : Makes l list' r (append_all w.now (fresh κ (opposed i t s ∷ [])))) where
      -- its piece is appended or left out
      pub pieces_step : {m : ℕ} → r ≡ Count m → PiecesSoFar l κ s t whole list' m (bit_and left (left - 1))
      unfolding ◌>>=◌
      pieces_step e =
          let got = makes_count made e in
          record {
            now = got.0;
            held = got.2;
            places = cleared w.places;
            long = cleared_length w.places ∙ w.long;
            is = rw w.is (cleared_word w.places);
            inside = λ j lt g. w.inside j lt (kept j g);
            rest = rw got.1 at rest_first;
          }
        where
          kept : (j : ℕ) → get_or (cleared w.places) j false ≡ true → get_or w.places j false ≡ true
          kept j g = go (eqb j i) refl
            where
              go : (b : Bool) → eqb j i ≡ b → get_or w.places j false ≡ true
              go true e = rw (eqb-true j i e) first.here
              go false e = sym (cleared_other w.places i first j (eqb-false j i e)) ∙ g

      -- there is no room for it
      pub pieces_stop : r ≡ Full → whole ≡ none
      unfolding ◌>>=◌
      pieces_stop e = sym (rw (makes_full made e) at rest_first)
