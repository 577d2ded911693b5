-- A row with a string for each position of a set, the lowest position left first, in the shape of the code's loop; and the
-- set at whose positions an entry meets the strings with one 1. Assumes nothing.
use mathlib.Core.Path.{◌≡◌, refl, sym, ap, ◌∙◌}
use mathlib.Core.Bool.{Bool, true, false, false≢true, not, ◌&&◌, cond}
use mathlib.Core.List.{List, [], ◌∷◌}
use Prim.Native.Nat.{ℕ, zero, suc, ◌+◌, ◌-◌, ◌*◌, ◌/◌, ◌^◌, ◌≤◌, ◌<◌}
use native.Mathlib.Nat.{suc_inj, suc-ne-zero}
use native.Mathlib.Omega.{arith}
use borrow.Author.Tests.{eqb-true, eqb-false, ltb-true, ltb-false}
use lib.Bits.{bit_and, bit_xor, and_block, and_lt, xor_block, and_zero_l, xor_zero_l}
use lib.Count.{ones as ones_in_lem, ones_cat, count_trailing_zeros}
use lib.Dec.{eqb, ltb}
use lib.ListN.{length, get_or, set}
use Rattle.model.specs.Groups.{Bits}
use Rattle.model.specs.Strings.{Trit, t0, t1, t*, Trits, zero_digit, matches, meet, stars, one_at, rising, ones}
use Rattle.model.specs.Growth.{limit}
use Rattle.model.specs.Tables.{meet_if, meets_with}
use Rattle.words.specs.Words.{zero_bit, zeros_of, word, set as set_of, set_word}
use Rattle.words.proofs.Clearing.{cleared, cleared_word, cleared_first, cleared_other}
use Rattle.words.proofs.Codec.{bit_lt, First, trailing_first, empty_none, set_inside, set_word_set}
use Rattle.words.proofs.Digits.{zero_bit_lt, digits_equal}
use Rattle.words.proofs.Halves.{high_word}
use Rattle.lists.specs.WorkingLists.{Holds}
use Rattle.lists.proofs.RowLoops.{RowSoFar, row_start, row_add, row_skip, row_end}

-- ---- Where a string meets the strings with one 1

-- the positions of a set where a string has no 0
unfoldable pub meeting : Bits → Trits → Bits
meeting [] s = []
meeting (a ∷ k) [] = []
meeting (a ∷ k) (t ∷ s) = (a && not (zero_digit t)) ∷ meeting k s

-- it is of as many variables
pub meeting_length : (k : Bits) (s : Trits) → length k ≡ length s → length (meeting k s) ≡ length s
unfolding meeting
meeting_length [] s e = e
meeting_length (a ∷ k) [] e = absurd (suc-ne-zero _ e)
meeting_length (a ∷ k) (t ∷ s) e = ap suc (meeting_length k s (suc_inj e))

-- its word
meeting_word : (k : Bits) (s : Trits) → length k ≡ length s
    → bit_xor (set_word k) (bit_and (set_word k) (zeros_of s)) ≡ set_word (meeting k s)
unfolding meeting set_word zeros_of
meeting_word [] s e = ap (bit_xor 0) (and_zero_l (zeros_of s)) ∙ xor_zero_l 0
meeting_word (a ∷ k) [] e = absurd (suc-ne-zero _ e)
meeting_word (a ∷ k) (t ∷ s) e =
    ap (bit_xor (set_word k * 2 + cond a 1 0))
    (and_block 1 (set_word k) (zeros_of s) (cond a 1 0) (zero_bit t) (bit_lt a) (zero_bit_lt t))
    ∙ xor_block 1 (set_word k) (bit_and (set_word k) (zeros_of s)) (cond a 1 0) (bit_and (cond a 1 0) (zero_bit t)) (bit_lt a)
    (and_lt 1 (cond a 1 0) (zero_bit t) (bit_lt a) (zero_bit_lt t))
    ∙ digits_equal (meeting_word k s (suc_inj e)) (digit a t)
  where
    digit : (a : Bool) (t : Trit)
        → bit_xor (cond a 1 0) (bit_and (cond a 1 0) (zero_bit t)) ≡ cond (a && not (zero_digit t)) 1 0
    digit true t0 = refl
    digit true t1 = refl
    digit true t* = refl
    digit false t0 = refl
    digit false t1 = refl
    digit false t* = refl

-- a string matches the string of `*`
stars_match : (s : Trits) → matches s (stars (length s)) ≡ true
unfolding matches stars
stars_match [] = refl
stars_match (t0 ∷ s) = stars_match s
stars_match (t1 ∷ s) = stars_match s
stars_match (t* ∷ s) = stars_match s

-- so the positions of `meeting` are those of the set at which it matches the string with 1 there
pub meeting_at : (k : Bits) (s : Trits) (j : ℕ) → length k ≡ length s
    → (get_or k j false && matches s (one_at (length s) j)) ≡ get_or (meeting k s) j false
unfolding meeting matches one_at
meeting_at [] s j e = refl
meeting_at (a ∷ k) [] j e = absurd (suc-ne-zero _ e)
meeting_at (a ∷ k) (t0 ∷ s) zero e = refl
meeting_at (a ∷ k) (t1 ∷ s) zero e = ap (λ (b : Bool). a && b) (stars_match s)
meeting_at (a ∷ k) (t* ∷ s) zero e = ap (λ (b : Bool). a && b) (stars_match s)
meeting_at (a ∷ k) (t0 ∷ s) (suc j) e = meeting_at k s j (suc_inj e)
meeting_at (a ∷ k) (t1 ∷ s) (suc j) e = meeting_at k s j (suc_inj e)
meeting_at (a ∷ k) (t* ∷ s) (suc j) e = meeting_at k s j (suc_inj e)

-- the meets with strings for positions rising
meets_rising : (s : Trits) (p : ℕ → Bool) (f : ℕ → Trits) (i n : ℕ)
    → meets_with s (rising p f i n) ≡ rising (λ j. p j && matches s (f j)) (λ j. meet s (f j)) i n
unfolding meets_with meet_if rising
meets_rising s p f i zero = refl
meets_rising s p f i (suc n) = go (p i) (matches s (f i)) refl (meets_rising s p f (suc i) n)
  where
    rest : List Trits
    rest = rising p f (suc i) n

    go : (a b : Bool) → matches s (f i) ≡ b → {r : List Trits} → meets_with s rest ≡ r
        → meets_with s (cond a (f i ∷ rest) rest) ≡ cond (a && b) (meet s (f i) ∷ r) r
    go true true m e = rw m (ap (λ (r : List Trits). meet s (f i) ∷ r) e)
    go true false m e = rw m e
    go false b m e = e

-- the meets with the strings that have one 1, at the positions of the set
pub meeting_meets : (k : Bits) (s : Trits) → length k ≡ length s
    → meets_with s (ones k) ≡ rising (λ j. get_or (meeting k s) j false) (λ j. meet s (one_at (length s) j)) 0 (length s)
unfolding ones
meeting_meets k s e =
    rw e (meets_rising s (λ j. get_or k j false) (one_at (length s)) 0 (length s)
    ∙ λ i. rising (λ j. meeting_at k s j e i) (λ j. meet s (one_at (length s) j)) 0 (length s))

-- ---- One bit less

-- a word has one bit more than without its lowest
pub ones_cleared : (w : ℕ) → w < 2 ^ 32 → ¬ (w ≡ 0) → ones_in_lem (bit_and w (w - 1)) + 1 ≡ ones_in_lem w
unfolding set_word cleared ones_in_lem
ones_cleared w lt z =
    let e = set_word_set 32 w lt in
    rw e at (ap (λ (x : ℕ). ones_in_lem x + 1) (cleared_word (set_of 32 w)) ∙ go (set_of 32 w) (λ n. z (sym e ∙ n)))
  where
    go : (g : Bits) → ¬ (set_word g ≡ 0) → ones_in_lem (set_word (cleared g)) + 1 ≡ ones_in_lem (set_word g)
    go [] n = absurd (n refl)
    go (true ∷ g) n = omega (arith, ones_cat 1 (set_word g) 0 (bit_lt false), ones_cat 1 (set_word g) 1 (bit_lt true))
    go (false ∷ g) n =
        omega (
          arith,
          ones_cat 1 (set_word (cleared g)) 0 (bit_lt false),
          ones_cat 1 (set_word g) 0 (bit_lt false),
          go g (λ z. n (rw z)),
        )

-- so there is room for one string more
pub ones_room : (k w : ℕ) → w < 2 ^ 32 → k + ones_in_lem w ≤ 32 → ¬ (w ≡ 0) → k < 32
ones_room k w lt le z = omega (arith, ones_cleared w lt z)

-- ---- The loop

-- Of the row of f at each position of the set g, strings of l positions: those of the positions below `at` are stored, and
-- the set of the positions left, whose word is `left`, has none below it and from it on those of g.
pub record LowestFirst (l : ℕ) (g : Bits) (f : ℕ → Trits) (row : List ℕ) (k left : ℕ) : Type 0 where
  pub at : ℕ
  pub most : at ≤ l
  pub stored : RowSoFar l (λ j. get_or g j false) f l row k at
  pub places : Bits
  pub is : left ≡ set_word places
  pub below : (j : ℕ) → j < at → get_or places j false ≡ false
  pub from : (j : ℕ) → at ≤ j → get_or places j false ≡ get_or g j false

-- positions that are not of the set are skipped
row_skips : {l n : ℕ} {p : ℕ → Bool} {f : ℕ → Trits} {row : List ℕ} {k i : ℕ} → RowSoFar l p f n row k i → (m : ℕ)
    → m + i ≤ n → ((j : ℕ) → i ≤ j → j < m + i → p j ≡ false) → RowSoFar l p f n row k (m + i)
row_skips {i = i} w zero le none = let e : 0 + i ≡ i = omega arith in rw e w
row_skips {i = i} w (suc m) le none =
    let e : suc m + i ≡ m + i + 1 = omega arith in
    rw e (row_skip (row_skips w m (omega arith) (λ j a b. none j a (omega arith))) (omega arith)
    (none (m + i) (omega arith) (omega arith)))

-- nothing is stored yet, and all positions of `meeting` are left
pub meeting_start : (k : Bits) (s : Trits) {f : ℕ → Trits} {row : List ℕ} → length row ≡ limit → length s ≤ 32
    → length k ≡ length s
    → LowestFirst (length s) (meeting k s) f row 0 (bit_xor (set_word k) (bit_and (set_word k) (word s / 2 ^ 32)))
meeting_start k s room short e = record {
  at = 0;
  most = omega arith;
  stored = row_start room short;
  places = meeting k s;
  is = rw (high_word s short) (meeting_word k s e);
  below = λ j lt. absurd (omega arith);
  from = λ j le. refl;
}

module _ {l : ℕ} {g : Bits} {f : ℕ → Trits} {row : List ℕ} {k left : ℕ} (w : LowestFirst l g f row k left) where
  -- no position is left
  pub lowest_end : left ≡ 0 → Holds l row k (rising (λ j. get_or g j false) f 0 l)
  lowest_end z =
      let none = empty_none w.places (sym w.is ∙ z) in
      let most = w.most in
      row_end (row_skips w.stored (l - w.at) (omega (arith, most)) (λ j a b. sym (w.from j a) ∙ none j))
      (omega (arith, most))

  module _ (long : length g ≡ l) (small : left < 2 ^ 64) (some_left : ¬ (left ≡ 0)) where
    -- the lowest position left
    abbrev i : ℕ
    i = count_trailing_zeros 64 left

    first : First w.places i
    first = let e = w.is in rw e (trailing_first 64 w.places (rw (← e) small) (λ z. some_left (e ∙ z)))

    -- it is not below those that are done
    lowest_from : w.at ≤ i
    lowest_from = go (ltb i w.at) refl
      where
        go : (b : Bool) → ltb i w.at ≡ b → w.at ≤ i
        go true e = absurd (false≢true (sym (w.below i (ltb-true i w.at e)) ∙ first.here))
        go false e = ltb-false i w.at e

    -- it is one of the set
    pub lowest_here : get_or g i false ≡ true
    lowest_here = sym (w.from i lowest_from) ∙ first.here

    -- its string is stored
    pub lowest_step : {y : ℕ} → y ≡ word (f i) → length (f i) ≡ l → k < limit
        → LowestFirst l g f (set row k y) (k + 1) (bit_and left (left - 1))
    lowest_step is e room = record {
      at = i + 1;
      most = omega (arith, inside);
      stored = row_add (rw up at skipped) inside lowest_here is e room;
      places = cleared w.places;
      is = rw w.is (cleared_word w.places);
      below = gone;
      from = λ j le.
          cleared_other w.places i first j (λ q. absurd (omega (arith, q))) ∙ w.from j (omega (arith, lowest_from));
    }
      where
        inside : i < l
        inside = rw long at (set_inside g i lowest_here)

        up : i - w.at + w.at ≡ i
        up = omega (arith, lowest_from)

        skipped : RowSoFar l (λ j. get_or g j false) f l row k (i - w.at + w.at)
        skipped = row_skips w.stored (i - w.at) (omega (arith, up, inside))
            (λ j a b. sym (w.from j a) ∙ first.none j (omega (arith, up)))

        gone : (j : ℕ) → j < i + 1 → get_or (cleared w.places) j false ≡ false
        gone j lt = go (eqb j i) refl
          where
            go : (b : Bool) → eqb j i ≡ b → get_or (cleared w.places) j false ≡ false
            go true q = rw (eqb-true j i q) (cleared_first w.places i first)
            go false q =
                let other = eqb-false j i q in
                cleared_other w.places i first j other ∙ first.none j (omega (arith, other))
