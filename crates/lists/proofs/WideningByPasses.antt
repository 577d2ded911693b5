-- Widening by whole passes over the list is widening position by position. Assumes nothing.
use mathlib.Core.Path.{◌≡◌, refl, sym, ap, ap₂, ◌∙◌, subst}
use mathlib.Core.Bool.{Bool, true, false, false≢true, ◌&&◌, ◌||◌, and-or_distrib_left, and-false, or-false}
use mathlib.Core.List.{List, [], ◌∷◌, ◌++◌}
use Prim.Native.Nat.{ℕ, zero, suc, ◌+◌, ◌-◌, ◌/◌, ◌^◌, ◌≤◌, ◌<◌}
use native.Mathlib.Nat.{zero-add, suc-add}
use native.Mathlib.Numerals.{add-one}
use native.Mathlib.Omega.{arith}
use borrow.Author.Tests.{le-ltb, lt-ltb}
use lib.Count.{count_trailing_zeros}
use lib.Dec.{T, ltb}
use lib.ListN.{length, get_or, drop}
use lib.Pow.{shr_le}
use lib.Seq.{get_or-drop}
use Rattle.model.specs.Groups.{Bits, or}
use Rattle.model.specs.Strings.{Trits, subsumes, fixed, fixed_count, flipped, starred}
use Rattle.model.specs.Growth.{Entries, subsumed, widen_at, widen_from, widen}
use Rattle.model.specs.Tables.{Wide}
use Rattle.model.proofs.Bits.{or_nil, bits_or_assoc}
use Rattle.model.proofs.Entries.{subsumed_within}
use Rattle.model.proofs.Positions.{starred_length}
use Rattle.model.proofs.Stability.{fixed_within, flipped_within, over_starred}
use Rattle.model.proofs.Subsuming.{subsumes_same}
use Rattle.model.proofs.Tests.{and_first, and_second, and_both, true_of, false_of}
use Rattle.words.specs.Words.{word, set_word, openings}
use Rattle.words.proofs.Codec.{set_word_drop, First, trailing_first, empty_none}
use Rattle.tables.proofs.Tests.{both_true}
use Rattle.lists.specs.Widening.{open_set, Ready, OfWidened}
use Rattle.words.proofs.LackedBits.{openings_at}

-- ---- The open positions

or_at : (g h : Bits) (i : ℕ) → get_or (or g h) i false ≡ (get_or g i false || get_or h i false)
unfolding or
or_at [] h i = refl
or_at (a ∷ g) [] zero = sym (or-false a)
or_at (a ∷ g) [] (suc i) = sym (or-false (get_or g i false))
or_at (a ∷ g) (b ∷ h) zero = refl
or_at (a ∷ g) (b ∷ h) (suc i) = or_at g h i

-- a position is open where it is fixed and the string flipped there is subsumed by one entry
pub open_at : (τ : Entries) (y : Trits) (i : ℕ) → Wide (length y) τ
    → get_or (open_set τ y) i false ≡ (fixed i y && subsumed τ (flipped i y))
unfolding open_set subsumed Wide
open_at [] y i w = sym (and-false (fixed i y))
open_at (e ∷ τ) y i w =
    or_at (openings e y) (open_set τ y) i
    ∙ ap₂ ◌||◌ (openings_at e y i w.0) (open_at τ y i w.1)
    ∙ sym (and-or_distrib_left (fixed i y) (subsumes e (flipped i y)) (subsumed τ (flipped i y)))

-- one entry more
pub open_snoc : (τ : Entries) (e y : Trits) → open_set (τ ++ (e ∷ [])) y ≡ or (open_set τ y) (openings e y)
unfolding open_set
open_snoc [] e y = or_nil (openings e y) ∙ (unfold or in refl)
open_snoc (s ∷ τ) e y =
    ap (or (openings s y)) (open_snoc τ e y) ∙ sym (bits_or_assoc (openings s y) (open_set τ y) (openings e y))

-- ---- One position of Widen

module _ (τ : Entries) (i : ℕ) (z : Trits) where
  and_three : (a b c : Bool) → (b && c) ≡ false → (a && b && c) ≡ false
  and_three true b c e = e
  and_three false b c e = refl

  -- a position that is not open stays
  stays : (fixed i z && subsumed τ (flipped i z)) ≡ false → widen_at τ i z ≡ z
  unfolding widen_at
  stays e = rw (and_three (ltb 1 (fixed_count z)) (fixed i z) (subsumed τ (flipped i z)) e)

  -- one that is open becomes `*`, where more than one position is fixed
  opens : ltb 1 (fixed_count z) ≡ true → (fixed i z && subsumed τ (flipped i z)) ≡ true → widen_at τ i z ≡ starred i z
  unfolding widen_at
  opens m e = rw (m, e)

  -- where at most one position is fixed, nothing changes
  pub few_fixed : ltb 1 (fixed_count z) ≡ false → widen_at τ i z ≡ z
  unfolding widen_at
  few_fixed m = rw m

-- ---- Many positions

pub widen_same : (τ : Entries) (i n : ℕ) (z : Trits) → ((m : ℕ) → i ≤ m → m < i + n → widen_at τ m z ≡ z) → widen_from τ i n z ≡ z
unfolding widen_from
widen_same τ i zero z f = refl
widen_same τ i (suc n) z f =
    rw (f i (omega arith) (omega arith)) (widen_same τ (suc i) n z (λ m a b. f m (omega arith) (omega arith)))

widen_add : (τ : Entries) (i m n : ℕ) (z : Trits) → widen_from τ i (m + n) z ≡ widen_from τ (i + m) n (widen_from τ i m z)
unfolding widen_from
widen_add τ i zero n z = ap₂ (λ (a b : ℕ). widen_from τ a b z) (omega arith) (zero-add n)
widen_add τ i (suc m) n z =
    rw (suc-add m n) (widen_add τ (suc i) m n (widen_at τ i z) ∙ ap
    (λ (a : ℕ). widen_from τ a n (widen_from τ (suc i) m (widen_at τ i z))) (omega arith))

module _ (τ : Entries) (z : Trits) (w : Wide (length z) τ) (i l : ℕ) where
  -- no open position from i on
  pub none_open : ((m : ℕ) → i ≤ m → m < l → get_or (open_set τ z) m false ≡ false) → widen_from τ i (l - i) z ≡ z
  none_open f = widen_same τ i (l - i) z (λ m a b. stays τ m z (sym (open_at τ z m w) ∙ f m a (omega arith)))

  -- the first open position from i on is j
  pub next_open : (j : ℕ) → i ≤ j → j < l → ltb 1 (fixed_count z) ≡ true → get_or (open_set τ z) j false ≡ true
      → ((m : ℕ) → i ≤ m → m < j → get_or (open_set τ z) m false ≡ false)
      → widen_from τ i (l - i) z ≡ widen_from τ (j + 1) (l - (j + 1)) (starred j z)
  unfolding widen_from
  next_open j a b c here before =
      let e : l - i ≡ (j - i) + suc (l - (j + 1)) = omega arith in
      let k : i + (j - i) ≡ j = omega arith in
      let s : widen_from τ i (j - i) z ≡ z = widen_same τ i (j - i) z
      (λ m p q. stays τ m z (sym (open_at τ z m w) ∙ before m p (omega arith))) in
      ap (λ (n : ℕ). widen_from τ i n z) e
      ∙ widen_add τ i (j - i) (suc (l - (j + 1))) z
      ∙ ap₂ (λ (a : ℕ) (r : Trits). widen_from τ (suc a) (l - (j + 1)) (widen_at τ a r)) k s
      ∙ ap₂ (λ (a : ℕ) (r : Trits). widen_from τ a (l - (j + 1)) r) (sym (add-one j))
      (opens τ j z c (sym (open_at τ z j w) ∙ here))

-- ---- The loop

-- z is the word of a string of l positions that subsumes s, and to widen that string from position i on gives the whole
pub record WidenedSoFar (l : ℕ) (τ : Entries) (s : Trits) (z i : ℕ) : Type 0 where
  pub now : Trits
  pub long : length now ≡ l
  pub over : T (subsumes now s)
  pub is : z ≡ word now
  pub rest : widen_from τ i (l - i) now ≡ widen τ s

pub widened_start : (l : ℕ) (τ : Entries) (s : Trits) (y : ℕ) → length s ≡ l → y ≡ word s → WidenedSoFar l τ s y 0
unfolding widen
widened_start l τ s y e is =
    let n : l - 0 ≡ length s = omega arith in
    record { now = s; long = e; over = subsumes_same s; is = is; rest = ap (λ (k : ℕ). widen_from τ 0 k s) n }

fixed_below : (i : ℕ) (y : Trits) → fixed i y ≡ true → i < length y
unfolding fixed
fixed_below i [] h = absurd (false≢true h)
fixed_below zero (t ∷ y) h = omega arith
fixed_below (suc i) (t ∷ y) h = let k = fixed_below i y h in omega arith

module _ {l : ℕ} {τ : Entries} {s : Trits} {z i : ℕ} (w : WidenedSoFar l τ s z i) (wide : Wide l τ) where
  abbrev t : Trits
  t = w.now

  wide_t : Wide (length t) τ
  wide_t = rw w.long wide

  done : widen_from τ i (l - i) t ≡ t → z ≡ word (widen τ s)
  done e = w.is ∙ ap word (sym e ∙ w.rest)

  -- at most one position is fixed
  widened_few : ltb 1 (fixed_count t) ≡ false → z ≡ word (widen τ s)
  widened_few m = done (widen_same τ i (l - i) t (λ k a b. few_fixed τ k t m))

  -- no position is left
  pub widened_end : l ≤ i → z ≡ word (widen τ s)
  unfolding widen_from
  widened_end h = let e : l - i ≡ 0 = omega arith in done (ap (λ (n : ℕ). widen_from τ i n t) e)

  abbrev later : Bits
  later = drop i (open_set τ t)

  at_later : (m : ℕ) → i ≤ m → get_or (open_set τ t) m false ≡ get_or later (m - i) false
  at_later m h =
      let e : i + (m - i) ≡ m = omega arith in sym
      (get_or-drop i (open_set τ t) (m - i) false ∙ ap (λ (k : ℕ). get_or (open_set τ t) k false) e)

  -- of the word of a pass, shifted down by i
  module _ (r : ℕ) (o : r ≡ set_word (open_set τ t)) where
    shifted : r / 2 ^ i ≡ set_word later
    shifted = ap (λ (x : ℕ). x / 2 ^ i) o ∙ set_word_drop i (open_set τ t)

    -- no position is open from i on
    widened_none : r / 2 ^ i ≡ 0 → z ≡ word (widen τ s)
    widened_none e = done (none_open τ t wide_t i l (λ m a b. at_later m a ∙ empty_none later (sym shifted ∙ e) (m - i)))

    -- its first bit
    first_open : (k : ℕ) → r < 2 ^ k → ¬ (r / 2 ^ i ≡ 0) → First later (count_trailing_zeros k (r / 2 ^ i))
    first_open k b n =
        let small : set_word later < 2 ^ k = subst (λ (x : ℕ). x < 2 ^ k) shifted (omega (arith, shr_le r i)) in
        rw shifted (trailing_first k later small (λ e. n (shifted ∙ e)))

  module _ (skip : ℕ) (f : First later skip) where
    open_there : get_or (open_set τ t) (i + skip) false ≡ true
    open_there =
        let e : i + skip - i ≡ skip = omega arith in at_later (i + skip) (omega arith) ∙ ap (λ (k : ℕ). get_or later k false) e
        ∙ f.here

    fixed_there : fixed (i + skip) t ≡ true
    fixed_there =
        (both_true (fixed (i + skip) t) (subsumed τ (flipped (i + skip) t)) (sym (open_at τ t (i + skip) wide_t) ∙ open_there)).0

    -- an open position is one of the l
    widened_inside : i + skip < l
    widened_inside = let k = fixed_below (i + skip) t fixed_there in omega (arith, w.long)

    -- once it is `*`
    next_rest : ltb 1 (fixed_count t) ≡ true
        → widen_from τ (i + skip + 1) (l - (i + skip + 1)) (starred (i + skip) t) ≡ widen τ s
    next_rest m =
        sym (next_open τ t wide_t i l (i + skip) (omega arith) widened_inside m open_there
        (λ k a b. at_later k a ∙ f.none (k - i) (omega arith)))
        ∙ w.rest

    -- the first open position from i on becomes `*`
    widened_next : ltb 1 (fixed_count t) ≡ true → (z' : ℕ) → z' ≡ word (starred (i + skip) t)
        → WidenedSoFar l τ s z' (i + (skip + 1))
    widened_next m z' is =
        let e : i + (skip + 1) ≡ i + skip + 1 = omega arith in
        record {
          now = starred (i + skip) t;
          long = starred_length (i + skip) t ∙ w.long;
          over = over_starred (i + skip) t s w.over;
          is = is;
          rest = rw e (next_rest m);
        }

  -- where no other position is open, none is once that one is `*`: what may open only shrinks
  module _ (r : ℕ) (o : r ≡ set_word (open_set τ t)) (skip : ℕ) (f : First later skip) (alone : r / 2 ^ i / 2 ^ skip ≡ 1) where
    none_later : (m : ℕ) → i + skip + 1 ≤ m → get_or (open_set τ t) m false ≡ false
    none_later m a =
        let e : set_word (drop skip later) ≡ 1 =
        sym (set_word_drop skip later) ∙ ap (λ (x : ℕ). x / 2 ^ skip) (sym (shifted r o)) ∙ alone in
        let d : set_word (drop 1 (drop skip later)) ≡ 0 = sym (set_word_drop 1 (drop skip later)) ∙ rw e in
        let k : skip + (1 + (m - (i + skip + 1))) ≡ m - i = omega arith in
        at_later m (omega arith)
        ∙ ap (λ (x : ℕ). get_or later x false) (sym k)
        ∙ sym (get_or-drop skip later (1 + (m - (i + skip + 1))) false)
        ∙ sym (get_or-drop 1 (drop skip later) (m - (i + skip + 1)) false)
        ∙ empty_none (drop 1 (drop skip later)) d (m - (i + skip + 1))

    none_after : (m : ℕ) → i + skip + 1 ≤ m
        → get_or (open_set τ (starred (i + skip) t)) m false ≡ false
    none_after m a =
        let t' = starred (i + skip) t in
        let wide' : Wide (length t') τ = rw (starred_length (i + skip) t) wide_t in
        open_at τ t' m wide'
        ∙ false_of (fixed m t' && subsumed τ (flipped m t'))
        (λ h.
        let up = over_starred (i + skip) t t (subsumes_same t) in
        let k = and_both (fixed m t) (subsumed τ (flipped m t))
        (fixed_within m t' t up (and_first (fixed m t') (subsumed τ (flipped m t')) h))
        (subsumed_within τ (flipped m t') (flipped m t) (and_second (fixed m t') (subsumed τ (flipped m t')) h)
        (flipped_within m t' t up)) in
        subst T (sym (open_at τ t m wide_t) ∙ none_later m a) k)

    widened_last : ltb 1 (fixed_count t) ≡ true → (z' : ℕ) → z' ≡ word (starred (i + skip) t) → z' ≡ word (widen τ s)
    widened_last m z' is =
        let t' = starred (i + skip) t in
        let wide' : Wide (length t') τ = rw (starred_length (i + skip) t) wide_t in
        is ∙ ap word (sym (none_open τ t' wide' (i + skip + 1) l (λ k a b. none_after k a)) ∙ next_rest skip f m)

-- ---- What a pass asks

-- a string t that subsumes s, of a list that is ready for widening s
pub of_over : {l n k y z : ℕ} {list : List ℕ} {τ : Entries} {s : Trits} {P : Type 0} → Ready l list n k τ s → y ≡ word s
    → (t : Trits) → z ≡ word t → length t ≡ l → T (subsumes t s) → OfWidened y z τ s t P → P
of_over {s = s} ready y t z long over f =
    f y z (rw ready.long ready.held.good.wide) (omega (arith, ready.long, ready.held.short))
    (long ∙ sym ready.long) (true_of (subsumes t s) over)

-- ---- A turn

-- r is what the pass says of the string as it is
module _ {l n k y z i r : ℕ} {list : List ℕ} {τ : Entries} {s : Trits} (ready : Ready l list n k τ s) (is : y ≡ word s)
    (w : WidenedSoFar l τ s z i) (asked : (t : Trits) → OfWidened y z τ s t (r ≡ set_word (open_set τ t))) where
  wide_l : Wide l τ
  wide_l = ready.held.good.wide

  opened : r ≡ set_word (open_set τ w.now)
  opened = of_over ready is w.now w.is w.long w.over (asked w.now)

  -- nothing is open from i on
  pub turn_none : r / 2 ^ i ≡ 0 → z ≡ word (widen τ s)
  turn_none = widened_none w wide_l r opened

  module _ (small : r < 2 ^ 64) (some : ¬ (r / 2 ^ i ≡ 0)) where
    abbrev skip : ℕ
    skip = count_trailing_zeros 64 (r / 2 ^ i)

    first : First (drop i (open_set τ w.now)) skip
    first = first_open w wide_l r opened 64 small some

    pub turn_inside : i + skip < l
    turn_inside = widened_inside w wide_l skip first

    -- the first open position becomes `*`, where more than one is fixed
    module _ {f z' : ℕ} (counted : (t : Trits) → length t ≤ 32 → z ≡ word t → f ≡ fixed_count t) (many : 1 < f)
        (made : (t : Trits) → length t ≤ 32 → z ≡ word t → z' ≡ word (starred (i + skip) t)) where
      short : length w.now ≤ 32
      short = omega (arith, w.long, ready.held.short)

      more : ltb 1 (fixed_count w.now) ≡ true
      more = lt-ltb 1 _ (rw (counted w.now short w.is) at many)

      pub turn_next : WidenedSoFar l τ s z' (i + (skip + 1))
      turn_next = widened_next w wide_l skip first more z' (made w.now short w.is)

      -- and no other was open
      pub turn_last : r / 2 ^ i / 2 ^ skip ≡ 1 → z' ≡ word (widen τ s)
      turn_last alone = widened_last w wide_l r opened skip first alone more z' (made w.now short w.is)

-- at most one position is fixed
pub turn_few : {l n k z i f : ℕ} {list : List ℕ} {τ : Entries} {s : Trits} → Ready l list n k τ s → WidenedSoFar l τ s z i
    → ((t : Trits) → length t ≤ 32 → z ≡ word t → f ≡ fixed_count t) → f ≤ 1 → z ≡ word (widen τ s)
turn_few ready w counted few =
    widened_few w ready.held.good.wide
    (le-ltb 1 _ (rw (counted w.now (omega (arith, w.long, ready.held.short)) w.is) at few))
