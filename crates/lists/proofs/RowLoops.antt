-- A loop that fills a row with a string for each index that passes a test, or moves the strings of a list that pass a test
-- together in its own array: an invariant for each and its laws for all such loops. Assumes nothing.
use mathlib.Core.Path.{◌≡◌, refl, sym, ap, ◌∙◌}
use mathlib.Core.Bool.{Bool, true, false, not, cond}
use mathlib.Core.List.{List, [], ◌∷◌, ◌++◌, append-nil}
use Prim.Native.Nat.{ℕ, zero, suc, ◌+◌, ◌-◌, ◌≤◌, ◌<◌}
use native.Mathlib.Numerals.{add-one}
use native.Mathlib.Omega.{arith}
use lib.ListN.{length, get_or, set, drop, drop_of_length-le}
use lib.Seq.{append_snoc, drop-cons, set-get_or}
use Rattle.model.specs.Strings.{Trits, rising}
use Rattle.model.specs.Growth.{Entries, limit}
use Rattle.words.specs.Words.{word}
use Rattle.lists.specs.WorkingLists.{Holds}
use Rattle.lists.proofs.Holding.{holds_empty, holds_append, holds_length, holds_past, run_stays}

-- Of the row of f at each of n indexes that passes p, strings of l positions: the array holds k strings, and with those of
-- the indexes from i on they are the whole row.
pub record RowSoFar (l : ℕ) (p : ℕ → Bool) (f : ℕ → Trits) (n : ℕ) (row : List ℕ) (k i : ℕ) : Type 0 where
  pub done : Entries
  pub held : Holds l row k done
  pub all : done ++ rising p f i (n - i) ≡ rising p f 0 n

module _ {l : ℕ} {p : ℕ → Bool} {f : ℕ → Trits} {n : ℕ} where
  -- nothing is stored yet
  pub row_start : {row : List ℕ} → length row ≡ limit → l ≤ 32 → RowSoFar l p f n row 0 0
  row_start room short = record {
    done = [];
    held = holds_empty l _ room short;
    all = let e : n - 0 ≡ n = omega arith in rw e;
  }

  module _ {row : List ℕ} {k i : ℕ} (w : RowSoFar l p f n row k i) where
    -- no index is left
    pub row_end : n ≤ i → Holds l row k (rising p f 0 n)
    unfolding rising
    row_end h =
        let z : n - i ≡ 0 = omega arith in
        rw (← w.all, z, append-nil) w.held

    module _ (lt : i < n) where
      -- what index i adds to the rest
      rest : (b : Bool) → p i ≡ b
          → rising p f i (n - i) ≡ cond b (f i ∷ rising p f (i + 1) (n - (i + 1))) (rising p f (i + 1) (n - (i + 1)))
      unfolding rising
      rest b e = let m : n - i ≡ suc (n - (i + 1)) = omega arith in rw (m, e, add-one i)

      -- the string of index i is stored
      pub row_add : {y : ℕ} → p i ≡ true → y ≡ word (f i) → length (f i) ≡ l → k < limit
          → RowSoFar l p f n (set row k y) (k + 1) (i + 1)
      row_add t is e room = record {
        done = w.done ++ (f i ∷ []);
        held = holds_append w.held (f i) e is room;
        all = append_snoc w.done (f i) _ ∙ ap (λ (r : Entries). w.done ++ r) (sym (rest true t)) ∙ w.all;
      }

      -- index i is skipped
      pub row_skip : p i ≡ false → RowSoFar l p f n row k (i + 1)
      row_skip t = record {
        done = w.done;
        held = w.held;
        all = ap (λ (r : Entries). w.done ++ r) (sym (rest false t)) ∙ w.all;
      }

-- where a word is stored at the count in any case, its index may be skipped afterwards
pub row_past : {l : ℕ} {p : ℕ → Bool} {f : ℕ → Trits} {n : ℕ} {row : List ℕ} {k i : ℕ} (y : ℕ) → RowSoFar l p f n row k i
    → RowSoFar l p f n (set row k y) k i
row_past {k = k} y w = record { done = w.done; held = holds_past w.held k y (omega arith); all = w.all }

-- ---- A row along a list: f of each string that passes p

-- the filling so far, from τ of n strings
abbrev pub Along : (l : ℕ) (p : Trits → Bool) (f : Trits → Trits) (τ : Entries) (n : ℕ) → (row : List ℕ) (k i : ℕ) → Type 0
Along l p f τ n = RowSoFar l (λ j. p (get_or τ j [])) (λ j. f (get_or τ j [])) n

module _ (p : Trits → Bool) (f : Trits → Trits) (row : Entries → List Trits) (nil : row [] ≡ [])
    (cons : (s : Trits) (τ : Entries) → row (s ∷ τ) ≡ cond (p s) (f s ∷ row τ) (row τ)) where
  -- from index i on
  row_from : (τ : Entries) (i n : ℕ) → n + i ≡ length τ
      → rising (λ j. p (get_or τ j [])) (λ j. f (get_or τ j [])) i n ≡ row (drop i τ)
  unfolding rising
  row_from τ i zero e = rw (drop_of_length-le τ {i = i} (omega arith)) (sym nil)
  row_from τ i (suc n) e =
      rw (drop-cons τ i [] (omega arith), cons, row_from τ (suc i) n (omega arith))

  -- no string of the list is left
  pub along_end : {l m : ℕ} {list words : List ℕ} {n k i : ℕ} {τ : Entries} → Holds l list n τ
      → Along m p f τ n words k i → n ≤ i → Holds m words k (row τ)
  along_end {n = n} {τ = τ} h w le =
      rw (← row_from τ 0 n (omega (arith, h.count))) (row_end w le)

-- as a test that drops comes into `row`
pub cond_not : {A : Type 0} (b : Bool) (x y : A) → cond b x y ≡ cond (not b) y x
cond_not true x y = refl
cond_not false x y = refl

-- ---- In the list's own array

-- Of the first i of the n strings of τ the k that pass p are at the front of the array, which from i on is as it was.
pub record PackedSoFar (l : ℕ) (p : Trits → Bool) (τ : Entries) (n : ℕ) (list : List ℕ) (k i : ℕ) : Type 0 where
  pub front : Along l p (λ y. y) τ n list k i
  pub ahead : (m : ℕ) → i ≤ m → m < n → get_or list m 0 ≡ word (get_or τ m [])

module _ {l : ℕ} {p : Trits → Bool} {τ : Entries} {n : ℕ} {list : List ℕ} {k i : ℕ} (w : PackedSoFar l p τ n list k i)
    (below : k ≤ i) (lt : i < n) where
  -- what is ahead stays where one word is stored at k
  ahead_stays : (x : ℕ) (m : ℕ) → i + 1 ≤ m → m < n → get_or (set list k x) m 0 ≡ word (get_or τ m [])
  ahead_stays x m a b = run_stays list k x m (omega arith) ∙ w.ahead m (omega arith) b

  -- the string at i passes, and is stored at k
  pub packed_keep : n ≤ limit → length (get_or τ i []) ≡ l → p (get_or τ i []) ≡ true
      → PackedSoFar l p τ n (set list k (get_or list i 0)) (k + 1) (i + 1)
  packed_keep few long t = record {
    front = row_add w.front lt t (w.ahead i (omega arith) lt) long (omega arith);
    ahead = ahead_stays (get_or list i 0);
  }

  -- it does not, whatever is stored at k
  pub packed_drop : (x : ℕ) → p (get_or τ i []) ≡ false → PackedSoFar l p τ n (set list k x) k (i + 1)
  packed_drop x t = record { front = row_skip (row_past x w.front) lt t; ahead = ahead_stays x }

-- the first j strings pass, and are kept where they are
pub packed_start : {l : ℕ} {p : Trits → Bool} {τ : Entries} {list : List ℕ} {n : ℕ} → Holds l list n τ → (j : ℕ) → j ≤ n
    → ((m : ℕ) → m < j → p (get_or τ m []) ≡ true) → PackedSoFar l p τ n list j j
packed_start h zero le f = record { front = row_start h.room h.short; ahead = λ m a lt. h.here m lt }
packed_start {p = p} {list = list} h (suc j) le f =
    rw (← add-one j)
    (rw (set-get_or list j 0) at
    (packed_keep {p = p} (packed_start h j (omega arith) (λ m lt. f m (omega arith))) (omega arith) le
    (omega (arith, h.good.few, h.count)) (holds_length h j le) (f j (omega arith))))
