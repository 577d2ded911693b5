-- Rows of k bytes: one by one, from an index on, in a part of the bytes, and joined. Assumes nothing.
use mathlib.Core.Path.{◌≡◌, refl, sym, ap, ap₂, ◌∙◌}
use mathlib.Core.List.{List, [], ◌∷◌, ◌++◌, map, append_assoc, append-nil, map-append}
use Prim.Native.Nat.{ℕ, zero, suc, ◌+◌, ◌-◌, ◌*◌, ◌≤◌, ◌<◌}
use native.Mathlib.Nat.{mul-zero, mul-suc, mul-le-mul, le_refl, add-zero}
use native.Mathlib.Numerals.{add-one}
use native.Mathlib.Omega.{arith}
use lib.ListN.{length, get_or, take, drop, set, length-append, length-drop, length-map}
use lib.Seq.{length-take-le, drop-drop, take-suc, take-add, take-append-le, drop-append-le, take_at, drop_at, sets}
use Rattle.codec.specs.Numbers.{rows, joined}

-- ---- One by one

-- there are n
pub rows_count : (k n : ℕ) (b : List ℕ) → length (rows k n b) ≡ n
unfolding rows
rows_count k zero b = refl
rows_count k (suc n) b = ap suc (rows_count k n (drop k b))

-- one row after i others
pub next_place : (k i : ℕ) → k + k * i ≡ k * suc i
next_place k i = omega (arith, mul-suc k i)

-- the row at an index
pub rows_at : (k n i : ℕ) (b : List ℕ) → i < n → get_or (rows k n b) i [] ≡ take k (drop (k * i) b)
unfolding rows
rows_at k zero i b lt = absurd (omega arith)
rows_at k (suc n) zero b lt = rw (mul-zero k)
rows_at k (suc n) (suc i) b lt =
    rows_at k n i (drop k b) (omega arith) ∙ ap (take k) (drop-drop (k * i) k b)
    ∙ ap (λ (j : ℕ). take k (drop j b)) (next_place k i)

-- the rows from the one at a place on
pub rows_from : (k n at : ℕ) (b : List ℕ) → rows k (suc n) (drop at b) ≡ take k (drop at b) ∷ rows k n (drop (at + k) b)
unfolding rows
rows_from k n at b = ap (λ (c : List ℕ). take k (drop at b) ∷ rows k n c) (drop-drop k at b)

-- one row more
pub rows_more : (k n : ℕ) (b : List ℕ) → rows k (suc n) b ≡ rows k n b ++ (take k (drop (k * n) b) ∷ [])
unfolding rows
rows_more k zero b = rw (mul-zero k)
rows_more k (suc n) b =
    ap (take k b ∷◌) (rows_more k n (drop k b)
    ∙ ap (λ (r : List ℕ). rows k n (drop k b) ++ (take k r ∷ []))
    (drop-drop (k * n) k b ∙ ap (λ (j : ℕ). drop j b) (next_place k n)))

-- the rows from an index on are those of the bytes from there on
pub rows_drop : (k i n : ℕ) (b : List ℕ) → i ≤ n → drop i (rows k n b) ≡ rows k (n - i) (drop (k * i) b)
unfolding rows
rows_drop k zero n b h = let e : n - 0 ≡ n = omega arith in rw (mul-zero k, e)
rows_drop k (suc i) zero b h = absurd (omega arith)
rows_drop k (suc i) (suc n) b h =
    let e : suc n - suc i ≡ n - i = omega arith in
    rw (e, ← next_place k i) (rows_drop k i n (drop k b) (omega arith) ∙ ap (rows k (n - i)) (drop-drop (k * i) k b))

-- the first rows are those of the first bytes
pub rows_take : (k i n : ℕ) (b : List ℕ) → i ≤ n → k * i ≤ length b → take i (rows k n b) ≡ rows k i (take (k * i) b)
unfolding rows
rows_take k zero n b h room = refl
rows_take k (suc i) zero b h room = absurd (omega arith)
rows_take k (suc i) (suc n) b h room =
    let e = next_place k i in
    let long : length (take k b) ≡ k = length-take-le k b (omega (arith, e)) in
    let rest : k * i ≤ length (drop k b) = omega (arith, e, length-drop k b) in
    rw (← e, take-add k (k * i) b) (sym (ap₂ {C = List (List ℕ)} (λ r rs. r ∷ rs) (take_at (take k b) _ k long)
    (ap (rows k i) (drop_at (take k b) _ k long) ∙ sym (rows_take k i n (drop k b) (omega arith) rest))))

-- the row at an index stands within the n rows
pub row_in : (k n i : ℕ) → i < n → k * i + k ≤ k * n
row_in k n i lt = let h : k * suc i ≤ k * n = mul-le-mul (le_refl k) lt in omega (arith, mul-suc k i, h)

-- ---- In a part of the bytes

-- bytes that follow are not looked at
rows_front : (k n : ℕ) (b c : List ℕ) → k * n ≤ length b → rows k n (b ++ c) ≡ rows k n b
unfolding rows
rows_front k zero b c h = refl
rows_front k (suc n) b c h =
    let e = next_place k n in
    let room : k ≤ length b = omega (arith, e) in
    let rest : k * n ≤ length (drop k b) = omega (arith, e, length-drop k b) in
    rw (take-append-le k b c room, drop-append-le k b c room, rows_front k n (drop k b) c rest)

-- the same from a place on
pub rows_within : (at k n : ℕ) (b c : List ℕ) → at + k * n ≤ length b → rows k n (drop at (b ++ c)) ≡ rows k n (drop at b)
rows_within at k n b c h =
    ap (rows k n) (drop-append-le at b c (omega arith)) ∙ rows_front k n (drop at b) c (omega (arith, length-drop at b))

-- ---- Joined

-- Every row has k bytes.
unfoldable pub Long : ℕ → List (List ℕ) → Type 0
Long k [] = Unit
Long k (r ∷ rs) = (length r ≡ k) × Long k rs

-- so many bytes in all
pub joined_length : (k : ℕ) (rs : List (List ℕ)) → Long k rs → length (joined rs) ≡ k * length rs
unfolding joined Long
joined_length k [] h = sym (mul-zero k)
joined_length k (r ∷ rs) h =
    length-append r (joined rs) ∙ omega (arith, h.0, joined_length k rs h.1, next_place k (length rs))

pub joined_append : (rs qs : List (List ℕ)) → joined (rs ++ qs) ≡ joined rs ++ joined qs
unfolding joined
joined_append [] qs = refl
joined_append (r ∷ rs) qs = ap (r ++◌) (joined_append rs qs) ∙ sym (append_assoc r (joined rs) (joined qs))

-- what was joined is read as rows, whatever follows
pub rows_back : (k : ℕ) (rs : List (List ℕ)) (c : List ℕ) → Long k rs → rows k (length rs) (joined rs ++ c) ≡ rs
unfolding rows joined Long
rows_back k [] c h = refl
rows_back k (r ∷ rs) c h =
    rw (append_assoc r (joined rs) c)
    (ap₂ {C = List (List ℕ)} (λ q qs. q ∷ qs) (take_at r (joined rs ++ c) k h.0)
    (ap (rows k (length rs)) (drop_at r (joined rs ++ c) k h.0) ∙ rows_back k rs c h.1))

-- a run of stores, and then another
pub sets_append : (xs ys b : List ℕ) (i : ℕ) → sets b i (xs ++ ys) ≡ sets (sets b i xs) (i + length xs) ys
sets_append [] ys b i = rw add-zero
sets_append (x ∷ xs) ys b i =
    let e : suc i + length xs ≡ i + suc (length xs) = omega arith in
    sets_append xs ys (set b i x) (suc i) ∙ ap (λ (k : ℕ). sets (sets (set b i x) (suc i) xs) k ys) e

module _ {A : Type 0} (k : ℕ) (f : A → List ℕ) where
  -- the rows of the first things have k bytes too
  long_take : (xs : List A) (i : ℕ) → Long k (map f xs) → Long k (map f (take i xs))
  unfolding Long
  long_take xs zero h = tt
  long_take [] (suc i) h = tt
  long_take (x ∷ xs) (suc i) h = (h.0, long_take xs i h.1)

  -- the rows of one thing more
  joined_more : (xs : List A) (d : A) (i : ℕ) → i < length xs
      → joined (map f (take (i + 1) xs)) ≡ joined (map f (take i xs)) ++ f (get_or xs i d)
  unfolding joined
  joined_more xs d i lt =
      ap (λ (j : ℕ). joined (map f (take j xs))) (add-one i)
      ∙ ap (λ (ys : List A). joined (map f ys)) (take-suc xs i d lt)
      ∙ ap joined (map-append f (take i xs) (get_or xs i d ∷ []))
      ∙ joined_append (map f (take i xs)) (f (get_or xs i d) ∷ [])
      ∙ ap (joined (map f (take i xs)) ++◌) (append-nil (f (get_or xs i d)))

  -- a turn of a writer: the row of the next thing follows those before it
  pub joined_turn : (xs : List A) (d : A) (b₀ b : List ℕ) (at i : ℕ) → Long k (map f xs) → i < length xs
      → b ≡ sets b₀ at (joined (map f (take i xs)))
      → sets b (at + k * i) (f (get_or xs i d)) ≡ sets b₀ at (joined (map f (take (i + 1) xs)))
  joined_turn xs d b₀ b at i h lt q =
      let front = map f (take i xs) in
      let here : length (joined front) ≡ k * i =
      joined_length k front (long_take xs i h)
      ∙ ap (λ (j : ℕ). k * j) (length-map (take i xs) f ∙ length-take-le i xs (omega arith)) in
      rw (q, joined_more xs d i lt, ← here) (sym (sets_append (joined front) (f (get_or xs i d)) b₀ at))
