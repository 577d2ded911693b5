-- Rows of numbers in bytes: one number more, in a part of the bytes, and that what was written is read back. Assumes nothing.
use Prim.Native.Nat.{ℕ, zero, suc, ◌+◌, ◌-◌, ◌*◌, ◌/◌, ◌^◌, ◌≤◌, ◌<◌}
use mathlib.Core.Path.{◌≡◌, refl, sym, ap, ap₂, ◌∙◌}
use mathlib.Core.Logic.{inl, inr}
use mathlib.Core.List.{List, [], ◌∷◌, ◌++◌, map, append_assoc, map-append}
use native.Mathlib.Nat.{zero-add, mul-zero}
use native.Mathlib.Numerals.{add-one}
use native.Mathlib.Omega.{arith}
use lib.ListN.{length, get_or, take, drop, set, replicate, length-append, length-map, length-drop, get_or-map}
use lib.Pow.{pow-add}
use lib.Seq.{get_or-drop, drop-drop, drop-cons, take-append-le, drop-append-le, set-append_seam, length-take-le, sets}
use Rattle.codec.specs.Numbers.{number, word_at, number_at, rows, words, numbers, sum, with_zeros}
use Rattle.codec.specs.Numbers.{WordSize, word_bytes, joined, bytes}
use Rattle.codec.proofs.Rows.{rows_count, next_place, rows_at, rows_more, rows_drop, rows_take, rows_within, Long, joined_length}
use Rattle.codec.proofs.Rows.{joined_append, rows_back, sets_append, joined_turn}

-- ---- Two or four bytes

-- at least two and at most four
pub size_most : {k : ℕ} → WordSize k → (2 ≤ k) × (k ≤ 4)
size_most (inl e) = (omega arith, omega arith)
size_most (inr e) = (omega arith, omega arith)

-- the one where it is not the other
pub size_four : {k : ℕ} → WordSize k → ¬ (k ≡ 2) → k ≡ 4
size_four (inl e) f = absurd (f e)
size_four (inr e) f = e

pub size_two : {k : ℕ} → WordSize k → ¬ (k ≡ 4) → k ≡ 2
size_two (inl e) f = e
size_two (inr e) f = absurd (f e)

-- ---- One number

-- The number at an index by its two bytes.
pub two_bytes : (b : List ℕ) (i : ℕ) → get_or b i 0 + 256 * get_or b (i + 1) 0 ≡ number_at b i
unfolding number
two_bytes b i =
    let e : i + 0 ≡ i = omega arith in
    ap₂ (λ (x y : ℕ). x + 256 * y) (ap (λ (j : ℕ). get_or b j 0) (sym e) ∙ sym (get_or-drop i b 0 0)) (sym (get_or-drop i b 1 0))
    ∙ go (drop i b)
  where
    go : (c : List ℕ) → get_or c 0 0 + 256 * get_or c 1 0 ≡ number (take 2 c)
    go [] = refl
    go (x ∷ []) = refl
    go (x ∷ y ∷ c) = omega arith

-- A word of four bytes by its two halves.
pub two_halves : (b : List ℕ) (i : ℕ) → number_at b i + 65536 * number_at b (i + 2) ≡ word_at 4 b i
unfolding number
two_halves b i = ap (λ (c : List ℕ). number_at b i + 65536 * number (take 2 c)) (sym (drop-drop 2 i b)) ∙ go (drop i b)
  where
    go : (c : List ℕ) → number (take 2 c) + 65536 * number (take 2 (drop 2 c)) ≡ number (take 4 c)
    go [] = refl
    go (x ∷ []) = omega arith
    go (x ∷ y ∷ []) = omega arith
    go (x ∷ y ∷ z ∷ []) = omega arith
    go (x ∷ y ∷ z ∷ w ∷ c) = omega arith

-- The same number stands in the bytes from an index on.
pub word_drop : (k : ℕ) (b : List ℕ) (j i : ℕ) → word_at k (drop j b) i ≡ word_at k b (j + i)
word_drop k b j i = ap (λ (c : List ℕ). number (take k c)) (drop-drop i j b)

-- Bytes that follow are not looked at.
pub word_within : (k : ℕ) (b c : List ℕ) (i : ℕ) → i + k ≤ length b → word_at k (b ++ c) i ≡ word_at k b i
word_within k b c i h =
    ap (λ (r : List ℕ). number (take k r)) (drop-append-le i b c (omega arith))
    ∙ ap number (take-append-le k (drop i b) c (omega (arith, length-drop i b)))

-- ---- Rows of numbers

pub length_words : (k n : ℕ) (b : List ℕ) → length (words k n b) ≡ n
length_words k n b = length-map (rows k n b) number ∙ rows_count k n b

-- the word at an index of a row that stands from a place on
pub words_at : (k n at i : ℕ) (b : List ℕ) → i < n → get_or (words k n (drop at b)) i 0 ≡ word_at k b (at + k * i)
unfolding number
words_at k n at i b lt =
    get_or-map number (rows k n (drop at b)) i []
    ∙ ap number (rows_at k n i (drop at b) lt) ∙ word_drop k b at (k * i)

-- from an index on a row is the word there, and the words after it
pub words_from : (k n at i : ℕ) (b : List ℕ) → i < n
    → drop i (words k n (drop at b)) ≡ word_at k b (at + k * i) ∷ drop (i + 1) (words k n (drop at b))
words_from k n at i b lt =
    drop-cons (words k n (drop at b)) i 0 (omega (arith, length_words k n (drop at b)))
    ∙ ap₂ {C = List ℕ} (λ x r. x ∷ r) (words_at k n at i b lt)
    (ap (λ (j : ℕ). drop j (words k n (drop at b))) (sym (add-one i)))

map_drop : (i : ℕ) (rs : List (List ℕ)) → drop i (map number rs) ≡ map number (drop i rs)
map_drop zero rs = refl
map_drop (suc i) [] = refl
map_drop (suc i) (r ∷ rs) = map_drop i rs

map_take : (i : ℕ) (rs : List (List ℕ)) → take i (map number rs) ≡ map number (take i rs)
map_take zero rs = refl
map_take (suc i) [] = refl
map_take (suc i) (r ∷ rs) = ap (number r ∷◌) (map_take i rs)

-- the words from an index on are those of the bytes from there on
pub words_drop : (k i n : ℕ) (b : List ℕ) → i ≤ n → drop i (words k n b) ≡ words k (n - i) (drop (k * i) b)
words_drop k i n b h = map_drop i (rows k n b) ∙ ap (map number) (rows_drop k i n b h)

-- the first words are those of the first bytes
pub words_take : (k i n : ℕ) (b : List ℕ) → i ≤ n → k * i ≤ length b → take i (words k n b) ≡ words k i (take (k * i) b)
words_take k i n b h room = map_take i (rows k n b) ∙ ap (map number) (rows_take k i n b h room)

-- bytes that follow are not looked at
pub words_within : (at k n : ℕ) (b c : List ℕ) → at + k * n ≤ length b → words k n (drop at (b ++ c)) ≡ words k n (drop at b)
words_within at k n b c h = ap (map number) (rows_within at k n b c h)

-- the word at an index is the next one of the row
next_word : (k at i v : ℕ) (b : List ℕ) → v ≡ word_at k b (at + k * i)
    → words k (i + 1) (drop at b) ≡ words k i (drop at b) ++ (v ∷ [])
next_word k at i v b f =
    rw (add-one i, f)
    (ap (map number) (rows_more k i (drop at b))
    ∙ map-append number (rows k i (drop at b)) (take k (drop (k * i) (drop at b)) ∷ [])
    ∙ ap (λ (w : ℕ). words k i (drop at b) ++ (w ∷ [])) (word_drop k b at (k * i)))

-- a store at the end of a row is one number more
zeros_more : (n : ℕ) (ws : List ℕ) (i v : ℕ) → length ws ≡ i → i < n
    → set (with_zeros n ws) i v ≡ with_zeros n (ws ++ (v ∷ []))
unfolding with_zeros
zeros_more n ws i v e h =
    let p : n - length ws ≡ suc (n - length (ws ++ (v ∷ []))) = simp length-append (omega arith) in
    let q : List ℕ = replicate (n - length (ws ++ (v ∷ []))) 0 in
    rw (p, ← e) (set-append_seam ws 0 q v ∙ sym (append_assoc ws (v ∷ []) q))

-- a turn of the reader of tokens
pub read_turn : (n at i v : ℕ) (b out : List ℕ) → i < n → out ≡ with_zeros n (numbers i (drop at b))
    → v ≡ number_at b (at + 2 * i) → set out i v ≡ with_zeros n (numbers (i + 1) (drop at b))
read_turn n at i v b out h e f =
    let s : List ℕ = drop at b in
    rw (e, next_word 2 at i v b f) (zeros_more n (numbers i s) i v (length_words 2 i s) h)

sum_append : (xs ys : List ℕ) → sum (xs ++ ys) ≡ sum xs + sum ys
unfolding sum
sum_append [] ys = sym (zero-add (sum ys))
sum_append (x ∷ xs) ys = omega (arith, sum_append xs ys)

-- two rows that stand one after the other are summed as one
pub words_sum : (k n m : ℕ) (b : List ℕ)
    → sum (words k (n + m) b) ≡ sum (words k n b) + sum (words k m (drop (k * n) b))
unfolding rows sum
words_sum k zero m b = let e : 0 + m ≡ m = omega arith in rw (e, mul-zero k) (omega arith)
words_sum k (suc n) m b =
    let e : suc n + m ≡ suc (n + m) = omega arith in
    rw (e, ← next_place k n, ← drop-drop (k * n) k b) (omega (arith, words_sum k n m (drop k b)))

-- a turn of the sum
pub sum_turn : (at i v total : ℕ) (b : List ℕ) → total ≡ sum (numbers i (drop at b)) → v ≡ number_at b (at + 2 * i)
    → total + v ≡ sum (numbers (i + 1) (drop at b))
unfolding sum
sum_turn at i v total b e f =
    rw (next_word 2 at i v b f)
    (omega (arith, e, sum_append (numbers i (drop at b)) (v ∷ [])))

-- ---- Writing

pub word_long : (k w : ℕ) → length (word_bytes k w) ≡ k
unfolding word_bytes
word_long zero w = refl
word_long (suc k) w = ap suc (word_long k (w / 256))

-- four bytes are those of the two halves
pub halves_bytes : (w : ℕ) → word_bytes 4 w ≡ word_bytes 2 w ++ word_bytes 2 (w / 65536)
unfolding word_bytes
halves_bytes w =
    let e : w / 256 / 256 ≡ w / 65536 = omega arith in
    rw e

bytes_rows : (k : ℕ) (ws : List ℕ) → Long k (map (word_bytes k) ws)
unfolding Long
bytes_rows k [] = tt
bytes_rows k (w ∷ ws) = (word_long k w, bytes_rows k ws)

pub length_bytes : (k : ℕ) (ws : List ℕ) → length (bytes k ws) ≡ k * length ws
length_bytes k ws =
    joined_length k (map (word_bytes k) ws) (bytes_rows k ws) ∙ ap (λ (j : ℕ). k * j) (length-map ws (word_bytes k))

pub bytes_append : (k : ℕ) (xs ys : List ℕ) → bytes k (xs ++ ys) ≡ bytes k xs ++ bytes k ys
bytes_append k xs ys =
    ap joined (map-append (word_bytes k) xs ys) ∙ joined_append (map (word_bytes k) xs) (map (word_bytes k) ys)

-- a turn of the writer
pub write_turn : (k : ℕ) (b₀ ws b : List ℕ) (at i : ℕ) → i < length ws → b ≡ sets b₀ at (bytes k (take i ws))
    → sets b (at + k * i) (word_bytes k (get_or ws i 0)) ≡ sets b₀ at (bytes k (take (i + 1) ws))
write_turn k b₀ ws b at i h q = joined_turn k (word_bytes k) ws 0 b₀ b at i (bytes_rows k ws) h q

-- two rows that are written one after the other
pub rows_stored : (k n at : ℕ) (us ws b : List ℕ) → n ≤ length us
    → sets (sets b at (bytes k (take n us))) (at + k * n) (bytes k ws) ≡ sets b at (bytes k (take n us ++ ws))
rows_stored k n at us ws b h =
    let front = take n us in
    let e : length (bytes k front) ≡ k * n = length_bytes k front ∙ ap (λ (j : ℕ). k * j) (length-take-le n us h) in
    rw (bytes_append k front ws, ← e) (sym (sets_append (bytes k front) (bytes k ws) b at))

-- ---- Back

-- Every number has k bytes.
abbrev pub Narrow : ℕ → List ℕ → Type 0
Narrow k [] = Unit
Narrow k (w ∷ ws) = (w < 2 ^ (8 * k)) × Narrow k ws

-- A number of k bytes is that of its bytes.
pub number_back : (k w : ℕ) → w < 2 ^ (8 * k) → number (word_bytes k w) ≡ w
unfolding number word_bytes
number_back zero w h = omega arith
number_back (suc k) w h =
    let more : 2 ^ (8 * suc k) ≡ 256 * 2 ^ (8 * k) =
    (let e : 8 * suc k ≡ 8 + 8 * k = omega arith in ap (λ (j : ℕ). 2 ^ j) e ∙ pow-add 2 8 (8 * k)) in
    let rest = number_back k (w / 256) (omega (arith, more)) in
    omega (arith, rest)

numbers_back : (k : ℕ) (ws : List ℕ) → Narrow k ws → map number (map (word_bytes k) ws) ≡ ws
numbers_back k [] h = refl
numbers_back k (w ∷ ws) h = ap₂ {C = List ℕ} (λ v vs. v ∷ vs) (number_back k w h.0) (numbers_back k ws h.1)

-- Numbers of k bytes that were written are read back, whatever follows.
pub words_back : (k n : ℕ) (ws rest : List ℕ) → length ws ≡ n → Narrow k ws → words k n (bytes k ws ++ rest) ≡ ws
words_back k n ws rest e h =
    let rs = map (word_bytes k) ws in
    let many : n ≡ length rs = sym e ∙ sym (length-map ws (word_bytes k)) in
    rw many (ap (map number) (rows_back k rs rest (bytes_rows k ws)) ∙ numbers_back k ws h)
