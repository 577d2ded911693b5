-- Texts: their lengths, and one more byte, entry or part of a line written. Assumes nothing.
use mathlib.Core.Path.{◌≡◌, refl, sym, ap, ◌∙◌}
use mathlib.Core.Bool.{Bool, true, false, cond}
use mathlib.Core.List.{List, [], ◌∷◌}
use Prim.Native.Nat.{ℕ, zero, suc, ◌+◌, ◌*◌, ◌/◌, ◌%◌, ◌≤◌, ◌<◌}
use native.Mathlib.Nat.{zero-mul, suc-mul}
use native.Mathlib.Numerals.{add-one}
use native.Mathlib.Omega.{arith}
use borrow.Author.Tests.{lt-ltb, le-ltb}
use lib.Dec.{ltb}
use lib.ListN.{length, get_or, drop, set, length-append, drop_of_length-le}
use lib.Seq.{drop-cons, sets}
use Rattle.model.specs.Strings.{Trits}
use Rattle.model.specs.Growth.{Entries}
use Rattle.model.specs.Tables.{Wide}
use Rattle.words.specs.Words.{string, trit_of}
use Rattle.words.proofs.Codec.{string_of_entry}
use Rattle.tables.specs.declared.Table.{Table}
use Rattle.tables.specs.Values.{entries_of, GoodTable}
use Rattle.tables.proofs.Arrays.{stores_at, stores_length}
use Rattle.tables.proofs.Checking.{good_holds}
use Rattle.codec.proofs.Rows.{sets_append}
use Rattle.text.specs.Text.{newline, digit, decimal, line, character, entry_text, entries_text}

-- ---- Numbers

module _ (n : ℕ) where
  -- Below 10.
  pub one_digit : n < 10 → decimal n ≡ digit n ∷ []
  unfolding decimal
  one_digit h = rw (lt-ltb n 10 h)

  -- From 10 on, below 100.
  pub two_digits : 10 ≤ n → n < 100 → decimal n ≡ digit (n / 10) ∷ digit (n % 10) ∷ []
  unfolding decimal
  two_digits g h = rw (le-ltb n 10 g, lt-ltb n 100 h)

  -- From 100 on.
  pub three_digits : 100 ≤ n → decimal n ≡ digit (n / 100) ∷ digit (n / 10 % 10) ∷ digit (n % 10) ∷ []
  unfolding decimal
  three_digits g = rw (le-ltb n 10 (omega arith), le-ltb n 100 g)

  -- At most three digits.
  pub decimal_most : length (decimal n) ≤ 3
  unfolding decimal
  decimal_most = go (ltb n 10) (ltb n 100)
    where
      go : (a b : Bool) → length (cond a (digit n ∷ []) (cond b (digit (n / 10) ∷ digit (n % 10) ∷ [])
          (digit (n / 100) ∷ digit (n / 10 % 10) ∷ digit (n % 10) ∷ []))) ≤ 3
      go true b = omega arith
      go false true = omega arith
      go false false = omega arith

-- The length of a line, as the code computes it.
pub line_length : (v w : List ℕ) (a b : ℕ)
    → length (line v a w b) ≡ length v + (length (decimal a) + (length w + (length (decimal b) + 1)))
unfolding line
line_length v w a b =
    simp length-append

-- the parts of a line written one after another
pub line_written : (out v w : List ℕ) (a b at : ℕ) {first second third end : ℕ} → first ≡ at + length v
    → second ≡ first + length (decimal a) → third ≡ second + length w → end ≡ third + length (decimal b)
    → set (sets (sets (sets (sets out at v) first (decimal a)) second w) third (decimal b)) end newline
    ≡ sets out at (line v a w b)
unfolding line
line_written out v w a b at {first} {second} {third} {end} e₁ e₂ e₃ e₄ =
    rw (e₄, e₃, e₂, e₁)
    (sym (sets_append v _ out at ∙ sets_append (decimal a) _ (sets out at v) _ ∙ sets_append w _ _ _
    ∙ sets_append (decimal b) _ _ _))

-- ---- Entries

-- A fixed position whose value is 0.
pub fixed_zero : (c v : ℕ) → (c ≡ 0 → ⊥) → v ≡ 0 → digit 0 ≡ character (trit_of c v)
fixed_zero zero v ne e = absurd (ne refl)
fixed_zero (suc c) zero ne e = refl
fixed_zero (suc c) (suc v) ne e = absurd (omega arith)

-- A fixed position whose value is 1.
pub fixed_one : (c v : ℕ) → (c ≡ 0 → ⊥) → (v ≡ 0 → ⊥) → digit 1 ≡ character (trit_of c v)
fixed_one zero v ne f = absurd (ne refl)
fixed_one (suc c) zero ne f = absurd (f refl)
fixed_one (suc c) (suc v) ne f = refl

pub entry_length : (s : Trits) → length (entry_text s) ≡ length s + 1
unfolding entry_text
entry_length [] = refl
entry_length (t ∷ s) = omega (arith, entry_length s)

module _ {t : Table} (good : GoodTable t) (i : ℕ) (lt : i < t.n) where
  -- the entry at an index
  abbrev pub here : Trits
  here = get_or (entries_of t) i []

  pub entries_from : drop i (entries_of t) ≡ here ∷ drop (i + 1) (entries_of t)
  entries_from =
      drop-cons (entries_of t) i [] (omega (arith, lt, (good_holds good).count))
      ∙ ap (λ (k : ℕ). here ∷ drop k (entries_of t)) (sym (add-one i))

  -- the words at that index are its words
  pub entry_here : string t.l (record { care = get_or t.care i 0; value = get_or t.value i 0 }) ≡ here
  entry_here =
      string_of_entry t.l _ here (stores_length (good_holds good) i lt) (stores_at (good_holds good) i lt)

  -- its line
  pub here_length : length (entry_text here) ≡ t.l + 1
  here_length = entry_length here ∙ ap (λ (k : ℕ). k + 1) (stores_length (good_holds good) i lt)

  -- what is left to write is one line longer than after it
  pub left_length : length (entries_text (drop i (entries_of t)))
      ≡ (t.l + 1) + length (entries_text (drop (i + 1) (entries_of t)))
  unfolding entries_text
  left_length =
      rw entries_from (length-append (entry_text here) (entries_text (drop (i + 1) (entries_of t)))
      ∙ ap (λ (k : ℕ). k + length (entries_text (drop (i + 1) (entries_of t)))) here_length)

-- After the last entry nothing is left.
pub entries_end : {t : Table} → GoodTable t → (i : ℕ) → t.n ≤ i → entries_text (drop i (entries_of t)) ≡ []
unfolding entries_text
entries_end {t} good i le =
    ap entries_text (drop_of_length-le (entries_of t) {i = i} (omega (arith, le, (good_holds good).count)))

-- the length of all entries
pub entries_length : {t : Table} → GoodTable t → length (entries_text (entries_of t)) ≡ t.n * (t.l + 1)
unfolding entries_text Wide
entries_length {t} good =
    let h = good_holds good in
    go (entries_of t) h.good.wide ∙ ap (λ (k : ℕ). k * (t.l + 1)) (sym h.count)
  where
    go : (τ : Entries) → Wide t.l τ → length (entries_text τ) ≡ length τ * (t.l + 1)
    go [] w = sym (zero-mul (t.l + 1))
    go (s ∷ τ) w =
        length-append (entry_text s) (entries_text τ)
        ∙ omega (arith, entry_length s, w.0, go τ w.1, suc-mul (length τ) (t.l + 1))
