-- How long the words of a plain form are. Assumes nothing.
use mathlib.Core.Path.{◌≡◌, refl}
use mathlib.Core.Bool.{Bool, true, false, cond}
use mathlib.Core.Logic.{inl, inr}
use mathlib.Core.List.{List, ◌++◌}
use Prim.Native.Nat.{ℕ, ◌+◌, ◌*◌, ◌≤◌, ◌<◌}
use native.Mathlib.Nat.{mul-le-mul}
use native.Mathlib.Omega.{arith}
use borrow.Author.Tests.{leb-true, le-leb, lt-leb}
use lib.Dec.{leb}
use lib.ListN.{take, drop}
use Rattle.tables.specs.declared.Table.{Table}
use Rattle.codec.specs.Numbers.{words, WordSize, bytes}
use Rattle.codec.proofs.Laws.{size_most}
use Rattle.forms.specs.declared.Layout.TheVariants.{Plain}
use Rattle.forms.specs.TableForms.{word_length, table_length, cares, values, entry_bytes}

-- Two bytes or four.
pub two_or_four : (l : ℕ) {k : ℕ} → k ≡ word_length l → WordSize k
unfolding word_length
two_or_four l {k} e = go (leb l 16) e
  where
    go : (c : Bool) → k ≡ cond c 2 4 → WordSize k
    go true f = inl f
    go false f = inr f

-- They have a bit for each of up to 32 positions.
pub positions_fit : (l : ℕ) → l ≤ 32 → l ≤ 8 * word_length l
unfolding word_length
positions_fit l most = go (leb l 16) (leb-true l 16)
  where
    go : (c : Bool) → (c ≡ true → l ≤ 16) → l ≤ 8 * cond c 2 4
    go true f = omega (arith, f refl)
    go false f = omega arith

-- Up to 256 words have at most 1024 bytes.
pub words_most : (l : ℕ) {k n : ℕ} → k ≡ word_length l → n ≤ 256 → k * n ≤ 1024
words_most l e few = mul-le-mul (size_most (two_or_four l e)).1 few

-- Where there is room for a plain form, there is for the words of it.
pub words_room : (l n : ℕ) {k m : ℕ} → k ≡ word_length l → table_length l n ≤ m → 4 + 2 * (k * n) ≤ m
words_room l n e room = rw e room

-- ---- Up to 16 variables, and from 17 on

-- What a plain form of n entries of l positions is where its words have k bytes: its length, its care and its value words.
pub record OfBytes (k l n : ℕ) (b : List ℕ) : Type 0 where
  pub long : table_length l n ≡ 4 + 2 * (k * n)
  pub care_words : cares l n b ≡ words k n (drop 4 b)
  pub value_words : values l n b ≡ words k n (drop (4 + k * n) b)

-- A table's entries are written as words of k bytes, the care words and then the value words.
abbrev pub WrittenIn : ℕ → Table → Type 0
WrittenIn k t = entry_bytes Plain t ≡ bytes k (take t.n t.care ++ take t.n t.value)

of_bytes : (k l n : ℕ) (b : List ℕ) → word_length l ≡ k → OfBytes k l n b
of_bytes k l n b e = record { long = rw e; care_words = rw e; value_words = rw e }

written_in : (k : ℕ) (t : Table) → word_length t.l ≡ k → WrittenIn k t
unfolding entry_bytes
written_in k t e = rw e

two_bytes : (l : ℕ) → l ≤ 16 → word_length l ≡ 2
unfolding word_length
two_bytes l few = rw (le-leb l 16 few)

four_bytes : (l : ℕ) → 16 < l → word_length l ≡ 4
unfolding word_length
four_bytes l more = rw (lt-leb l 16 more)

-- Up to 16 variables a form is read and written as in 01.
pub up_to_16 : (l n : ℕ) (b : List ℕ) → l ≤ 16 → OfBytes 2 l n b
up_to_16 l n b few = of_bytes 2 l n b (two_bytes l few)

pub written_to_16 : (t : Table) → t.l ≤ 16 → WrittenIn 2 t
written_to_16 t few = written_in 2 t (two_bytes t.l few)

-- From 17 on its words have four bytes.
pub from_17 : (l n : ℕ) (b : List ℕ) → 16 < l → OfBytes 4 l n b
from_17 l n b more = of_bytes 4 l n b (four_bytes l more)

pub written_from_17 : (t : Table) → 16 < t.l → WrittenIn 4 t
written_from_17 t more = written_in 4 t (four_bytes t.l more)
