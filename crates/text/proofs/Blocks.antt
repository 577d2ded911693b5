-- The text of a table and of an equation: its length, and that a line and then the entries are it. Assumes nothing.
use mathlib.Core.Path.{◌≡◌, sym, ◌∙◌}
use mathlib.Core.List.{List, ◌∷◌}
use Prim.Native.Nat.{ℕ, ◌+◌, ◌*◌, ◌≤◌, ◌<◌}
use native.Mathlib.Nat.{mul-le-mul}
use native.Mathlib.Omega.{arith}
use lib.ListN.{length, length-append}
use lib.Seq.{sets}
use Rattle.tables.specs.declared.Table.{Table}
use Rattle.tables.specs.declared.Refusal.{Refusal}
use Rattle.tables.specs.declared.Refusal.TheVariants as R
use Rattle.tables.specs.Refusals.{Answer}
use Rattle.tables.specs.Refusals.{Accepted, Refused}
use Rattle.tables.specs.Refusals.{refusal_number}
use Rattle.tables.specs.Values.{entries_of, GoodTable}
use Rattle.tables.proofs.Checking.{good_few, width_most}
use Rattle.codec.proofs.Rows.{sets_append}
use Rattle.text.specs.Text.{decimal, line, entries_text}
use Rattle.text.proofs.Writing.{decimal_most, line_length, entries_length}
use Rattle.text.specs.Lines.{eq, entries, refused, block, equation_text}

-- The text of a table, or of an equation, has at most so many bytes.
abbrev pub most_block : ℕ
most_block = 8500

module _ (word : List ℕ) (a : ℕ) {t : Table} (good : GoodTable t) where
  -- The length of the text of a table, as the code computes it.
  pub block_length : length (block word a t)
      ≡ length word + (length (decimal a) + (9 + (length (decimal t.n) + 1))) + t.n * (t.l + 1)
  unfolding block
  block_length =
      length-append (line word a entries t.n) (entries_text (entries_of t))
      ∙ omega (arith, line_length word entries a t.n, entries_length good)

  -- at most 256 lines of 33 characters
  pub entries_most : t.n * (t.l + 1) ≤ 8448
  entries_most =
      let wide = width_most t.l good.width in
      let line : t.l + 1 ≤ 33 = omega (arith, wide) in
      mul-le-mul (good_few good) line

  -- It is not longer.
  pub block_most : length word ≤ 9 → length (block word a t) ≤ most_block
  block_most h = omega (arith, block_length, entries_most, decimal_most a, decimal_most t.n, h)

-- Nor is the text of an equation.
pub equation_most : (k : ℕ) (a : Answer) {t : Table} → GoodTable t → length (equation_text k a t) ≤ most_block
unfolding equation_text
equation_most k Accepted good = block_most eq k good (omega arith)
equation_most k (Refused r) good =
    omega (arith, line_length eq (32 ∷ refused) k (refusal_number r), decimal_most k, decimal_most (refusal_number r))

-- the line of a table and then its entries
pub block_written : (out word : List ℕ) (a at : ℕ) (t : Table) {here : ℕ} → here ≡ at + length (line word a entries t.n)
    → sets (sets out at (line word a entries t.n)) here (entries_text (entries_of t)) ≡ sets out at (block word a t)
unfolding block
block_written out word a at t e = rw e (sym (sets_append (line word a entries t.n) (entries_text (entries_of t)) out at))

-- The number of a refusal has at most three digits.
pub code_small : (r : Refusal) → refusal_number r < 1000
code_small R.Torn = omega arith
code_small R.Width = omega arith
code_small R.Entries = omega arith
code_small R.Stray = omega arith
code_small R.Name = omega arith
code_small R.Term = omega arith
code_small R.Long = omega arith
code_small R.Full = omega arith
code_small R.Narrow = omega arith
code_small R.Unlike = omega arith
code_small R.Keep = omega arith
code_small R.Digit = omega arith
