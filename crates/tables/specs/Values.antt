-- Table values: the value of a list of strings and back, the check of a value, and what a constructor answers.
use Rattle.std.specs.Prelude.{◌≡◌, Bool, true, ◌&&◌, cond, List, map, ℕ, zero, suc, ◌-◌, ◌^◌, ltb, leb, eqb, length, get_or, replicate}
use Rattle.std.proofs.Math.Option.{Option, some, none}
use Rattle.std.specs.Int.Bits.{bit_and}
use Rattle.model.specs.Growth.{Entries, limit}
use Rattle.model.specs.Tables.{Good}
use Rattle.words.specs.declared.Entry.{Entry}
use Rattle.tables.specs.declared.Table.{Table}
use Rattle.tables.specs.declared.Refusal.{Refusal}
use Rattle.tables.specs.declared.Refusal.TheVariants as R
use Rattle.tables.specs.Refusals.{Answer}
use Rattle.tables.specs.Refusals.{Accepted, Refused}
use Rattle.tables.specs.declared.Answered.{Answered}
use Rattle.tables.specs.Lists.{list_words, strings}

-- A table has 1 to 32 variables (01 had 16; 02, request 5).
abbrev pub most_variables : ℕ
most_variables = 32

-- ---- The value of a list, and back

-- The table that stands for a list of strings of l positions: its words, with zeros up to 256.
unfoldable pub table_of : ℕ → Entries → Table
table_of l τ = record {
  l = l;
  n = length τ;
  care = map (λ (e : Entry). e.care) (list_words τ);
  value = map (λ (e : Entry). e.value) (list_words τ);
}

-- The list of strings that a table stands for.
unfoldable pub entries_of : Table → Entries
entries_of t = strings t.l t.care t.value t.n

-- A count of n, and all words 0.
abbrev pub zeros_of : ℕ → ℕ → Table
zeros_of l n = record { l = l; n = n; care = replicate limit 0; value = replicate limit 0 }

-- l, count and entries all 0: what a refusal returns where no table value came in.
unfoldable pub zero_table : Table
zero_table = zeros_of 0 0

-- ---- Answers

-- Accepted, with the table.
abbrev pub accepts : Table → Answered
accepts t = record { answer = Accepted; table = t }

-- Refused, with the table that is returned.
abbrev pub refuses : Refusal → Table → Answered
refuses r t = record { answer = Refused r; table = t }

-- A list as a table of l variables; full where no list was given, with the table that is returned then.
unfoldable pub made_or_full : ℕ → Table → Option Entries → Answered
made_or_full l t (some τ) = accepts (table_of l τ)
made_or_full l t none = refuses R.Full t

-- ---- The check of a table value

-- l is 1 to 32.
unfoldable pub good_width : ℕ → Bool
good_width l = ltb 0 l && leb l most_variables

-- No bit above l, and no value without care.
unfoldable pub clean : ℕ → Entry → Bool
clean l e = ltb e.care (2 ^ l) && eqb (bit_and e.value e.care) e.value

-- The entry is zero.
unfoldable pub is_zero : Entry → Bool
is_zero e = eqb e.care 0 && eqb e.value 0

-- The words at an index of two arrays.
abbrev pub entry_at : List ℕ → List ℕ → ℕ → Entry
entry_at care value i = record { care = get_or care i 0; value = get_or value i 0 }

-- The test holds of the n indexes from i on.
unfoldable pub all_from : ℕ → ℕ → (ℕ → Bool) → Bool
all_from i zero p = true
all_from i (suc n) p = p i && all_from (suc i) n p

-- The first n entries are clean.
unfoldable pub all_clean : ℕ → ℕ → List ℕ → List ℕ → Bool
all_clean l n care value = all_from 0 n (λ i. clean l (entry_at care value i))

-- The entries past the count are zero.
unfoldable pub zero_past : ℕ → List ℕ → List ℕ → Bool
zero_past n care value = all_from n (limit - n) (λ i. is_zero (entry_at care value i))

-- A table handed over as a value meets 2, 3, and 4 by entry, 4 also for a nonzero entry past its count.
unfoldable pub check_table : Table → Answer
check_table t =
    cond (good_width t.l)
    (cond (leb t.n limit)
    (cond (all_clean t.l t.n t.care t.value && zero_past t.n t.care t.value) Accepted (Refused R.Stray))
    (Refused R.Entries))
    (Refused R.Width)

-- A good table value: the table of a good list of strings of 1 to 32 positions.
pub record GoodTable (t : Table) : Type 0 where
  pub width : good_width t.l ≡ true
  pub list : Good t.l (entries_of t)
  pub same : t ≡ table_of t.l (entries_of t)

-- ---- Constructors

-- The table of one list, or 2 for a bad width.
unfoldable pub of_width : ℕ → Entries → Answered
of_width l τ = cond (good_width l) (accepts (table_of l τ)) (refuses R.Width zero_table)
