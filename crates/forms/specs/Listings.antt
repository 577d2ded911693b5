-- What comes of reading a form into a list that is lent, as the answer that it stands for.
use Rattle.std.specs.Prelude.{◌≡◌, true, List, ℕ, Result, Ok, Err}
use Rattle.model.specs.Growth.{Entries}
use Rattle.tables.specs.declared.Refusal.{Refusal}
use Rattle.tables.specs.declared.Answered.{Answered}
use Rattle.tables.specs.Values.{table_of, zero_table, accepts, refuses, good_width}
use Rattle.lists.specs.WorkingLists.{Holds}
use Rattle.forms.specs.declared.Sizes.{Sizes}

-- What was read: the sizes of the list, or a refusal. In the code that is a `Result<Sizes, Refusal>`.
abbrev pub Listed : Type 0
Listed = Result Sizes Refusal

abbrev pub Read : ℕ → ℕ → Listed
Read l n = Ok (record { l = l; n = n })

pattern abbrev pub Refused : Refusal → Listed
Refused r = Err r

-- What came is this answer: a refusal, with a table all zero; or accepted, with the table of 1 to 32 variables whose entries
-- the list holds.
pub data Reads (list : List ℕ) : Listed → Answered → Type 0 where
  unread : (r : Refusal) → Reads list (Refused r) (refuses r zero_table)
  listed : {l n : ℕ} {τ : Entries} → good_width l ≡ true → Holds l list n τ → Reads list (Read l n) (accepts (table_of l τ))
