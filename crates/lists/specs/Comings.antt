-- What comes of a call that is lent the list to make, as the answer that it stands for.
use Rattle.std.specs.Prelude.{ℕ, ◌≤◌, List, Result, Ok, Err}
use Rattle.model.specs.Growth.{Entries, limit}
use Rattle.tables.specs.declared.Table.{Table}
use Rattle.tables.specs.declared.Refusal.{Refusal}
use Rattle.tables.specs.declared.Answered.{Answered}
use Rattle.tables.specs.Values.{accepts, refuses, table_of}
use Rattle.lists.specs.declared.values.Came.{Came}
use Rattle.lists.specs.declared.values.Came.TheVariants as V
use Rattle.lists.specs.WorkingLists.{Holds}

-- What comes of it: a refusal; the table as it was given; or so many entries of the list. In the code that is a
-- `Result<Came, Refusal>`.
abbrev pub Coming : Type 0
Coming = Result Came Refusal

pattern abbrev pub Refused : Refusal → Coming
Refused r = Err r

pattern abbrev pub Same : Coming
Same = Ok V.Same

pattern abbrev pub Count : ℕ → Coming
Count n = Ok (V.Count n)

-- A count that came is within the limit.
abbrev pub Bounded : Coming → Type 0
Bounded (Refused r) = Unit {0}
Bounded Same = Unit {0}
Bounded (Count n) = n ≤ limit

-- What came is this answer, on the table t: a refusal, with t; accepted, with t; or accepted, with the table of l variables
-- whose entries the list holds.
pub data Comes (l : ℕ) (t : Table) (list : List ℕ) : Coming → Answered → Type 0 where
  turned : (r : Refusal) → Comes l t list (Refused r) (refuses r t)
  stayed : Comes l t list Same (accepts t)
  counted : {n : ℕ} {τ : Entries} → Holds l list n τ → Comes l t list (Count n) (accepts (table_of l τ))
