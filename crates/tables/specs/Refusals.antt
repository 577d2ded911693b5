-- The refusals and their numbers (01, "Refusals").
use Rattle.std.specs.Prelude.{◌≡◌, Bool, false, ◌||◌, List, [], ◌∷◌, ℕ, T, eqb, Result, Ok, Err, ⊤}
use Rattle.tables.specs.declared.Refusal.{Refusal}
use Rattle.tables.specs.declared.Refusal.TheVariants.{Torn, Width, Entries, Stray, Name, Term, Long, Full, Narrow}
use Rattle.tables.specs.declared.Refusal.TheVariants.{Unlike}
use Rattle.tables.specs.declared.Refusal.TheVariants.{Keep, Digit}

-- The number of a refusal, each with 01's word and its condition in the order of 01's table: 1 a length that the sizes do not
-- give; 2 l outside 1 to 32; 3 more than 256 entries; 4 a bit above l, or a value without care; 5 a variable not 1 to l; 6 no
-- whole term; 7 too many equations or tokens; 8 entry 257 needed; 9 an output too short; 10 tables of different l; 11 a
-- projection onto no variable, or onto one above l; of 02, request 1: 12 a packed byte of 243 or more, or an unused digit that
-- is not 0; and of request 7: 4 a bit above l in the group asked for, 11 a group without a variable.
abbrev pub refusal_number : Refusal → ℕ
refusal_number Torn = 1
refusal_number Width = 2
refusal_number Entries = 3
refusal_number Stray = 4
refusal_number Name = 5
refusal_number Term = 6
refusal_number Long = 7
refusal_number Full = 8
refusal_number Narrow = 9
refusal_number Unlike = 10
refusal_number Keep = 11
refusal_number Digit = 12

-- What a call answers: it is accepted, or refused. In the code that is a `Result<(), Refusal>`.
abbrev pub Answer : Type 0
Answer = Result ⊤ Refusal

pattern abbrev pub Accepted : Answer
Accepted = Ok tt

pattern abbrev pub Refused : Refusal → Answer
Refused r = Err r

-- The number of an answer: 0 where accepted.
abbrev pub answer_number : Answer → ℕ
answer_number Accepted = 0
answer_number (Refused r) = refusal_number r

-- Where accepted it goes on, else it stops with what is made of the refusal.
unfoldable pub if_accepted : {A : Type 0} → Answer → (Refusal → A) → A → A
if_accepted Accepted stop next = next
if_accepted (Refused r) stop next = stop r

-- The number is one of ns.
unfoldable pub member : ℕ → List ℕ → Bool
member k [] = false
member k (n ∷ ns) = eqb k n || member k ns

-- The refusal has one of these numbers.
unfoldable pub one_of : List ℕ → Refusal → Bool
one_of ns r = member (refusal_number r) ns

-- Whatever the answer is refused by has one of these numbers.
abbrev pub Numbered : List ℕ → Answer → Type 0
Numbered ns a = (r : Refusal) → a ≡ Refused r → T (one_of ns r)
