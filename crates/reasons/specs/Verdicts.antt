-- What is told of a group s after x = t on a positive table (02, request 7), the number and the words of each case, and the
-- call on table values: 2, 3, 4 of the table; 7, 5, 5, 6 of the equation; 4 for a bit of s above l; 11 for s = 0.
use Rattle.std.specs.Prelude.{Bool, cond, List, ℕ, ◌^◌, ltb, Result, Ok, Err}
use Rattle.std.proofs.Math.Option.{Option, some, none}
use Rattle.model.specs.Groups.{Bits, meets, or}
use Rattle.model.specs.Growth.{Entries, covered}
use Rattle.model.specs.Terms.{var, variables}
use Rattle.model.specs.Equations.{Equation, Kind, itself, deeper, plain, kind}
use Rattle.model.specs.Reasons.{covers_inside, lowest, made_up}
use Rattle.words.specs.Words.{set}
use Rattle.tables.specs.declared.Table.{Table}
use Rattle.tables.specs.declared.Refusal.{Refusal}
use Rattle.tables.specs.declared.Refusal.TheVariants as R
use Rattle.tables.specs.Refusals.{Answer}
use Rattle.tables.specs.Refusals as A
use Rattle.tables.specs.Refusals.{refusal_number, if_accepted}
use Rattle.tables.specs.Values.{entries_of, check_table}
use Rattle.terms.specs.Checks.{check_equation, if_read}
use Rattle.reasons.specs.declared.Reason.{Reason}
use Rattle.reasons.specs.declared.Reason.TheVariants.{NoXEntry, NoTEntry, NotMadeUp, NotThere, NoSolution}
use Rattle.reasons.specs.declared.Verdict as D
use Rattle.reasons.specs.declared.Verdict.TheVariants as V

-- What is told of a group: kept, joined or absent, or a refusal. In the code that is a `Result<Verdict, Refusal>`.
abbrev pub Verdict : Type 0
Verdict = Result D.Verdict Refusal

pattern abbrev pub Kept : Verdict
Kept = Ok V.Kept

pattern abbrev pub Joined : ℕ → ℕ → Verdict
Joined i j = Ok (V.Joined i j)

pattern abbrev pub Absent : Reason → Verdict
Absent r = Ok (V.Absent r)

pattern abbrev pub Refused : Refusal → Verdict
Refused r = Err r

-- ---- Numbers and words

-- The number of a verdict: 0, or that of the refusal.
abbrev pub verdict_number : Verdict → ℕ
verdict_number Kept = 0
verdict_number (Joined i j) = 0
verdict_number (Absent r) = 0
verdict_number (Refused r) = refusal_number r

-- The word of a reason.
abbrev pub reason_word : Reason → ℕ
reason_word NoXEntry = 2
reason_word NoTEntry = 3
reason_word NotMadeUp = 4
reason_word NotThere = 5
reason_word NoSolution = 6

-- The word of a verdict, in place of the word w: 0 for kept, 1 for joined, 2 to 6 for absent, and w itself where the call is
-- refused.
abbrev pub verdict_word : Verdict → ℕ → ℕ
verdict_word Kept w = 0
verdict_word (Joined i j) w = 1
verdict_word (Absent r) w = reason_word r
verdict_word (Refused r) w = w

-- The word of the x entry, in place of the word w: 0 unless s is joined, and w itself where the call is refused.
abbrev pub x_word : Verdict → ℕ → ℕ
x_word Kept w = 0
x_word (Joined i j) w = i
x_word (Absent r) w = 0
x_word (Refused r) w = w

-- The word of the t entry, likewise.
abbrev pub t_word : Verdict → ℕ → ℕ
t_word Kept w = 0
t_word (Joined i j) w = j
t_word (Absent r) w = 0
t_word (Refused r) w = w

-- ---- The verdict

-- A group that the equation does not touch is kept where the table has it.
unfoldable pub untouched : Entries → Bits → Verdict
untouched τ s = cond (covered τ s) Kept (Absent NotThere)

-- A relevant group, by its x entry, its t entry and whether the relevant groups inside it make it up, in that order.
unfoldable pub joins : Option ℕ → Option ℕ → Bool → Verdict
joins none j m = Absent NoXEntry
joins (some i) none m = Absent NoTEntry
joins (some i) (some j) m = cond m (Joined i j) (Absent NotMadeUp)

-- A relevant group, for x alone in mx and t's variables in mt.
unfoldable pub touched : ℕ → Bits → Bits → Entries → Bits → Verdict
touched l mx mt τ s =
    joins (lowest (covers_inside l s mx) τ) (lowest (covers_inside l s mt) τ) (made_up l s (or mx mt) τ)

-- A group is relevant where it has x or a variable of t.
unfoldable pub verdict_of_sets : ℕ → Bits → Bits → Entries → Bits → Verdict
verdict_of_sets l mx mt τ s = cond (meets (or mx mt) s) (touched l mx mt τ s) (untouched τ s)

-- By the kind of the equation: x = x touches no group, and a term that holds x deeper leaves none.
unfoldable pub verdict_of_kind : Kind → ℕ → Equation → Entries → Bits → Verdict
verdict_of_kind itself l e τ s = untouched τ s
verdict_of_kind deeper l e τ s = Absent NoSolution
verdict_of_kind plain l e τ s = verdict_of_sets l (variables l (var e.left)) (variables l e.right) τ s

-- The verdict on a group s of l variables.
unfoldable pub verdict : ℕ → Equation → Entries → Bits → Verdict
verdict l e τ s = verdict_of_kind (kind e) l e τ s

-- ---- The call

-- The checks of a group s of l variables: 4 where it has a bit above l, then 11 where it is 0.
unfoldable pub check_group : ℕ → ℕ → Answer
check_group l s = cond (ltb s (2 ^ l)) (cond (ltb 0 s) A.Accepted (A.Refused R.Keep)) (A.Refused R.Stray)

-- The group s after an equation that was read, on a positive table.
unfoldable pub group_call : Table → Equation → ℕ → Verdict
group_call t e s = if_accepted (check_group t.l s) Refused (verdict t.l e (entries_of t) (set t.l s))

-- The group s after the equation Xx = the term of the tokens ts.
unfoldable pub reason_call : Table → ℕ → List ℕ → ℕ → Verdict
reason_call t x ts s =
    if_accepted (check_table t) Refused
    (if_read (check_equation t.l x ts) Refused (λ u. group_call t (record { left = x; right = u }) s))
