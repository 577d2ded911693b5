-- The three questions on table values (01, "Questions" and "Refusals"): 2, 3, 4 of each table; 5 for a variable not 1 to l; 10.
use Rattle.std.specs.Prelude.{Bool, true, false, ◌&&◌, cond, ℕ, ◌^◌, ltb, eqb, Result, Ok, Err}
use Rattle.model.specs.Tables.{Side, positive}
use Rattle.model.specs.Tokens.{named}
use Rattle.model.specs.Questions.{equal, ground, independent}
use Rattle.words.specs.Words.{set}
use Rattle.tables.specs.declared.Table.{Table}
use Rattle.tables.specs.declared.Refusal.{Refusal}
use Rattle.tables.specs.declared.Refusal.TheVariants as R
use Rattle.tables.specs.Refusals.{refusal_number, if_accepted}
use Rattle.tables.specs.Values.{entries_of, check_table}

-- What a question is answered: yes, no, or a refusal. In the code that is a `Result<bool, Refusal>`.
abbrev pub Reply : Type 0
Reply = Result Bool Refusal

pattern abbrev pub Yes : Reply
Yes = Ok true

pattern abbrev pub No : Reply
No = Ok false

pattern abbrev pub Refused : Refusal → Reply
Refused r = Err r

-- An answer as a reply.
unfoldable pub replies : Bool → Reply
replies b = cond b Yes No

-- The number of a reply: 0 for yes and for no, else that of the refusal.
abbrev pub reply_number : Reply → ℕ
reply_number Yes = 0
reply_number No = 0
reply_number (Refused r) = refusal_number r

-- The word of a reply, in place of the word w: 1 for yes, 0 for no, and w itself where the question is refused.
abbrev pub reply_word : Reply → ℕ → ℕ
reply_word Yes w = 1
reply_word No w = 0
reply_word (Refused r) w = w

-- Are two tables of one side equal in groups? The test is the same for both sides: `equal_sides`.
unfoldable pub equal_call : Table → Table → Reply
equal_call t u =
    if_accepted (check_table t) Refused (if_accepted (check_table u) Refused
    (cond (eqb t.l u.l) (replies (equal positive t.l (entries_of t) (entries_of u))) (Refused R.Unlike)))

-- Is the variable Xx ground?
unfoldable pub ground_call : Side → Table → ℕ → Reply
ground_call side t x = if_accepted (check_table t) Refused
    (cond (named t.l x) (replies (ground side t.l (entries_of t) x)) (Refused R.Name))

-- No bit above l in either set.
unfoldable pub good_sets : ℕ → ℕ → ℕ → Bool
good_sets l a b = ltb a (2 ^ l) && ltb b (2 ^ l)

-- Are two sets of variables independent?
unfoldable pub independent_call : Side → Table → ℕ → ℕ → Reply
independent_call side t a b =
    if_accepted (check_table t) Refused
    (cond (good_sets t.l a b) (replies (independent side t.l (entries_of t) (set t.l a) (set t.l b))) (Refused R.Name))
