-- 01's example, from groups to goals, computed by the checker. The groups of row c are converted; the table describes three
-- unbound variables. X1 = f(X2) and X3 = a are called, and the last table, 110, describes the bindings that are reached. It
-- says that X1 and X3 are independent and that X3 is ground, so goals on X1 and X3 share no run-time variable. Assumes
-- nothing.
use mathlib.Core.Path.{◌≡◌, refl, ap, ◌∙◌}
use mathlib.Core.List.{List, [], ◌∷◌, map}
use mathlib.Core.Logic.{inl, inr}
use mathlib.Core.Option.{some}
use Prim.Native.Nat.{ℕ}
use Rattle.model.specs.Groups.{Bits, Among}
use Rattle.model.specs.Growth.{Entries}
use Rattle.model.specs.Terms.{var, apply, apply_row}
use Rattle.model.specs.Tables.{positive, Good}
use Rattle.model.specs.Questions.{every, every_group, stands_for, ground, independent}
use Rattle.model.specs.Walk.{Sides}
use Rattle.model.specs.Unification.{unification}
use Rattle.model.specs.Bindings.{Bindings, bound, as_bound, apply_all, Describes}
use Rattle.model.specs.Goals.{Occurs, ShareNone, NoVariable}
use Rattle.model.specs.Calls.{Event, accepted, Reaches}
use Rattle.model.specs.Marked.{f_of, a_constant, table_c, table_d, table_e}
use Rattle.model.proofs.OccursCheck.{plain_other}
use Rattle.model.proofs.Computing.{equations, procedures}
use Rattle.model.proofs.Demand2.{convert_good}
use Rattle.model.proofs.Demand3.{describes_more, with_variable, equation_reaches}
use Rattle.model.proofs.Example.{gives, gives_admitted, start, start_table, start_good, start_described}
use Rattle.words.specs.Words.{set}
use Rattle.tables.specs.Refusals.{Answer}
use Rattle.tables.specs.Refusals.{if_accepted}
use Rattle.tables.specs.Values.{check_table, table_of, accepts, made_or_full, good_width}
use Rattle.tables.proofs.Values.{entries_of_table}
use Rattle.tables.proofs.Checking.{good_passes}
use Rattle.terms.specs.Checks.{Written, one_term}
use Rattle.terms.specs.Checks as C
use Rattle.conversion.specs.Conversion.{all_below}
use Rattle.operations.specs.Operations.{convert_call}
use Rattle.operations.specs.Outcomes.{groups_of}
use Rattle.questions.specs.Replies.{Reply}
use Rattle.questions.specs.Replies.{Yes, No, Refused}
use Rattle.questions.specs.Replies.{replies, good_sets, ground_call, independent_call}
use Rattle.demands.specs.Demand3.{Calls, end}
use Rattle.words.proofs.Codec.{sets_long}
use Rattle.demands.proofs.Demand3.{calls_described}
use Rattle.demands.proofs.OnEntries.{term_checks, walking, value_good, value_groups, made_good, call_accepted}
use Rattle.worked_examples.proofs.Example.{three, three_wide}
use Rattle.demands.proofs.Goals.{convert_describes, independent_goals, ground_goal}

-- ---- The first table

-- The words of the groups 100, 010, 011, 001.
abbrev pub row : List ℕ
row = 1 ∷ 2 ∷ 6 ∷ 4 ∷ []

-- They convert to the table of row c.
pub converts : convert_call 3 row ≡ accepts (three table_c)
unfolding procedures convert_call made_or_full good_width all_below set
converts = refl

-- the groups of three unbound variables convert too
start_converts : convert_call 3 (1 ∷ 2 ∷ 4 ∷ []) ≡ accepts (three start_table)
unfolding procedures convert_call made_or_full good_width all_below set
start_converts = refl

-- they are among those of the row
in_row : (g : Bits) → Among (map (set 3) (1 ∷ 2 ∷ 4 ∷ [])) g → Among (map (set 3) row) g
unfolding Among
in_row g (inl e) = inl e
in_row g (inr (inl e)) = inr (inl e)
in_row g (inr (inr (inl e))) = inr (inr (inr (inl e)))
in_row g (inr (inr (inr h))) = absurd h

-- The table of row c describes three unbound variables.
pub first_described : Describes (groups_of positive (three table_c)) start
first_described =
    (convert_describes 3 row (three table_c) start converts).0
    (describes_more (Among (map (set 3) (1 ∷ 2 ∷ 4 ∷ []))) (Among (map (set 3) row)) start in_row
    ((convert_describes 3 (1 ∷ 2 ∷ 4 ∷ []) (three start_table) start start_converts).1
    (rw (value_groups positive three_wide start_good) start_described)))

c_good : Good 3 table_c
unfolding procedures set
c_good = (convert_good 3 (map (set 3) row) table_c (sets_long 3 row) refl).0

-- ---- The equations

-- X1 = f(X2) and X3 = a, as they are written and as two sides
abbrev f_written : Written
f_written = one_term 1 (32785 ∷ 2 ∷ [])

abbrev a_written : Written
a_written = one_term 3 (32800 ∷ [])

abbrev f_sides : Sides
f_sides = with_variable 1 (f_of 2)

abbrev a_sides : Sides
a_sides = with_variable 3 a_constant

f_reads : C.check_written 3 f_written ≡ C.reads f_sides
unfolding term_checks
f_reads = refl

a_reads : C.check_written 3 a_written ≡ C.reads a_sides
unfolding term_checks
a_reads = refl

f_makes : unification positive 3 f_sides table_c ≡ some table_d
unfolding walking
f_makes = refl

a_makes : unification positive 3 a_sides table_d ≡ some table_e
unfolding walking
a_makes = refl

d_good : Good 3 table_d
d_good = made_good positive three_wide c_good f_sides f_makes

e_good : Good 3 table_e
e_good = made_good positive three_wide d_good a_sides a_makes

-- X1 = f(X2), then X3 = a, both accepted.
abbrev pub both : List Event
both = accepted f_sides ∷ accepted a_sides ∷ []

-- The calls from the table of row c to that of row e.
pub both_called : Calls positive (three table_c) both (three table_e)
both_called =
    call_accepted positive three_wide c_good f_written f_makes f_reads
    (call_accepted positive three_wide d_good a_written a_makes a_reads end)

-- The bindings after both: X1 is f of X2's run-time variable, and X3 is a.
abbrev pub last : Bindings
last = f_of 2 ∷ var 2 ∷ a_constant ∷ []

-- The model reaches them, by an admitted unifier at each equation.
pub last_reached : Reaches start both last
unfolding bound as_bound apply apply_row apply_all Reaches equations
last_reached =
    (equation_reaches start last 1 (f_of 2) (accepted a_sides ∷ []) (plain_other refl)).1 (
      gives 1 (f_of 2),
      gives_admitted 1 (f_of 2) refl refl,
      (equation_reaches (f_of 2 ∷ var 2 ∷ var 3 ∷ []) last 3 a_constant [] (plain_other refl)).1
          (gives 3 a_constant, gives_admitted 3 a_constant refl refl, refl),
    )

-- The last table describes them.
pub last_described : Describes (groups_of positive (three table_e)) last
last_described =
    (calls_described positive both_called (value_good positive three_wide c_good) start last first_described last_reached).1

-- ---- The questions

-- the last table passes its check
asked : (q : Reply) → if_accepted (check_table (three table_e)) Refused q ≡ q
unfolding if_accepted
asked q =
    ap (λ (a : Answer). if_accepted a Refused q) (good_passes (three table_e) (value_good positive three_wide e_good))

-- X1 and X3 are independent.
pub apart : independent_call positive (three table_e) 1 4 ≡ Yes
unfolding procedures every every_group stands_for independent independent_call if_accepted good_sets replies set table_of
apart =
    asked _
    ∙ ap (λ (τ : Entries). replies (independent positive 3 τ (set 3 1) (set 3 4))) (entries_of_table 3 table_e e_good)

-- So goals on them share no run-time variable.
pub goals : ShareNone last (set 3 1) (set 3 4)
unfolding table_of
goals = independent_goals positive (three table_e) 1 4 last apart last_described

-- X3 is ground.
pub third_ground : ground_call positive (three table_e) 3 ≡ Yes
unfolding procedures every every_group stands_for ground ground_call if_accepted replies table_of
third_ground =
    asked _
    ∙ ap (λ (τ : Entries). replies (ground positive 3 τ 3)) (entries_of_table 3 table_e e_good)

-- So its term has no run-time variable.
pub third_goal : NoVariable last 3
third_goal = ground_goal positive (three table_e) 3 last third_ground last_described

-- X1 and X2 are not independent.
pub not_apart : independent_call positive (three table_e) 1 2 ≡ No
unfolding procedures every every_group stands_for independent independent_call if_accepted good_sets replies set table_of
not_apart =
    asked _
    ∙ ap (λ (τ : Entries). replies (independent positive 3 τ (set 3 1) (set 3 2))) (entries_of_table 3 table_e e_good)

-- And goals on them do share one: X2's run-time variable is in both terms.
pub shared : Occurs last (set 3 1) 2 × Occurs last (set 3 2) 2
unfolding procedures bound set
shared = (record { x = 1; member = tt; inside = tt }, record { x = 2; member = tt; inside = tt })
