-- The premises of demand 3 of a list of calls can be met, with calls of both kinds, on values and on bytes. From
-- three unbound variables: X1 = f(X2, X3) on byte buffers, whose table is the form of the first one; X4 = X1 on a
-- table value, which is refused; and on a table value f(X1, X2) = f(f(X2, X3), g(X3)), whose walk finds the first
-- equation, which is in force already, and X2 = g(X3). Each equation found has an admitted unifier, and the last
-- table describes the bindings that are reached. One more call, on byte buffers, clashes: no bindings go on from it,
-- and its table stands for no groups. Both lists are stated of either side; here the first is concluded of the
-- positive one. Assumes nothing.
use mathlib.Core.Path.{◌≡◌, refl, subst}
use mathlib.Core.Bool.{true}
use mathlib.Core.List.{List, [], ◌∷◌, map}
use mathlib.Core.Option.{some, none}
use Prim.Native.Nat.{ℕ, ◌≤◌}
use native.Mathlib.Omega.{arith}
use lib.ListN.{length, replicate}
use Rattle.model.specs.Groups.{Bits, Groups}
use Rattle.model.specs.Strings.{t1, t*}
use Rattle.model.specs.Growth.{◌>>=◌, Entries, Reduced}
use Rattle.model.specs.Terms.{var, head, nil, arity, apply, apply_row}
use Rattle.model.specs.Tables.{Side, positive, negative, Good, groups, no_groups}
use Rattle.model.specs.Walk.{Sides, both, walk, walk_row}
use Rattle.model.specs.Unification.{AfterWalk, walk_entries, unification}
use Rattle.model.specs.Bindings.{Bindings, bound, as_bound, apply_all, Describes}
use Rattle.model.specs.Calls.{Step, unified, Steps, Walks, Event, accepted, refused, Reaches}
use Rattle.model.proofs.OccursCheck.{plain_other}
use Rattle.model.proofs.Computing.{procedures}
use Rattle.model.proofs.Demand2.{convert_good}
use Rattle.model.proofs.Unification.{walk_exact}
use Rattle.model.proofs.Example.{gives, gives_admitted, f_of, g_of, first, second, sides_of, together, start, start_table}
use Rattle.model.proofs.Example.{start_described, plains, end, end_table}
use Rattle.words.specs.Words.{set}
use Rattle.words.proofs.Codec.{sets_long}
use Rattle.tables.specs.declared.Table.{Table}
use Rattle.tables.specs.declared.Refusal.TheVariants as R
use Rattle.tables.specs.Refusals.{Accepted}
use Rattle.tables.specs.Values.{table_of, good_width, GoodTable}
use Rattle.terms.specs.Checks.{Written, one_term, two_terms}
use Rattle.terms.specs.Checks as C
use Rattle.operations.specs.Outcomes.{groups_of}
use Rattle.forms.specs.TableForms.{word_length}
use Rattle.byte_calls.specs.ByteCalls.{written_tokens}
use Rattle.byte_calls.proofs.AfterChecks.{check_all_bytes}
use Rattle.demands.specs.Demand3.{Calls}
use Rattle.demands.specs.Demand3 as S
use Rattle.demands.proofs.Demand3.{calls_described}
use Rattle.demands.proofs.OnEntries.{term_checks, bytes_checks, walking, value_good, value_groups, value_refused}
use Rattle.demands.proofs.OnEntries.{made_good, made_reduced, call_refused, call_accepted, bytes_accepted}

-- ---- The equations as bytes, which a call on a table value gets as their tokens

-- X1 = f(X2, X3).
abbrev pub first_bytes : Written
first_bytes = one_term 1 (18 ∷ 128 ∷ 2 ∷ 0 ∷ 3 ∷ 0 ∷ [])

-- X4 = X1.
abbrev pub unnamed_bytes : Written
unnamed_bytes = one_term 4 (1 ∷ 0 ∷ [])

-- f(X1, X2) = f(f(X2, X3), g(X3)).
abbrev pub together_bytes : Written
together_bytes =
    two_terms (18 ∷ 128 ∷ 1 ∷ 0 ∷ 2 ∷ 0 ∷ []) (18 ∷ 128 ∷ 18 ∷ 128 ∷ 2 ∷ 0 ∷ 3 ∷ 0 ∷ 33 ∷ 128 ∷ 3 ∷ 0 ∷ [])

-- f(X1, g(X3)) = f(X2, g), with g of no arguments: its walk finds X1 = X2, and then it clashes.
abbrev pub apart_bytes : Written
apart_bytes = two_terms (18 ∷ 128 ∷ 1 ∷ 0 ∷ 33 ∷ 128 ∷ 3 ∷ 0 ∷ []) (18 ∷ 128 ∷ 2 ∷ 0 ∷ 32 ∷ 128 ∷ [])

abbrev pub apart : Sides
apart = record { left = f_of (var 1) (g_of (var 3)); right = f_of (var 2) (head 2 nil) }

-- The bytes pass their check and read as these two sides, about three variables.
pub record ReadAs (w : Written) (s : Sides) : Type 0 where
  pub passes : check_all_bytes w ≡ Accepted
  pub reads : C.check_written 3 (written_tokens w) ≡ C.reads s

pub first_read : ReadAs first_bytes (sides_of first)
unfolding term_checks bytes_checks
first_read = record { passes = refl; reads = refl }

pub together_read : ReadAs together_bytes together
unfolding term_checks bytes_checks
together_read = record { passes = refl; reads = refl }

pub apart_read : ReadAs apart_bytes apart
unfolding term_checks bytes_checks
apart_read = record { passes = refl; reads = refl }

-- X4 is none of the three variables.
pub unnamed : C.check_written 3 (written_tokens unnamed_bytes) ≡ C.refuses R.Name
unfolding term_checks
unnamed = refl

-- ---- The list of calls, on either side

-- The table value of a list of strings of three positions.
abbrev pub three : Entries → Table
three τ = table_of 3 τ

-- Three is a good width.
pub three_wide : good_width 3 ≡ true
unfolding good_width
three_wide = refl

-- The tables of one side before the calls, between them and after them, as the growth rule makes them. The first is good and
-- reduced, and describes the unbound variables.
pub record Tables (side : Side) (before between after : Entries) : Type 0 where
  pub good : Good 3 before
  pub reduced : Reduced before
  pub described : Describes (groups side 3 before) start
  pub first_makes : unification side 3 (sides_of first) before ≡ some between
  pub together_makes : unification side 3 together between ≡ some after
  pub few : length between ≤ 8

-- an output of 64 zero bytes
abbrev zeros : List ℕ
zeros = replicate 64 0

-- What the model is fed of the calls before the clash, and then of others.
abbrev pub fed : List Event → List Event
fed es = accepted (sides_of first) ∷ refused ∷ accepted together ∷ es

-- the bindings after the first equation
abbrev middle : Bindings
middle = first.right ∷ var 2 ∷ var 3 ∷ []

-- after it the equation is in force: the identity is an admitted unifier
again : Step middle first middle
unfolding bound as_bound apply apply_row apply_all
again = unified (plain_other plains.0) var (record {
  unifies = refl;
  touched = λ v k. absurd (k refl);
  brought = λ v b. absurd (b.1 refl);
})

-- The model reaches the last bindings from the first: an admitted unifier at each equation found, the identity where it is
-- in force already, and no unifier at the refused call.
pub calls_reach : Reaches start (fed []) end
unfolding bound as_bound apply apply_row apply_all ◌>>=◌ both walk walk_row arity Steps Walks Reaches
calls_reach =
    let one = unified (plain_other plains.0) (gives 1 first.right) (gives_admitted 1 first.right refl refl) in
    let two = unified (plain_other plains.1) (gives 2 second.right) (gives_admitted 2 second.right refl refl) in
    (middle, (middle, one, refl), (end, (middle, again, (end, two, refl)), refl))

-- From the call that clashes no bindings go on.
pub none_reached : (θ : Bindings) → ¬ (Reaches start (fed (accepted apart ∷ [])) θ)
unfolding ◌>>=◌ both walk walk_row arity Walks Reaches
none_reached θ r = r.2.2.1

-- What a clash makes, whatever the entries are: no entries, or one.
apart_makes : (side : Side) (τ : Entries) → unification side 3 apart τ ≡ some (no_groups side 3)
unfolding walking
apart_makes side τ = refl

at_most_one : (side : Side) → length (no_groups side 3) ≤ 1
unfolding no_groups
at_most_one positive = omega arith
at_most_one negative = omega arith

module _ (side : Side) {before between after : Entries} (w : Tables side before between after) where
  -- The table between the calls is good and reduced,
  pub between_good : Good 3 between × Reduced between
  between_good = (
    made_good side three_wide w.good (sides_of first) w.first_makes,
    made_reduced side three_wide w.good (sides_of first) w.first_makes w.reduced,
  )

  -- and so is the one after them.
  after_good : Good 3 after × Reduced after
  after_good = (
    made_good side three_wide between_good.0 together w.together_makes,
    made_reduced side three_wide between_good.0 together w.together_makes between_good.1,
  )

  -- The calls from the first table to the one before the clash, and then others, with what the model is fed of them.
  calls : {es : List Event} {u : Table} → Calls side (three after) es u → Calls side (three before) (fed es) u
  unfolding word_length
  calls rest =
      bytes_accepted side three_wide w.good first_bytes w.first_makes w.reduced zeros first_read.passes
      first_read.reads (omega (arith, w.few))
      (call_refused side (three between) (written_tokens unnamed_bytes)
      (value_refused side three_wide between_good.0 (written_tokens unnamed_bytes) unnamed)
      (call_accepted side three_wide between_good.0 (written_tokens together_bytes) w.together_makes
      together_read.reads rest))

  -- Before the clash the table is good, and describes the bindings that are reached.
  pub calls_end : GoodTable (three after) × Describes (groups_of side (three after)) end
  calls_end =
      calls_described side (calls S.end) (value_good side three_wide w.good) start end
      (rw (value_groups side three_wide w.good) w.described) calls_reach

  -- The calls with the one that clashes.
  pub apart_calls : Calls side (three before) (fed (accepted apart ∷ [])) (three (no_groups side 3))
  unfolding word_length
  apart_calls =
      calls (bytes_accepted side three_wide after_good.0 apart_bytes (apart_makes side after) after_good.1 zeros
      apart_read.passes apart_read.reads (omega (arith, at_most_one side)) S.end)

  -- The table after it stands for no groups.
  pub apart_end : (g : Bits) → ¬ (groups_of side (three (no_groups side 3)) g)
  unfolding AfterWalk walk_entries
  apart_end g h =
      let made = made_good side three_wide w.good apart (apart_makes side before) in
      (walk_exact side 3 none before (no_groups side 3) w.good refl g).0
      (subst (λ (S : Groups). S g) (value_groups side three_wide made) h)

-- ---- The positive side

-- The table between: 11* 1*1.
abbrev pub middle_table : Entries
middle_table = (t1 ∷ t1 ∷ t* ∷ []) ∷ (t1 ∷ t* ∷ t1 ∷ []) ∷ []

-- the groups 100, 010 and 001 convert to the first table
start_good : Good 3 start_table × Reduced start_table
unfolding procedures set
start_good = convert_good 3 (map (set 3) (1 ∷ 2 ∷ 4 ∷ [])) start_table (sets_long 3 (1 ∷ 2 ∷ 4 ∷ [])) refl

-- The tables of the positive side.
pub positive_tables : Tables positive start_table middle_table end_table
unfolding walking
positive_tables = record {
  good = start_good.0;
  reduced = start_good.1;
  described = start_described;
  first_makes = refl;
  together_makes = refl;
  few = omega arith;
}

-- On the positive side the last table, 111, is good and describes the last bindings.
pub positive_end : GoodTable (three end_table) × Describes (groups_of positive (three end_table)) end
positive_end = calls_end positive positive_tables
