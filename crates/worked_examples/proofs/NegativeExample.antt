-- The premises of demand 3 of a list of calls can be met on the negative side too: the calls of `Example`, with their
-- unifiers, from the negative table 11* 1*1 *11, which stands for exactly the groups 100, 010 and 001. Assumes nothing.
use mathlib.Core.Path.{◌≡◌, refl}
use mathlib.Core.List.{[], ◌∷◌}
use mathlib.Core.Option.{some}
use native.Mathlib.Omega.{arith}
use Rattle.model.specs.Strings.{t0, t1, t*}
use Rattle.model.specs.Growth.{Entries}
use Rattle.model.specs.Tables.{positive, negative, opposite, groups, change_side}
use Rattle.model.specs.Questions.{Equal}
use Rattle.model.specs.Bindings.{Describes}
use Rattle.model.proofs.Computing.{procedures}
use Rattle.model.proofs.Demand2.{change_exact, change_good, change_reduced}
use Rattle.model.proofs.Demand3.{describes_more}
use Rattle.model.proofs.Example.{start, start_table, start_described, end, end_table}
use Rattle.tables.specs.Values.{GoodTable}
use Rattle.operations.specs.Outcomes.{groups_of}
use Rattle.demands.proofs.OnEntries.{walking}
use Rattle.worked_examples.proofs.Example.{three, Tables, calls_end}

-- The negative table 11* 1*1 *11.
abbrev pub negative_start : Entries
negative_start = (t1 ∷ t1 ∷ t* ∷ []) ∷ (t1 ∷ t* ∷ t1 ∷ []) ∷ (t* ∷ t1 ∷ t1 ∷ []) ∷ []

-- The negative table 100 01* 0*1.
abbrev pub negative_middle : Entries
negative_middle = (t1 ∷ t0 ∷ t0 ∷ []) ∷ (t0 ∷ t1 ∷ t* ∷ []) ∷ (t0 ∷ t* ∷ t1 ∷ []) ∷ []

-- The negative table 100 01* *10 0*1 *01.
abbrev pub negative_end : Entries
negative_end =
    (t1 ∷ t0 ∷ t0 ∷ []) ∷ (t0 ∷ t1 ∷ t* ∷ []) ∷ (t* ∷ t1 ∷ t0 ∷ []) ∷ (t0 ∷ t* ∷ t1 ∷ []) ∷ (t* ∷ t0 ∷ t1 ∷ []) ∷ []

-- change of side gives the first from 100 010 001, and the last gives 111
start_changed : change_side 3 start_table ≡ some negative_start
unfolding procedures
start_changed = refl

end_changed : change_side 3 negative_end ≡ some end_table
unfolding procedures
end_changed = refl

-- The first stands for exactly the groups 100, 010 and 001.
pub start_groups : Equal (groups negative 3 negative_start) (groups positive 3 start_table)
unfolding opposite
start_groups = change_exact positive 3 start_table negative_start start_changed

-- The last stands for exactly the group 111.
pub end_groups : Equal (groups positive 3 end_table) (groups negative 3 negative_end)
unfolding opposite
end_groups = change_exact negative 3 negative_end end_table end_changed

-- The tables of the negative side.
pub negative_tables : Tables negative negative_start negative_middle negative_end
unfolding walking
negative_tables = record {
  good = change_good positive 3 start_table negative_start start_changed;
  reduced = change_reduced positive 3 start_table negative_start start_changed (omega arith);
  described = describes_more (groups positive 3 start_table) (groups negative 3 negative_start) start
      (λ g. (start_groups g).1) start_described;
  first_makes = refl;
  together_makes = refl;
  few = omega arith;
}

-- On the negative side the last table is good and describes the last bindings.
pub negative_described : GoodTable (three negative_end) × Describes (groups_of negative (three negative_end)) end
negative_described = calls_end negative negative_tables
