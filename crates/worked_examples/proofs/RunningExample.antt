-- The premises of demand 3 of the running analysis can be met, on either side, with equations of both kinds: it
-- starts from the bytes of a table of three unbound variables; X1 = f(X2, X3) is accepted, X4 = X1 refused, f(X1, X2)
-- = f(f(X2, X3), g(X3)) accepted. Each equation found has an admitted unifier, and the table that the last step left
-- describes the bindings that are reached. Assumes nothing.
use mathlib.Core.Path.{◌≡◌, refl, sym, ap, subst, ◌∙◌}
use mathlib.Core.List.{List, [], ◌∷◌}
use Prim.Native.Nat.{ℕ}
use Rattle.model.specs.Growth.{Entries}
use Rattle.model.specs.Tables.{positive, negative}
use Rattle.model.specs.Bindings.{Describes}
use Rattle.model.proofs.Example.{start, start_table, end, end_table}
use Rattle.tables.specs.declared.Table.{Table}
use Rattle.tables.specs.Refusals.{Accepted}
use Rattle.tables.specs.declared.Answered.{Answered}
use Rattle.tables.specs.Values.{GoodTable}
use Rattle.terms.specs.Checks.{Written}
use Rattle.operations.specs.Operations.{side_numbered}
use Rattle.operations.specs.Outcomes.{groups_of}
use Rattle.byte_calls.specs.ByteCalls.{written_tokens}
use Rattle.byte_calls.proofs.AfterChecks.{check_all_bytes, bytes_passed}
use Rattle.running.specs.States.{started}
use Rattle.demands.specs.Demand2.{Reads}
use Rattle.demands.specs.Demand3.{steps}
use Rattle.demands.proofs.Demand3.{steps_described}
use Rattle.demands.proofs.OnEntries.{bytes_checks, table_read, value_good, value_groups, value_refused, HasTable}
use Rattle.demands.proofs.OnEntries.{StepsGive, steps_end, step_refused, step_accepted}
use Rattle.worked_examples.proofs.Example.{first_bytes, unnamed_bytes, together_bytes, first_read, together_read}
use Rattle.worked_examples.proofs.Example.{unnamed, three, three_wide, Tables, fed, calls_reach, between_good}
use Rattle.worked_examples.proofs.Example.{positive_tables}
use Rattle.worked_examples.proofs.NegativeExample.{negative_start, negative_end, negative_tables}

-- The steps: X1 = f(X2, X3), X4 = X1 and f(X1, X2) = f(f(X2, X3), g(X3)), as bytes.
abbrev pub taken : List Written
taken = first_bytes ∷ unnamed_bytes ∷ together_bytes ∷ []

unnamed_passes : check_all_bytes unnamed_bytes ≡ Accepted
unfolding bytes_checks
unnamed_passes = refl

-- ---- On either side

module _ (n : ℕ) {before between after : Entries} (w : Tables (side_numbered n) before between after) (b : List ℕ)
    (reads : Reads b (three before)) where
  -- the state that the bytes start, of the side numbered n
  started_has : HasTable (side_numbered n) (three before) (started n b)
  unfolding started
  started_has = record { on = refl; at = ap (λ (y : Answered). y.table) reads }

  -- The steps feed the model an accepted equation, a refusal and two accepted terms, and leave the last table.
  pub taken_give : StepsGive (started n b) taken (fed []) (three after)
  taken_give =
      let side = side_numbered n in
      let good = (between_good side w).0 in
      let refusal = bytes_passed side (three between) unnamed_bytes unnamed_passes
      ∙ value_refused side three_wide good (written_tokens unnamed_bytes) unnamed in
      step_accepted side three_wide w.good first_bytes started_has first_read.passes first_read.reads
      w.first_makes (λ s at.
      step_refused side (three between) unnamed_bytes at refusal (λ s' at'.
      step_accepted side three_wide good together_bytes at' together_read.passes together_read.reads
      w.together_makes (λ s'' at''. steps_end at'')))

  -- The table that they leave is the last one, is good, and describes the last bindings.
  pub running_end : ((steps (started n b) taken).table ≡ three after) × GoodTable (steps (started n b) taken).table
      × Describes (groups_of (side_numbered n) (steps (started n b) taken).table) end
  unfolding started
  running_end =
      let good = value_good (side_numbered n) three_wide w.good in
      let described : Describes (groups_of (side_numbered n) (three before)) start =
      rw (value_groups (side_numbered n) three_wide w.good) w.described in
      let ends = steps_described taken (started n b) (subst GoodTable (sym started_has.at) good) start end
      (subst (λ (t : Table). Describes (groups_of (side_numbered n) t) start) (sym started_has.at) described)
      (rw taken_give.fed calls_reach) in
      (taken_give.left, ends.0, ends.1)

-- ---- The positive and the negative table as bytes

-- 100 010 001.
abbrev pub positive_bytes : List ℕ
positive_bytes = 3 ∷ 0 ∷ 3 ∷ 0 ∷ 7 ∷ 0 ∷ 7 ∷ 0 ∷ 7 ∷ 0 ∷ 1 ∷ 0 ∷ 2 ∷ 0 ∷ 4 ∷ 0 ∷ []

positive_reads : Reads positive_bytes (three start_table)
unfolding table_read
positive_reads = refl

-- 11* 1*1 *11.
abbrev pub negative_bytes : List ℕ
negative_bytes = 3 ∷ 0 ∷ 3 ∷ 0 ∷ 3 ∷ 0 ∷ 5 ∷ 0 ∷ 6 ∷ 0 ∷ 3 ∷ 0 ∷ 5 ∷ 0 ∷ 6 ∷ 0 ∷ []

negative_reads : Reads negative_bytes (three negative_start)
unfolding table_read
negative_reads = refl

-- Started positive, the steps leave the table 111, which is good and describes the last bindings.
pub positive_steps : ((steps (started 0 positive_bytes) taken).table ≡ three end_table)
    × GoodTable (steps (started 0 positive_bytes) taken).table
    × Describes (groups_of positive (steps (started 0 positive_bytes) taken).table) end
unfolding side_numbered
positive_steps = running_end 0 positive_tables positive_bytes positive_reads

-- Started negative, they leave the table 100 01* *10 0*1 *01, which is good and describes the last bindings.
pub negative_steps : ((steps (started 1 negative_bytes) taken).table ≡ three negative_end)
    × GoodTable (steps (started 1 negative_bytes) taken).table
    × Describes (groups_of negative (steps (started 1 negative_bytes) taken).table) end
unfolding side_numbered
negative_steps = running_end 1 negative_tables negative_bytes negative_reads
