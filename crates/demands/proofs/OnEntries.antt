-- Worked examples: what a call, a step and a run do on the table value of a list of strings, of either side, by what the growth
-- rule makes of that list, for an equation x = t or of two terms. Assumes nothing.
use mathlib.Core.Path.{◌≡◌, refl, sym, ap, ap₂, subst, ◌∙◌}
use mathlib.Core.Bool.{true}
use mathlib.Core.List.{List, [], ◌∷◌}
use mathlib.Core.Option.{Option, some, none}
use Prim.Native.Nat.{ℕ, ◌+◌, ◌≤◌}
use lib.ListN.{length}
use Rattle.model.specs.Growth.{Entries, Reduced, ◌>>=◌}
use Rattle.model.specs.Terms.{arity}
use Rattle.model.specs.Tokens.{read_row, under_head, read_within, read_term, whole_term}
use Rattle.model.specs.Tables.{Side, Good, groups}
use Rattle.model.specs.Walk.{Sides, both, walk, walk_row, walk_sides}
use Rattle.model.specs.Unification.{walk_entries, unification}
use Rattle.model.specs.Calls.{Event, accepted, refused}
use Rattle.model.proofs.Computing.{procedures}
use Rattle.model.proofs.Unification.{walk_good, walk_reduced}
use Rattle.words.specs.Words.{string}
use Rattle.tables.specs.declared.Table.{Table}
use Rattle.tables.specs.declared.Refusal.{Refusal}
use Rattle.tables.specs.declared.Refusal.TheVariants as R
use Rattle.tables.specs.Refusals.{Answer}
use Rattle.tables.specs.Refusals.{Accepted}
use Rattle.tables.specs.declared.Answered.{Answered}
use Rattle.tables.specs.Refusals.{refusal_number, if_accepted}
use Rattle.tables.specs.Lists.{pairs, strings}
use Rattle.tables.specs.Values.{table_of, accepts, refuses, made_or_full, good_width, clean, all_from, all_clean, GoodTable}
use Rattle.tables.proofs.Values.{entries_of_table, table_of_good}
use Rattle.tables.proofs.Checking.{good_passes}
use Rattle.terms.specs.Checks.{Written}
use Rattle.terms.specs.Checks as C
use Rattle.operations.specs.Operations.{side_numbered, written_call}
use Rattle.operations.specs.Outcomes.{groups_of}
use Rattle.codec.specs.Numbers.{number, rows, sum}
use Rattle.forms.specs.declared.Layout.TheVariants.{Plain}
use Rattle.forms.specs.declared.Extent.TheVariants.{Front}
use Rattle.forms.specs.TableForms.{sized, word_length, table_length, fits, written_entries, all_well, read_entries, read_sized}
use Rattle.forms.specs.TableForms.{read_form, read_table, table_form}
use Rattle.equation_forms.specs.EquationForms.{spans, share_out, equations_of, check_each, check_sized, check_equations}
use Rattle.forms.proofs.ReadsBack.{written_reads}
use Rattle.forms.proofs.Outcomes.{write_fits}
use Rattle.byte_calls.specs.ByteCalls.{check_bytes, check_both_bytes, tokens_of, written_tokens, value_call, written_bytes}
use Rattle.byte_calls.specs.Outputs.{output_answer_as, output_answer, output_bytes}
use Rattle.byte_calls.proofs.AfterChecks.{check_all_bytes, bytes_passed}
use Rattle.running.specs.declared.Running.{Running}
use Rattle.running.specs.States.{state, after_answer, advanced, run_from}
use Rattle.demands.specs.Demand2.{Reads}
use Rattle.demands.specs.Demand3.{written_sides, event_of, Returns, written, Calls, value, bytes, steps, step_events}
use Rattle.demands.proofs.Equations.{read_sides, width_some, called, uncalled}
use Rattle.demands.proofs.ByBytes.{equation_by_bytes}
use Rattle.demands.proofs.ReadsBack.{equation_reads}

-- ---- Names for an `unfolding` line

-- Reading the tokens of a term, from bytes too.
unfoldable pub tokens_read : Unit {0}
unfolding C.if_read read_row under_head read_within read_term whole_term ◌>>=◌ tokens_of written_tokens number rows
tokens_read = tt

-- The checks of an equation, which read its terms.
unfoldable pub term_checks : Unit {0}
unfolding tokens_read C.check_written C.check_equation C.check_sides C.check_term C.all_named C.token_named C.term_or_6
term_checks = tt

-- Those of its bytes.
unfoldable pub bytes_checks : Unit {0}
unfolding check_all_bytes check_bytes check_both_bytes
bytes_checks = tt

-- The checks of the form of equations, which share out its tokens.
unfoldable pub equations_read : Unit {0}
unfolding term_checks sized sum spans share_out equations_of check_each check_sized check_equations
equations_read = tt

-- the words of entries in bytes
unfoldable words_read : Unit {0}
unfolding number rows word_length string pairs strings
words_read = tt

-- the entries of a table in bytes
unfoldable entries_read : Unit {0}
unfolding procedures words_read clean all_from all_clean all_well written_entries read_entries made_or_full
entries_read = tt

-- Reading a table from bytes.
unfoldable pub table_read : Unit {0}
unfolding entries_read sized fits good_width read_sized read_form
table_read = tt

-- The walk of two terms, and what the growth rule makes of what it finds.
unfoldable pub walking : Unit {0}
unfolding procedures both walk walk_row arity walk_entries unification
walking = tt

-- ---- One equation on the table value of a list

module _ (side : Side) {l : ℕ} (width : good_width l ≡ true) {τ : Entries} (good : Good l τ) where
  -- The value of a good list is a good table.
  pub value_good : GoodTable (table_of l τ)
  value_good = table_of_good l τ width good

  -- Its groups are those of the list.
  pub value_groups : groups_of side (table_of l τ) ≡ groups side l τ
  unfolding table_of
  value_groups = ap (groups side l) (entries_of_table l τ good)

  -- What the growth rule makes of a good list is good, and reduced where the list is.
  pub made_good : (s : Sides) {ρ : Entries} → unification side l s τ ≡ some ρ → Good l ρ
  unfolding unification
  made_good s {ρ} makes = walk_good side l (walk_sides s) τ ρ good makes

  pub made_reduced : (s : Sides) {ρ : Entries} → unification side l s τ ≡ some ρ → Reduced τ → Reduced ρ
  unfolding unification
  made_reduced s {ρ} makes = walk_reduced side l (walk_sides s) τ ρ good makes (width_some l width)

  module _ (w : Written) where
    -- An equation that does not read is refused, with the table as given.
    pub value_refused : {r : Refusal} → C.check_written l w ≡ C.refuses r
        → written_call side (table_of l τ) w ≡ refuses r (table_of l τ)
    unfolding table_of
    value_refused {r} e = uncalled side (table_of l τ) w value_good r e

    -- An equation that reads is answered by what the growth rule makes of the list.
    pub value_decided : {s : Sides} {o : Option Entries} → C.check_written l w ≡ C.reads s → unification side l s τ ≡ o
        → written_call side (table_of l τ) w ≡ made_or_full l (table_of l τ) o
    unfolding table_of
    value_decided {s} reads makes =
        called side (table_of l τ) w value_good s reads
        ∙ ap (λ (σ : Entries). made_or_full l (table_of l τ) (unification side l (written_sides l w) σ))
        (entries_of_table l τ good)
        ∙ ap (λ (r : Sides). made_or_full l (table_of l τ) (unification side l r τ)) (read_sides l w s reads)
        ∙ ap (made_or_full l (table_of l τ)) makes

    -- Where it makes a list, the call is accepted with the value of that list.
    pub value_accepted : {s : Sides} {ρ : Entries} → C.check_written l w ≡ C.reads s → unification side l s τ ≡ some ρ
        → written_call side (table_of l τ) w ≡ accepts (table_of l ρ)
    unfolding made_or_full
    value_accepted reads makes = value_decided reads makes

    -- Where it makes none, the call is refused 8, with the table as given.
    pub value_full : {s : Sides} → C.check_written l w ≡ C.reads s → unification side l s τ ≡ none
        → written_call side (table_of l τ) w ≡ refuses R.Full (table_of l τ)
    unfolding made_or_full
    value_full reads makes = value_decided reads makes

-- ---- A list of calls

-- a call on a table value, with its answer
answered_call : (side : Side) (t : Table) (w : Written) {a : Answered} {s : Sides} → written_call side t w ≡ a
    → written_sides t.l w ≡ s
    → {es : List Event} {u : Table} → Calls side a.table es u → Calls side t (event_of a.answer s ∷ es) u
answered_call side t w {a} {s} is same {es} {u} rest =
    subst (λ (b : Answered). Calls side t (event_of b.answer s ∷ es) u) is
    (subst (λ (r : Sides). Calls side t (event_of (written_call side t w).answer r ∷ es) u) same
    (value t w (subst (λ (b : Answered). Calls side b.table es u) (sym is) rest)))

-- A refused call on a table value, before other calls.
pub call_refused : (side : Side) (t : Table) (w : Written) {r : Refusal} → written_call side t w ≡ refuses r t
    → {es : List Event} {u : Table} → Calls side t es u → Calls side t (refused ∷ es) u
unfolding event_of
call_refused side t w e rest = answered_call side t w e refl rest

module _ (side : Side) {l : ℕ} (width : good_width l ≡ true) {τ : Entries} (good : Good l τ) (w : Written) {s : Sides}
    {ρ : Entries} (makes : unification side l s τ ≡ some ρ) where
  -- An accepted call on a table value, before other calls.
  pub call_accepted : C.check_written l w ≡ C.reads s → {es : List Event} {v : Table}
      → Calls side (table_of l ρ) es v → Calls side (table_of l τ) (accepted s ∷ es) v
  unfolding event_of table_of
  call_accepted reads rest =
      answered_call side (table_of l τ) w (value_accepted side width good w reads makes) (read_sides l w s reads) rest

  -- on the form of the table, with its terms as bytes, into an output with room
  module _ (reduced : Reduced τ) (out : List ℕ) (passes : check_all_bytes w ≡ Accepted)
      (reads : C.check_written l (written_tokens w) ≡ C.reads s) (room : table_length l (length ρ) ≤ length out) where
    abbrev form : List ℕ
    form = table_form (table_of l τ)

    form_reads : Reads form (table_of l τ)
    form_reads = written_reads (table_of l τ) (value_good side width good) Plain (rw (entries_of_table l τ good) reduced)

    bytes_is : written_bytes side form w ≡ accepts (table_of l ρ)
    bytes_is =
        equation_by_bytes side form form_reads w
        ∙ bytes_passed side (table_of l τ) w passes
        ∙ value_accepted side width good (written_tokens w) reads makes

    wrote : output_answer (written_bytes side form w) out ≡ Accepted
    unfolding output_answer_as if_accepted table_of
    wrote =
        let passed = good_passes (table_of l ρ) (value_good side width (made_good side width good s makes)) in
        ap (λ (a : Answered). output_answer a out) bytes_is ∙ sym (write_fits Plain (table_of l ρ) out passed room)

    back : read_table Front (output_bytes (written_bytes side form w) out) ≡ accepts (table_of l ρ)
    back = equation_reads side form w out wrote ∙ ap (λ (a : Answered). accepts a.table) bytes_is

    -- An accepted call on byte buffers, before other calls.
    pub bytes_accepted : {es : List Event} {v : Table} → Calls side (table_of l ρ) es v
        → Calls side (table_of l τ) (accepted s ∷ es) v
    unfolding event_of table_of
    bytes_accepted {es} {v} rest =
        let now = output_bytes (written_bytes side form w) out in
        subst (λ (r : Sides). Calls side (table_of l τ) (accepted r ∷ es) v) (read_sides l (written_tokens w) s reads)
        (subst (λ (y : Answer). Calls side (table_of l τ) (event_of y (written_sides l (written_tokens w)) ∷ es) v) wrote
        (bytes form (table_of l τ) w out form_reads
        (subst (λ (y : Answer). Returns (table_of l τ) now y (table_of l ρ)) (sym wrote) (written back)) rest))

-- ---- The running analysis

-- A state of that side and that table.
pub record HasTable (side : Side) (t : Table) (s : Running) : Type 0 where
  pub on : side_numbered s.side ≡ side
  pub at : s.table ≡ t

-- What steps from a state feed the model, and the table that they leave.
pub record StepsGive (s : Running) (ws : List Written) (es : List Event) (u : Table) : Type 0 where
  pub fed : step_events s ws ≡ es
  pub left : (steps s ws).table ≡ u

-- No step feeds nothing and leaves the table.
pub steps_end : {side : Side} {t : Table} {s : Running} → HasTable side t s → StepsGive s [] [] t
unfolding steps step_events
steps_end at = record { fed = refl; left = at.at }

module _ (side : Side) (t : Table) (w : Written) {s : Running} (at : HasTable side t s) {a : Answered}
    (is : value_call side t w ≡ a) where
  -- what the state answers
  answered : value_call (side_numbered s.side) s.table w ≡ a
  answered = ap (λ (d : Side). value_call d s.table w) at.on ∙ ap (λ (u : Table). value_call side u w) at.at ∙ is

  -- what is fed first
  fed_first : {e : Sides} → written_sides t.l (written_tokens w) ≡ e
      → {ws : List Written} {es : List Event} {v : Table} → StepsGive (advanced s w) ws es v
      → StepsGive s (w ∷ ws) (event_of a.answer e ∷ es) v
  unfolding steps step_events
  fed_first {e} same rest =
      let asked : written_sides s.table.l (written_tokens w) ≡ e =
      ap (λ (u : Table). written_sides u.l (written_tokens w)) at.at ∙ same in
      record {
        fed = ap₂ ◌∷◌ (ap₂ event_of (ap (λ (y : Answered). y.answer) answered) asked) rest.fed;
        left = rest.left;
      }

-- A refused step, before other steps.
pub step_refused : (side : Side) (t : Table) (w : Written) {s : Running} → HasTable side t s → {r : Refusal}
    → value_call side t w ≡ refuses r t
    → {ws : List Written} {es : List Event} {v : Table} → ((s' : Running) → HasTable side t s' → StepsGive s' ws es v)
    → StepsGive s (w ∷ ws) (refused ∷ es) v
unfolding event_of advanced after_answer if_accepted
step_refused side t w {s} at {r} is rest =
    let kept = answered side t w at is ∙ ap (refuses r) (sym at.at) in
    fed_first side t w at is refl (rest (advanced s w) (record {
      on = ap (λ (y : Answered). side_numbered (after_answer s y).side) kept ∙ at.on;
      at = ap (λ (y : Answered). (after_answer s y).table) kept ∙ at.at;
    }))

-- An accepted step, before other steps.
pub step_accepted : (side : Side) {l : ℕ} → good_width l ≡ true → {τ : Entries} → Good l τ → (w : Written) {s : Running}
    → HasTable side (table_of l τ) s → check_all_bytes w ≡ Accepted
    → {e : Sides} → C.check_written l (written_tokens w) ≡ C.reads e → {ρ : Entries} → unification side l e τ ≡ some ρ
    → {ws : List Written} {es : List Event} {v : Table}
    → ((s' : Running) → HasTable side (table_of l ρ) s' → StepsGive s' ws es v)
    → StepsGive s (w ∷ ws) (accepted e ∷ es) v
unfolding event_of advanced after_answer if_accepted table_of
step_accepted side {l} width {τ} good w {s} at passes {e} reads makes rest =
    let is = bytes_passed side (table_of l τ) w passes ∙ value_accepted side width good (written_tokens w) reads makes in
    let made = answered side (table_of l τ) w at is in
    fed_first side (table_of l τ) w at is (read_sides l (written_tokens w) e reads)
    (rest (advanced s w) (record {
      on = ap (λ (y : Answered). side_numbered (after_answer s y).side) made ∙ at.on;
      at = ap (λ (y : Answered). (after_answer s y).table) made;
    }))

-- ---- A run

module _ (side : ℕ) (t : Table) (k : ℕ) (w : Written) (ws : List Written) where
  -- An accepted equation of a run: it goes on from the table made.
  pub run_accepted : {u : Table} → written_call (side_numbered side) t w ≡ accepts u
      → run_from side t k (w ∷ ws) ≡ run_from side u (k + 1) ws
  unfolding run_from if_accepted
  run_accepted e = rw e

  -- A refused equation of a run: it ends, with the table and the number before it.
  pub run_stopped : {r : Refusal} → written_call (side_numbered side) t w ≡ refuses r t
      → run_from side t k (w ∷ ws) ≡ state (refusal_number r) side k t
  unfolding run_from if_accepted
  run_stopped e = rw e
