-- An answer from a call on bytes reads back as itself: the form that an accepted call has written reads as the table of its
-- definition, entry for entry, so that the next call gets just that table. Assumes nothing.
use mathlib.Core.Path.{◌≡◌, refl, sym, ap, subst, ◌∙◌}
use mathlib.Core.Bool.{Bool, true, false, cond}
use mathlib.Core.List.{List, ◌++◌, map}
use mathlib.Core.Option.{Option, some, none}
use Prim.Native.Nat.{ℕ}
use native.Mathlib.Omega.{arith}
use borrow.Author.Tests.{eqb-true}
use lib.Dec.{eqb}
use lib.ListN.{length, take, drop}
use lib.Seq.{take_at}
use Rattle.model.specs.Growth.{Entries, convert, Reduced}
use Rattle.model.specs.Tables.{Side, Good, kept, change_side, join, projection}
use Rattle.model.proofs.Demand2 as D
use Rattle.words.specs.Words.{set}
use Rattle.words.proofs.Codec.{set_length, sets_long}
use Rattle.tables.specs.declared.Table.{Table}
use Rattle.tables.specs.declared.Refusal.{Refusal}
use Rattle.tables.specs.Refusals.{Answer}
use Rattle.tables.specs.Refusals.{Accepted, Refused}
use Rattle.tables.specs.declared.Answered.{Answered}
use Rattle.tables.specs.Refusals.{if_accepted}
use Rattle.tables.specs.Values.{entries_of, accepts, refuses, made_or_full, good_width, check_table, GoodTable}
use Rattle.tables.specs.Values.{zero_table}
use Rattle.conversion.specs.Conversion.{all_below}
use Rattle.tables.proofs.Values.{entries_of_table, table_of_good}
use Rattle.terms.specs.Checks.{Written}
use Rattle.operations.specs.Operations.{convert_call, written_call, good_keep, projected, join_call, projection_call}
use Rattle.operations.specs.Operations.{change_side_call}
use Rattle.operations.proofs.Demand2.{kept_width}
use Rattle.forms.specs.declared.Extent.TheVariants.{Whole, Front}
use Rattle.forms.specs.declared.Layout.{Layout}
use Rattle.forms.specs.declared.Layout.TheVariants.{Plain}
use Rattle.forms.specs.TableForms.{form_length, read_form, read_table, form_of, form_answer, written}
use Rattle.forms.proofs.Reading.{read_good}
use Rattle.forms.proofs.Outcomes.{form_long}
use Rattle.forms.proofs.ReadsBack.{written_reads, written_front}
use Rattle.byte_calls.specs.ByteCalls.{written_tokens, value_call, refuses_zero, after_read, change_side_bytes}
use Rattle.byte_calls.specs.ByteCalls.{written_bytes, join_bytes, projection_bytes}
use Rattle.byte_calls.specs.Outputs.{output_answer_as, output_bytes_as, output_answer, output_bytes}
use Rattle.demands.specs.Demand2.{Reads}
use Rattle.demands.proofs.Equations.{width_some, Made, accepted_exact}
use Rattle.demands.proofs.ByBytes.{one_reading, bytes_accepted}

-- ---- Any answer

module _ (f : Layout) (a : Answered) (out : List ℕ) where
  -- A call that has written its table was accepted.
  pub output_accepted : output_answer_as f a out ≡ Accepted → a.answer ≡ Accepted
  unfolding output_answer_as if_accepted
  output_accepted e = go a.answer refl e
    where
      go : (y : Answer) → a.answer ≡ y → if_accepted y Refused (form_answer f a.table (length out)) ≡ Accepted
          → a.answer ≡ Accepted
      go Accepted h q = h
      go (Refused r) h q = absurd (let z : ◌≡◌ {A = ℕ} 0 1 = cc in omega arith)

  -- Where a good and reduced table was written, the bytes of the output begin with a form that reads as it.
  pub output_reads : GoodTable a.table → Reduced (entries_of a.table) → output_answer_as f a out ≡ Accepted
      → read_form f Front (output_bytes_as f a out) ≡ accepts a.table
  unfolding output_bytes_as
  output_reads good reduced e = rw e (written_front a.table good f out reduced)

  -- Where the written form reads as the table, so does that form alone, cut at the length that the table's sizes give: the next
  -- call can get it. Each law below gives what this one wants.
  pub output_form : output_answer_as f a out ≡ Accepted → read_form f Front (output_bytes_as f a out) ≡ accepts a.table
      → read_form f Whole (take (form_length f a.table.l a.table.n) (output_bytes_as f a out)) ≡ accepts a.table
  unfolding output_bytes_as written if_accepted
  output_form e reads =
      let g = read_good f Front (output_bytes_as f a out) a.table reads in
      let form = form_of f a.table in
      let size = form_length f a.table.l a.table.n in
      let cut : take size (form ++ drop (length form) out) ≡ form =
      take_at form (drop (length form) out) size (form_long a.table g.0 f) in
      rw (e, cut) (written_reads a.table g.0 f g.1)

-- Of an answer: where it is accepted, its table is good, with no entry that another subsumes and none all zero.
abbrev pub MakesGood : Answered → Type 0
MakesGood a = a.answer ≡ Accepted → GoodTable a.table × Reduced (entries_of a.table)

-- The form that such a call has written reads as its table.
pub made_reads : (a : Answered) → MakesGood a → (out : List ℕ) → output_answer a out ≡ Accepted
    → read_table Front (output_bytes a out) ≡ accepts a.table
made_reads a made out e = let g = made (output_accepted Plain a out e) in output_reads Plain a out g.0 g.1 e

-- ---- The parts of a call

refused_good : (r : Refusal) (t : Table) → MakesGood (refuses r t)
refused_good r t e = absurd (let z : ◌≡◌ {A = ℕ} 0 1 = cc in omega arith)

-- a list that the growth rule gave
list_good : (l : ℕ) (t : Table) (o : Option Entries) → good_width l ≡ true → ((ρ : Entries) → o ≡ some ρ → Good l ρ × Reduced ρ)
    → MakesGood (made_or_full l t o)
unfolding made_or_full
list_good l t (some ρ) w f e =
    let g = f ρ refl in
    (table_of_good l ρ w g.0, rw (entries_of_table l ρ g.0) g.1)
list_good l t none w f e = refused_good _ t e

check_good : (c : Answer) (t : Table) (a : Answered) → MakesGood a → MakesGood (if_accepted c (λ r. refuses r t) a)
unfolding if_accepted
check_good Accepted t a f = f
check_good (Refused r) t a f = refused_good r t

test_good : (c : Bool) (a b : Answered) → (c ≡ true → MakesGood a) → MakesGood b → MakesGood (cond c a b)
test_good true a b f g = f refl
test_good false a b f g = g

-- a table that was read
read_makes : (b : List ℕ) (go : Table → Answered) → ((t : Table) → Reads b t → MakesGood (go t))
    → MakesGood (after_read b refuses_zero go)
unfolding after_read if_accepted
read_makes b go f = by (read_table Whole b) refl
  where
    by : (a : Answered) → read_table Whole b ≡ a → MakesGood (if_accepted a.answer refuses_zero (go a.table))
    by a e = part a.answer refl
      where
        part : (y : Answer) → a.answer ≡ y → MakesGood (if_accepted y refuses_zero (go a.table))
        part Accepted h = f a.table (e ∙ (λ i. record { answer = h i; table = a.table }))
        part (Refused r) h = refused_good r zero_table

-- ---- Read

module _ (b : List ℕ) where
  -- A table that was read, plain or packed, is good and reduced.
  pub read_made : (f : Layout) → MakesGood (read_form f Whole b)
  read_made f e =
      let a = read_form f Whole b in
      read_good f Whole b a.table (λ i. record { answer = e i; table = a.table })

  -- What an accepted read has written reads as its table.
  pub read_reads : (out : List ℕ) → output_answer (read_table Whole b) out ≡ Accepted
      → read_table Front (output_bytes (read_table Whole b) out) ≡ accepts (read_table Whole b).table
  read_reads = made_reads (read_table Whole b) (read_made Plain)

-- ---- Convert

module _ (l : ℕ) (ws : List ℕ) where
  -- So is the table of an accepted conversion,
  pub convert_made : MakesGood (convert_call l ws)
  unfolding convert_call
  convert_made =
      test_good (good_width l) _ _
      (λ w. test_good (all_below l ws) _ _
      (λ h. list_good l zero_table (convert (map (set l) ws)) w (λ ρ e. D.convert_good l (map (set l) ws) ρ (sets_long l ws) e))
      (refused_good _ zero_table))
      (refused_good _ zero_table)

  -- What an accepted conversion of groups has written reads as its table.
  pub convert_reads : (out : List ℕ) → output_answer (convert_call l ws) out ≡ Accepted
      → read_table Front (output_bytes (convert_call l ws) out) ≡ accepts (convert_call l ws).table
  convert_reads = made_reads (convert_call l ws) convert_made

-- ---- Change of side

module _ (side : Side) (b : List ℕ) where
  -- of an accepted change of side,
  pub change_side_made : MakesGood (change_side_bytes side b)
  unfolding change_side_bytes change_side_call
  change_side_made = read_makes b (change_side_call side) (λ t e.
      let good = (read_good Plain Whole b t e).0 in
      check_good (check_table t) t _
      (list_good t.l t (change_side t.l (entries_of t)) good.width
      (λ ρ m. (
        D.change_good side t.l (entries_of t) ρ m,
        D.change_reduced side t.l (entries_of t) ρ m (width_some t.l good.width),
      ))))

  -- What an accepted change of side has written reads as its table.
  pub change_side_reads : (out : List ℕ) → output_answer (change_side_bytes side b) out ≡ Accepted
      → read_table Front (output_bytes (change_side_bytes side b) out) ≡ accepts (change_side_bytes side b).table
  change_side_reads = made_reads (change_side_bytes side b) change_side_made

-- ---- Equation

module _ (side : Side) (t : Table) (w : Written) (good : GoodTable t) (went : (value_call side t w).answer ≡ Accepted) where
  -- the equation on the tokens, which is the same
  abbrev same : value_call side t w ≡ written_call side t (written_tokens w)
  same = bytes_accepted side t w good went

  on_tokens : Made side t (written_tokens w) good
  on_tokens = accepted_exact side t (written_tokens w) good (ap (λ (y : Answered). y.answer) (sym same) ∙ went)

  -- An accepted equation, x = t or two terms, on a good table, with its terms as bytes, makes a good table,
  pub made_good : GoodTable (value_call side t w).table
  made_good = subst (λ (y : Answered). GoodTable y.table) (sym same) on_tokens.is_good

  -- and a reduced one where the table was.
  pub made_reduced : Reduced (entries_of t) → Reduced (entries_of (value_call side t w).table)
  made_reduced r = subst (λ (y : Answered). Reduced (entries_of y.table)) (sym same) (on_tokens.reduced r)

-- So on a table that is good and reduced:
pub value_made : (side : Side) (t : Table) (w : Written) → GoodTable t → Reduced (entries_of t)
    → MakesGood (value_call side t w)
value_made side t w good reduced e = (made_good side t w good e, made_reduced side t w good e reduced)

module _ (side : Side) (b : List ℕ) (w : Written) where
  -- of an accepted equation,
  pub equation_made : MakesGood (written_bytes side b w)
  equation_made =
      subst MakesGood (sym (one_reading side b w))
      (read_makes b (λ t. value_call side t w) (λ t e.
      let g = read_good Plain Whole b t e in value_made side t w g.0 g.1))

  -- What an accepted equation has written reads as its table.
  pub equation_reads : (out : List ℕ) → output_answer (written_bytes side b w) out ≡ Accepted
      → read_table Front (output_bytes (written_bytes side b w) out) ≡ accepts (written_bytes side b w).table
  equation_reads = made_reads (written_bytes side b w) equation_made

-- ---- Join

module _ (side : Side) (b c : List ℕ) where
  -- of an accepted join,
  pub join_made : MakesGood (join_bytes side b c)
  unfolding join_bytes join_call
  join_made =
      read_makes b (λ t. after_read c refuses_zero (join_call side t)) (λ t e. read_makes c (join_call side t) (λ u f.
      let first = read_good Plain Whole b t e in
      let second = (read_good Plain Whole c u f).0 in
      check_good (check_table t) t _ (check_good (check_table u) t _
      (test_good (eqb t.l u.l) _ _
      (λ w.
      let list = subst (λ (l : ℕ). Good l (entries_of u)) (sym (eqb-true t.l u.l w)) second.list in
      list_good t.l t (join side (entries_of t) (entries_of u)) first.0.width
      (λ ρ m. (
        D.join_good side t.l (entries_of t) (entries_of u) ρ first.0.list list m,
        D.join_reduced side t.l (entries_of t) (entries_of u) ρ first.0.list list m first.1,
      )))
      (refused_good _ t)))))

  -- What an accepted join has written reads as its table.
  pub join_reads : (out : List ℕ) → output_answer (join_bytes side b c) out ≡ Accepted
      → read_table Front (output_bytes (join_bytes side b c) out) ≡ accepts (join_bytes side b c).table
  join_reads = made_reads (join_bytes side b c) join_made

-- ---- Projection

module _ (side : Side) (b : List ℕ) (keep : ℕ) where
  -- and of an accepted projection.
  pub projection_made : MakesGood (projection_bytes side b keep)
  unfolding projection_bytes projection_call projected
  projection_made = read_makes b (λ t. projection_call side t keep) (λ t e.
      let good = (read_good Plain Whole b t e).0 in
      let k = set t.l keep in
      let long = set_length t.l keep in
      check_good (check_table t) t _
      (test_good (good_keep t.l keep) _ _
      (λ h.
      let w = kept_width t.l keep good.width h in
      list_good (kept k) t (projection side t.l k (entries_of t)) w
      (λ ρ m. (
        D.projection_good side t.l k (entries_of t) ρ long good.list m,
        D.projection_reduced side t.l k (entries_of t) ρ long good.list m (width_some (kept k) w),
      )))
      (refused_good _ t)))

  -- What an accepted projection has written reads as its table.
  pub projection_reads : (out : List ℕ) → output_answer (projection_bytes side b keep) out ≡ Accepted
      → read_table Front (output_bytes (projection_bytes side b keep) out) ≡ accepts (projection_bytes side b keep).table
  projection_reads = made_reads (projection_bytes side b keep) projection_made
