-- How a report ends, by its input: refused before any equation is applied, with every equation applied, or at the first full
-- one. Assumes nothing.
use mathlib.Core.Path.{◌≡◌, refl, sym, ap, ◌∙◌}
use mathlib.Core.Bool.{Bool, true, false, cond}
use mathlib.Core.List.{List, [], ◌∷◌, ◌++◌, append-nil, append_assoc}
use mathlib.Core.Logic.{◌↔◌}
use Prim.Native.Nat.{ℕ, suc, ◌+◌, ◌≤◌, ◌<◌}
use native.Mathlib.Omega.{arith}
use borrow.Author.Tests.{le-leb, leb-true, leb-false, eqb-true}
use lib.Dec.{T, leb, eqb}
use lib.ListN.{length, drop}
use Rattle.model.specs.Tables.{positive}
use Rattle.tables.specs.declared.Table.{Table}
use Rattle.tables.specs.declared.Refusal.{Refusal}
use Rattle.tables.specs.declared.Refusal.TheVariants as R
use Rattle.tables.specs.Refusals.{Answer}
use Rattle.tables.specs.Refusals.{Accepted, Refused}
use Rattle.tables.specs.declared.Answered.{Answered}
use Rattle.tables.specs.Refusals.{refusal_number, if_accepted, member, one_of}
use Rattle.tables.specs.Values.{accepts, GoodTable}
use Rattle.tables.proofs.Numbers.{within, one_of_more, at_most, number_most}
use Rattle.terms.specs.Checks.{Written}
use Rattle.operations.specs.Operations.{side_numbered, written_call}
use Rattle.forms.specs.declared.Layout.TheVariants.{Plain}
use Rattle.forms.specs.declared.Extent.TheVariants.{Front}
use Rattle.forms.specs.TableForms.{read_table}
use Rattle.equation_forms.specs.declared.Left.TheVariants.{Variable}
use Rattle.equation_forms.specs.EquationForms.{check_each, check_equations}
use Rattle.equation_forms.proofs.Tests.{equations_passed}
use Rattle.forms.proofs.Reading.{read_good}
use Rattle.forms.proofs.Numbers.{read_numbers}
use Rattle.equation_forms.proofs.Numbers.{equations_numbers}
use Rattle.running.specs.declared.Running.{Running}
use Rattle.running.specs.States.{state, none_applied, run_from}
use Rattle.demands.proofs.Ends.{first_accepted, first_refused}
use Rattle.text.proofs.Writing.{decimal_most}
use Rattle.text.specs.declared.Reported.{Reported}
use Rattle.text.specs.Lines.{eq, block, first_text, equation_text}
use Rattle.text.specs.RunTexts.{most_text, text_from, run_text}
use Rattle.text.proofs.LongestText.{run_most}
use Rattle.report.specs.Reports.{most_input, after_table, refused_text, input_text, input_run, narrowed}
use Rattle.report.specs.Reports.{fits_in, reported, fitted, report_of, report_bytes}
use Rattle.report.specs.Endings.{early_numbers, InputRefused, long, unread, unchecked, InputGood, input_equations}
use Rattle.report.specs.Endings.{IsFull, Applied, no_more, one_more, applied_text, full_line}
use Rattle.report.specs.Endings.{Ending, early, through, full}
use Rattle.report.proofs.Fitting.{refused_length, reported_fits, reported_narrow}
use Rattle.report.proofs.Inputs.{rest_refused, rest_goes, input_long, input_refused, input_goes}

-- ---- The equations

-- all equations are applied from the table, or they stop at one that is full
data Course (t : Table) (ws : List Written) : Type 0 where
  all : {u : Table} → Applied t ws u → Course t ws
  stops : {u : Table} (before : List Written) (w : Written) (after : List Written) → ws ≡ before ++ (w ∷ after)
      → Applied t before u → IsFull u w → Course t ws

-- one more equation before them
course_on : (t u : Table) (w : Written) (ws : List Written) → written_call positive t w ≡ accepts u
    → Course u ws → Course t (w ∷ ws)
course_on t u w ws e (all a) = all (one_more e a)
course_on t u w ws e (stops before x after split a f) = stops (w ∷ before) x after (ap (◌∷◌ w) split) (one_more e a) f

-- equations that pass their checks, from a good table
course : (ws : List Written) (t : Table) → GoodTable t → check_each t.l ws ≡ Accepted → Course t ws
course [] t good e = all no_more
course (w ∷ ws) t good e = go next.answer refl (course ws next.table)
  where
    next : Answered
    next = written_call positive t w

    go : (y : Answer) → next.answer ≡ y → (GoodTable next.table → check_each next.table.l ws ≡ Accepted
        → Course next.table ws) → Course t (w ∷ ws)
    go Accepted h later =
        let on = first_accepted positive t w ws good e h in
        course_on t next.table w ws (λ i. record { answer = h i; table = next.table }) (later on.0 on.1)
    go (Refused r) h later = stops [] w ws refl no_more (first_refused positive t w ws good e h)

-- ---- The run and the text of them

-- the run goes on after those that are applied
run_applied : {t u : Table} {before : List Written} (rest : List Written) (k : ℕ) → Applied t before u
    → run_from 0 t k (before ++ rest) ≡ run_from 0 u (k + length before) rest
unfolding run_from if_accepted side_numbered
run_applied {t} rest k no_more = let same : k ≡ k + 0 = omega arith in ap (λ (j : ℕ). run_from 0 t j rest) same
run_applied {u = v} rest k (one_more {ws = ws} e a) =
    let same : k + 1 + length ws ≡ k + suc (length ws) = omega arith in
    rw e (run_applied rest (k + 1) a ∙ ap (λ (j : ℕ). run_from 0 v j rest) same)

-- so does the text
text_applied : {t u : Table} {before : List Written} (rest : List Written) (k : ℕ) → Applied t before u
    → text_from t k (before ++ rest) ≡ applied_text t k before ++ text_from u (k + length before) rest
unfolding text_from if_accepted equation_text applied_text
text_applied {t} rest k no_more = let same : k ≡ k + 0 = omega arith in ap (λ (j : ℕ). text_from t j rest) same
text_applied {u = v} rest k (one_more {u = u} {ws = ws} e a) =
    let same : k + 1 + length ws ≡ k + suc (length ws) = omega arith in
    rw e (ap (◌++◌ (block eq k u)) (text_applied rest (k + 1) a
    ∙ ap (λ (j : ℕ). applied_text u (k + 1) ws ++ text_from v j rest) same)
    ∙ sym (append_assoc (block eq k u) (applied_text u (k + 1) ws) _))

module _ {t u : Table} where
  -- where all are applied
  run_all : (ws : List Written) → Applied t ws u → run_from 0 t 0 ws ≡ state 0 0 (length ws) u
  unfolding run_from
  run_all ws a =
      let count : 0 + length ws ≡ length ws = omega arith in
      ap (run_from 0 t 0) (sym (append-nil ws)) ∙ run_applied [] 0 a ∙ ap (λ (j : ℕ). state 0 0 j u) count

  text_all : (ws : List Written) → Applied t ws u → run_text t ws ≡ first_text t ++ applied_text t 1 ws
  unfolding run_text text_from
  text_all ws a = ap (◌++◌ (first_text t))
      (ap (text_from t 1) (sym (append-nil ws)) ∙ text_applied [] 1 a ∙ append-nil (applied_text t 1 ws))

  -- where the next one is full
  module _ (before : List Written) (w : Written) (after : List Written) (a : Applied t before u) (f : IsFull u w) where
    run_full : run_from 0 t 0 (before ++ (w ∷ after)) ≡ state 8 0 (length before) u
    unfolding run_from if_accepted side_numbered
    run_full =
        let count : 0 + length before ≡ length before = omega arith in
        run_applied (w ∷ after) 0 a ∙ rw f (ap (λ (j : ℕ). state 8 0 j u) count)

    text_full : run_text t (before ++ (w ∷ after))
        ≡ first_text t ++ (applied_text t 1 before ++ full_line (length before + 1))
    unfolding run_text text_from if_accepted equation_text
    text_full =
        let count : 1 + length before ≡ length before + 1 = omega arith in
        ap (◌++◌ (first_text t)) (text_applied (w ∷ after) 1 a ∙ ap (◌++◌ (applied_text t 1 before))
        (rw f (append-nil (full_line (1 + length before)) ∙ ap full_line count)))

-- ---- An output that is too short

-- a state other than 9 becomes 9 only where it was accepted and its text does not fit
narrow_only : (s : Running) (text out : List ℕ) → s.code ≤ 8 → (reported s text out).state.code ≡ 9
    → (s.code ≡ 0) × (length out < length text)
unfolding reported narrowed
narrow_only s text out few e = go (fits_in text out) (eqb s.code 0) refl refl e
  where
    go : (b c : Bool) → fits_in text out ≡ b → eqb s.code 0 ≡ c
        → (cond {A = Reported} b (record { state = s; size = length text })
        (record { state = cond c (none_applied (refusal_number R.Narrow) 0) s; size = 0 })).state.code ≡ 9
        → (s.code ≡ 0) × (length out < length text)
    go true c f z e = absurd (omega (arith, few, e))
    go false true f z e = (eqb-true s.code 0 z, leb-false (length text) (length out) f)
    go false false f z e = absurd (omega (arith, few, e))

narrow_there : (s : Running) (text out : List ℕ) → s.code ≡ 0 → length out < length text
    → (reported s text out).state.code ≡ 9
unfolding narrowed
narrow_there s text out z short =
    ap (λ (r : Reported). r.state.code) (sym (reported_narrow s text out short))
    ∙ ap (λ (n : ℕ). (cond (eqb n 0) (none_applied (refusal_number R.Narrow) 0) s).code) z

-- ---- The input

early_most : T (at_most 7 early_numbers)
unfolding at_most
early_most = tt

module _ (input : List ℕ) where
  -- What an input that is refused comes to: it has applied none, and only the number is reported.
  pub refused_ends : {r : Refusal} → InputRefused input r
      → (input_run input ≡ none_applied (refusal_number r) 0) × (input_text input ≡ refused_text (refusal_number r))
  refused_ends (long over) = let same = input_long input over in (sym same.0, sym same.1)
  refused_ends (unread few e) = let same = input_refused input few refl e in (sym same.0, sym same.1)
  refused_ends (unchecked {t = t} few reads c) =
      let rest = rest_refused t (after_table input) c in
      let whole = input_goes input few (sym reads) refl in
      (sym (rest.0 ∙ whole.0), sym (rest.1 ∙ whole.1))

  -- What an input that passes its checks comes to: the run of its equations, and the text of that run.
  pub good_ends : {t : Table} → InputGood input t
      → (input_run input ≡ run_from 0 t 0 (input_equations input)) × (input_text input ≡ run_text t (input_equations input))
  good_ends {t} good =
      let rest = rest_goes t (after_table input) good.checked in
      let whole = input_goes input good.few (sym good.reads) refl in
      (sym (rest.0 ∙ whole.0), sym (rest.1 ∙ whole.1))

  -- An input is refused before any equation is applied only by 1 to 7.
  pub refused_numbers : {r : Refusal} → InputRefused input r → T (one_of early_numbers r)
  unfolding one_of member within
  refused_numbers (long over) = tt
  refused_numbers (unread {r} few e) = one_of_more (1 ∷ 2 ∷ 3 ∷ 4 ∷ []) early_numbers r tt (read_numbers Plain Front input r e)
  refused_numbers (unchecked {r} {t} few reads c) =
      one_of_more (1 ∷ 7 ∷ 6 ∷ 5 ∷ []) early_numbers r tt (equations_numbers Variable t.l (after_table input) r c)

  -- An input that is refused does not pass its checks.
  pub refused_not_good : {r : Refusal} {t : Table} → InputRefused input r → InputGood input t → ⊥
  refused_not_good (long over) good = absurd (omega (arith, over, good.few))
  refused_not_good (unread few e) good =
      let reads = ap (λ (a : Answered). a.answer) good.reads in
      absurd (let z : ◌≡◌ {A = ℕ} 0 1 = cc in omega arith)
  refused_not_good {t = t} (unchecked {t = u} few reads c) good =
      let same : u ≡ t = ap (λ (a : Answered). a.table) (sym reads ∙ good.reads) in
      let checked = good.checked in
      let both : check_equations Variable u.l (after_table input) ≡ Accepted = rw same checked in
      absurd (let z : ◌≡◌ {A = ℕ} 0 1 = cc in omega arith)

  -- every input is one or the other
  data Sorted : Type 0 where
    bad : {r : Refusal} → InputRefused input r → Sorted
    good : {t : Table} → InputGood input t → Sorted

  sorted : Sorted
  sorted = by_length (leb (length input) most_input) refl
    where
      t : Table
      t = (read_table Front input).table

      by_checks : (c : Answer) → check_equations Variable t.l (after_table input) ≡ c → length input ≤ most_input
          → read_table Front input ≡ accepts t → Sorted
      by_checks (Refused r) c few reads = bad (unchecked few reads c)
      by_checks Accepted c few reads = good (record { few = few; reads = reads; checked = c })

      by_table : (a : Answer) → (read_table Front input).answer ≡ a → length input ≤ most_input → Sorted
      by_table (Refused r) e few = bad (unread few e)
      by_table Accepted e few =
          by_checks (check_equations Variable t.l (after_table input)) refl few (λ i. record { answer = e i; table = t })

      by_length : (b : Bool) → leb (length input) most_input ≡ b → Sorted
      by_length true e = by_table (read_table Front input).answer refl (leb-true (length input) most_input e)
      by_length false e = bad (long (leb-false (length input) most_input e))

  -- Every input is refused before any equation is applied, or ends with all its equations applied, or at the first full one.
  pub ending : Ending input
  ending = go sorted
    where
      by : {t : Table} → InputGood input t → Course t (input_equations input) → Ending input
      by g (all a) = through g a ((good_ends g).0 ∙ run_all _ a) ((good_ends g).1 ∙ text_all _ a)
      by {t} g (stops before w after split a f) =
          full before w after g split a f
          ((good_ends g).0 ∙ ap (run_from 0 t 0) split ∙ run_full before w after a f)
          ((good_ends g).1 ∙ ap (run_text t) split ∙ text_full before w after a f)

      go : Sorted → Ending input
      go (bad r) = early r (refused_ends r).0 (refused_ends r).1
      go (good {t} g) =
          let passed = equations_passed Variable t.l (after_table input) g.checked in
          by g (course (input_equations input) t (read_good Plain Front input t g.reads).0 passed.each)

  -- ---- What is returned, and what is written

  -- No text is longer than 552500 bytes.
  pub input_most : length (input_text input) ≤ most_text
  input_most = go sorted
    where
      go : Sorted → length (input_text input) ≤ most_text
      go (bad {r} h) =
          let n = refusal_number r in
          rw (refused_ends h).1 (omega (arith, refused_length n, decimal_most n))
      go (good {t} g) =
          let passed = equations_passed Variable t.l (after_table input) g.checked in
          rw (good_ends g).1
          (run_most t (after_table input) (read_good Plain Front input t g.reads).0 passed.sizes)

  -- the code of a run is at most 8
  code_most : (input_run input).code ≤ 8
  code_most = go ending
    where
      go : Ending input → (input_run input).code ≤ 8
      go (early {r} h run text) =
          let few = number_most 7 early_numbers r early_most (refused_numbers h) in rw run (omega (arith, few))
      go (through g a run text) = rw run (omega arith)
      go (full before w after g split a f run text) = rw run (omega arith)

  module _ (out : List ℕ) where
    -- Into an output of 552500 bytes the whole text is written, and the state of the run is returned.
    pub report_whole : most_text ≤ length out
        → (report_of input out ≡ record { state = input_run input; size = length (input_text input) })
        × (report_bytes input out ≡ input_text input ++ drop (length (input_text input)) out)
    unfolding fitted
    report_whole room =
        let fits : length (input_text input) ≤ length out = omega (arith, input_most, room) in
        (sym (reported_fits (input_run input) (input_text input) out fits), rw (le-leb _ _ fits))

    -- A report is refused 9 exactly where its run is accepted and its text does not fit into the output.
    pub report_narrow : ((report_of input out).state.code ≡ refusal_number R.Narrow)
        ↔ (((input_run input).code ≡ 0) × (length out < length (input_text input)))
    report_narrow =
        let s = input_run input in
        let text = input_text input in
        (narrow_only s text out code_most, λ h. narrow_there s text out h.0 h.1)
