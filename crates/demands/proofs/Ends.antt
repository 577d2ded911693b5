-- How a run of equations in either form ends, by its input: it applies none where the input does not pass its checks;
-- else it applies all its equations, or those before a full one. Assumes nothing.
use mathlib.Core.Path.{◌≡◌, refl, sym, ap, subst, ◌∙◌}
use mathlib.Core.List.{List, [], ◌∷◌}
use mathlib.Core.Option.{Option, some, none}
use Prim.Native.Nat.{ℕ, suc, ◌+◌, ◌*◌}
use native.Mathlib.Omega.{arith}
use lib.ListN.{length, drop}
use Rattle.model.specs.Growth.{Entries}
use Rattle.model.specs.Tables.{Side}
use Rattle.model.specs.Walk.{Sides}
use Rattle.tables.specs.declared.Table.{Table}
use Rattle.tables.specs.declared.Refusal.{Refusal}
use Rattle.tables.specs.declared.Refusal.TheVariants as R
use Rattle.tables.specs.Refusals.{Answer}
use Rattle.tables.specs.Refusals.{Accepted, Refused}
use Rattle.tables.specs.declared.Answered.{Answered}
use Rattle.tables.specs.Refusals.{refusal_number, answer_number, if_accepted}
use Rattle.tables.specs.Values.{refuses, made_or_full, GoodTable}
use Rattle.terms.specs.Checks.{Written}
use Rattle.terms.specs.Checks as C
use Rattle.operations.specs.Operations.{side_numbered, written_call}
use Rattle.codec.specs.Numbers.{rows}
use Rattle.codec.proofs.Laws.{length_words}
use Rattle.forms.specs.declared.Layout.TheVariants.{Plain}
use Rattle.forms.specs.declared.Extent.TheVariants.{Whole}
use Rattle.equation_forms.specs.declared.Left.{Left}
use Rattle.forms.specs.TableForms.{first_size, second_size}
use Rattle.equation_forms.specs.EquationForms.{lefts, counts, all_tokens, span, share_out, equations_of, equations_in, check_each}
use Rattle.equation_forms.specs.EquationForms.{check_equations}
use Rattle.equation_forms.proofs.Tests.{equations_passed}
use Rattle.forms.proofs.Reading.{read_good}
use Rattle.running.specs.States.{state, none_applied, run_from, run_state}
use Rattle.running.proofs.Beginning.{run_unread, run_unchecked, run_goes}
use Rattle.demands.specs.RunEnds.{Ends, through, full}
use Rattle.demands.specs.Demand2.{Reads, Unread}
use Rattle.demands.proofs.Equations.{called, accepted_exact}

-- ---- Before the first equation

module _ (f : Left) (side : ℕ) (b q : List ℕ) where
  -- A run whose table does not read has applied none, and has the reader's number.
  pub run_not_read : {r : Refusal} → Unread b r → run_state f side b q ≡ none_applied (refusal_number r) side
  run_not_read e = sym (run_unread f side b q (sym e) refl)

  module _ {t : Table} (reads : Reads b t) where
    -- A run whose equations are refused has applied none, and has their number.
    pub run_not_checked : {r : Refusal} → check_equations f t.l q ≡ Refused r
        → run_state f side b q ≡ none_applied (refusal_number r) side
    run_not_checked e = sym (run_unchecked f side b q (sym reads) refl e)

    -- A run of no equations is accepted, with the table that was read.
    pub run_of_none : check_equations f t.l q ≡ Accepted → first_size q ≡ 0 → run_state f side b q ≡ state 0 side 0 t
    unfolding equations_of share_out rows run_from
    run_of_none e empty =
        sym (run_goes f side b q (sym reads) refl e)
        ∙ ap (λ (k : ℕ). run_from side t 0 (equations_of f k (second_size q) q)) empty

-- ---- Equation by equation

shared_out : (f : Left) (xs cs ts : List ℕ) → length xs ≡ length cs → length (share_out f xs cs ts) ≡ length xs
unfolding share_out
shared_out f [] cs ts h = refl
shared_out f (x ∷ xs) [] ts h = absurd (omega arith)
shared_out f (x ∷ xs) (c ∷ cs) ts h = ap suc (shared_out f xs cs (drop (span f x c) ts) (omega arith))

-- The equations of a form are as many as it says.
pub equations_many : (f : Left) (e m : ℕ) (b : List ℕ) → length (equations_of f e m b) ≡ e
unfolding equations_of
equations_many f e m b =
    let many = length_words 2 e (drop 4 b) in
    shared_out f (lefts e b) (counts e b) (all_tokens e m b) (many ∙ sym (length_words 2 e (drop (4 + 2 * e) b))) ∙ many

-- equations that pass their checks: the first reads, and the rest pass
first_reads : (l : ℕ) (w : Written) (ws : List Written) → check_each l (w ∷ ws) ≡ Accepted
    → ((s : Sides) × (C.check_written l w ≡ C.reads s)) × (check_each l ws ≡ Accepted)
unfolding check_each C.if_read
first_reads l w ws e = go (C.check_written l w) refl e
  where
    go : (o : C.Outcome Sides) → C.check_written l w ≡ o → C.if_read o Refused (λ s. check_each l ws) ≡ Accepted
        → ((s : Sides) × (C.check_written l w ≡ C.reads s)) × (check_each l ws ≡ Accepted)
    go (C.reads s) h f = ((s, h), f)
    go (C.refuses r) h f = absurd (let z : ◌≡◌ {A = ℕ} 0 1 = cc in omega arith)

-- where the growth rule decides, a refusal is full, with the table as given
only_full : (l : ℕ) (t : Table) (o : Option Entries) {r : Refusal} → (made_or_full l t o).answer ≡ Refused r
    → made_or_full l t o ≡ refuses R.Full t
unfolding made_or_full
only_full l t (some ρ) e = absurd (let z : ◌≡◌ {A = ℕ} 0 1 = cc in omega arith)
only_full l t none e = refl

module _ (side : Side) (t : Table) (w : Written) (ws : List Written) (good : GoodTable t)
    (passed : check_each t.l (w ∷ ws) ≡ Accepted) where
  -- the answer to the first
  abbrev first : Answered
  first = written_call side t w

  -- Where the first of checked equations is accepted its table is good, and the rest pass their checks on it.
  pub first_accepted : first.answer ≡ Accepted → GoodTable first.table × (check_each first.table.l ws ≡ Accepted)
  first_accepted h =
      let m = accepted_exact side t w good h in
      (m.is_good, rw m.width (first_reads t.l w ws passed).1)

  -- Where it is refused it is full, with the table as given.
  pub first_refused : {r : Refusal} → first.answer ≡ Refused r → first ≡ refuses R.Full t
  first_refused h =
      let reads = (first_reads t.l w ws passed).0 in
      let is = called side t w good reads.0 reads.1 in
      is ∙ only_full t.l t _ (ap (λ (y : Answered). y.answer) (sym is) ∙ h)

from_ends : (side : ℕ) (ws : List Written) (t : Table) (k : ℕ) → GoodTable t → check_each t.l ws ≡ Accepted
    → Ends (run_from side t k ws) (k + length ws)
unfolding run_from if_accepted
from_ends side [] t k good e = through refl (omega arith)
from_ends side (w ∷ ws) t k good e = go next.answer refl (λ u. from_ends side ws u (k + 1))
  where
    next : Answered
    next = written_call (side_numbered side) t w

    go : (y : Answer) → next.answer ≡ y
        → ((u : Table) → GoodTable u → check_each u.l ws ≡ Accepted → Ends (run_from side u (k + 1) ws) ((k + 1) + length ws))
        → Ends (if_accepted y (λ r. state (refusal_number r) side k next.table) (run_from side next.table (k + 1) ws))
        (k + suc (length ws))
    go Accepted h later =
        let on = first_accepted (side_numbered side) t w ws good e h in
        let same : (k + 1) + length ws ≡ k + suc (length ws) = omega arith in
        subst (Ends (run_from side next.table (k + 1) ws)) same (later next.table on.0 on.1)
    go (Refused r) h later =
        let is = first_refused (side_numbered side) t w ws good e h in
        full (ap answer_number (sym h ∙ ap (λ (y : Answered). y.answer) is)) (omega arith)

-- A run whose input passes its checks ends accepted with all its equations applied, or full with fewer.
pub run_ends : (f : Left) (side : ℕ) (b q : List ℕ) (t : Table) → Reads b t → check_equations f t.l q ≡ Accepted
    → Ends (run_state f side b q) (length (equations_in f q))
run_ends f side b q t reads checked =
    let ws = equations_in f q in
    let ends : Ends (run_from side t 0 ws) (0 + length ws) =
    from_ends side ws t 0 (read_good Plain Whole b t reads).0 (equations_passed f t.l q checked).each in
    let all : 0 + length ws ≡ length ws = omega arith in
    rw (← run_goes f side b q (sym reads) refl checked) (subst (Ends (run_from side t 0 ws)) all ends)
