-- The text of a run, equation by equation: the run and the text go on together. Assumes nothing.
use mathlib.Core.Path.{◌≡◌, refl, sym, subst, ◌∙◌}
use mathlib.Core.List.{List, [], ◌++◌}
use Prim.Native.Nat.{ℕ, ◌+◌, ◌*◌, ◌≤◌}
use native.Mathlib.Omega.{arith}
use lib.ListN.{length}
use Rattle.model.specs.Groups.{Groups}
use Rattle.model.specs.Tables.{positive}
use Rattle.tables.specs.declared.Table.{Table}
use Rattle.tables.specs.declared.Refusal.{Refusal}
use Rattle.tables.specs.Refusals.{Accepted, Refused}
use Rattle.tables.specs.declared.Answered.{Answered}
use Rattle.tables.specs.Refusals.{refusal_number, if_accepted}
use Rattle.tables.specs.Values.{GoodTable}
use Rattle.tables.proofs.Checking.{good_long}
use Rattle.terms.specs.Checks.{Written, one_term, two_terms}
use Rattle.operations.specs.Operations.{side_numbered, written_call}
use Rattle.operations.specs.Outcomes.{TableValue, Outcome, early, full, accepted, Becomes}
use Rattle.operations.proofs.Demand2.{equation_outcome, unify_outcome}
use Rattle.equation_forms.specs.declared.Cursor.{Cursor}
use Rattle.equation_forms.specs.declared.Left.TheVariants.{Variable}
use Rattle.equation_forms.specs.EquationForms.{equations_in, GoodSizes, start, Here, Past, this, after, rest}
use Rattle.equation_forms.proofs.Cursors.{rest_start, rest_none, rest_next}
use Rattle.running.specs.States.{state, run_from}
use Rattle.running.proofs.Applying as Run
use Rattle.text.specs.declared.Pass.{Pass}
use Rattle.text.specs.Lines.{first_text, equation_text}
use Rattle.text.specs.Passes.{Room, passed}
use Rattle.text.specs.RunTexts.{text_from, run_text}
use Rattle.text.proofs.PartByPart as Parts
use Rattle.text.proofs.Blocks.{most_block, equation_most}

-- The table after an equation is good, whatever the answer
pub good_after : (t : Table) (w : Written) → GoodTable t → GoodTable (written_call positive t w).table
unfolding written_call
good_after t w good = after w
  where
    go : {Early : Refusal → Type 0} {Ready : Type 0} {Full : Ready → Type 0} {S : Ready → Groups} {a : Answered}
        → Outcome t Early Ready Full (λ r. Becomes positive t.l (S r)) a → GoodTable a.table
    go (early e) = good
    go (full ready f) = good
    go (accepted ready f b) = b.good

    value : TableValue t
    value = record { cares = (good_long good).0; values = (good_long good).1 }

    after : (w : Written) → GoodTable (written_call positive t w).table
    after (one_term x ts) = go (equation_outcome positive t x ts value)
    after (two_terms ss ts) = go (unify_outcome positive t ss ts value)

module _ (pass : Pass) (q : List ℕ) (t : Table) where
  -- what is said of all equations
  abbrev whole : List ℕ
  whole = text_from t 1 (equations_in Variable q)

  -- The run from this place on gives the whole run, and what is left to be said of it completes the whole text.
  pub record SoFar (out₀ : List ℕ) (end₀ : ℕ) (out : List ℕ) (end : ℕ) (u : Table) (c : Cursor) : Type 0 where
    pub run : Run.SoFar Variable 0 q t u c
    pub good : GoodTable u
    pub short : end ≤ most_block * (c.k + 1)
    pub text : Parts.SoFar pass out₀ end₀ whole out end (text_from u (c.k + 1) (rest Variable c q))

  module _ (out₀ : List ℕ) (end₀ : ℕ) where
    -- So it is before the first equation.
    pub so_far_start : GoodSizes Variable q → GoodTable t → end₀ ≤ most_block → Room pass out₀ end₀ whole
        → SoFar out₀ end₀ out₀ end₀ t (start q)
    so_far_start s good short room = record {
      run = Run.so_far_start 0 t s;
      good = good;
      short = omega (arith, short);
      text = rw (rest_start Variable q) (Parts.so_far_start pass out₀ end₀ whole room);
    }

    -- After the last one all is written, and the run is accepted.
    pub so_far_end : {out : List ℕ} {end : ℕ} {u : Table} {c : Cursor} → SoFar out₀ end₀ out end u c → Past c
        → (state 0 0 c.k u ≡ run_from 0 t 0 (equations_in Variable q)) × Parts.SoFar pass out₀ end₀ whole out end []
    unfolding text_from
    so_far_end s past =
        (Run.so_far_end s.run past, let d = s.text in rw (rest_none s.run.on past) at d)

    module _ {out : List ℕ} {end : ℕ} {u : Table} {c : Cursor} (s : SoFar out₀ end₀ out end u c) (here : Here c)
        {a : Answered} (called : a ≡ written_call positive u (this Variable c q)) where
      -- what is said of this equation, and what is left after it
      abbrev this_text : List ℕ
      this_text = equation_text (c.k + 1) a.answer a.table

      abbrev left : List ℕ
      left = if_accepted a.answer (λ r. []) (text_from a.table (c.k + 1 + 1) (rest Variable (after Variable c q) q))

      next : text_from u (c.k + 1) (rest Variable c q) ≡ this_text ++ left
      unfolding text_from
      next = rw (rest_next s.run.on here, called)

      -- The table after the equation at the place is good.
      pub good_next : GoodTable a.table
      good_next = subst (λ (b : Answered). GoodTable b.table) (sym called) (good_after u (this Variable c q) s.good)

      text_next : Parts.SoFar pass out₀ end₀ whole out end (this_text ++ left)
      text_next = rw next at s.text

      -- There is room for what is said of it.
      pub so_far_room : Room pass out end this_text
      so_far_room = Parts.so_far_room this_text left text_next

      module _ {out' : List ℕ} {end' : ℕ} (b : out' ≡ passed pass out end this_text)
          (l : end' ≡ end + length this_text) where
        said : Parts.SoFar pass out₀ end₀ whole out' end' left
        said = Parts.so_far_step this_text left text_next b l

        -- Where it is accepted the run and the text go on after it.
        pub so_far_step : a.answer ≡ Accepted → SoFar out₀ end₀ out' end' a.table (after Variable c q)
        unfolding if_accepted side_numbered
        so_far_step y = record {
          run = Run.so_far_step s.run here refl called y;
          good = good_next;
          short = omega (arith, l, s.short, equation_most (c.k + 1) a.answer good_next);
          text = let d = said in rw y at d;
        }

        -- Where it is refused all is written.
        pub so_far_stop : {r : Refusal} → a.answer ≡ Refused r
            → (state (refusal_number r) 0 c.k a.table ≡ run_from 0 t 0 (equations_in Variable q))
            × Parts.SoFar pass out₀ end₀ whole out' end' []
        unfolding if_accepted side_numbered
        so_far_stop y = (Run.so_far_stop s.run here refl called y, let d = said in rw y at d)

-- ---- The whole text

module _ (pass : Pass) (out : List ℕ) (t : Table) (ws : List Written) (room : Room pass out 0 (run_text t ws)) where
  -- all of it is left before the first table
  begun : Parts.SoFar pass out 0 (run_text t ws) out 0 (first_text t ++ text_from t 1 ws)
  unfolding run_text
  begun = Parts.so_far_start pass out 0 (run_text t ws) room

  -- There is room for the first table.
  pub room_first : Room pass out 0 (first_text t)
  room_first = Parts.so_far_room (first_text t) (text_from t 1 ws) begun

  module _ {out₀ : List ℕ} {end₀ : ℕ} (b : out₀ ≡ passed pass out 0 (first_text t)) (l : end₀ ≡ length (first_text t)) where
    opened : Parts.SoFar pass out 0 (run_text t ws) out₀ end₀ (text_from t 1 ws)
    opened = Parts.so_far_step (first_text t) (text_from t 1 ws) begun b (omega (arith, l))

    -- And for the equations after it.
    pub room_rest : Room pass out₀ end₀ (text_from t 1 ws)
    room_rest = opened.room

    -- once the equations are written all is
    pub all_written : {out' : List ℕ} {end' : ℕ} → Parts.SoFar pass out₀ end₀ (text_from t 1 ws) out' end' []
        → (end' ≡ length (run_text t ws)) × (out' ≡ passed pass out 0 (run_text t ws)) × (length out' ≡ length out)
    all_written w =
        let d = Parts.so_far_end w in
        (omega (arith, d.0, opened.long), d.1 ∙ opened.same, w.kept ∙ opened.kept)
