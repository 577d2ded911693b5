-- What is handed back, of a call that was refused and of one that was not. Assumes nothing.
use mathlib.Core.Path.{◌≡◌, refl, ap, ◌∙◌}
use mathlib.Core.Bool.{true}
use mathlib.Core.List.{List}
use Prim.Native.Nat.{ℕ}
use lib.ListN.{length}
use Rattle.tables.specs.declared.Table.{Table}
use Rattle.tables.specs.declared.Refusal.{Refusal}
use Rattle.tables.specs.declared.Refusal.TheVariants as R
use Rattle.tables.specs.Refusals.{Answer}
use Rattle.tables.specs.Refusals.{Accepted, Refused}
use Rattle.tables.specs.declared.Answered.{Answered}
use Rattle.tables.specs.Refusals.{refusal_number, answer_number, if_accepted}
use Rattle.tables.specs.Values.{table_of, zero_table, accepts, refuses, good_width, check_table}
use Rattle.lists.specs.Comings.{Coming}
use Rattle.lists.specs.Comings.{Comes, turned, stayed, counted}
use Rattle.forms.specs.declared.Layout.{Layout}
use Rattle.forms.specs.TableForms.{form_of, form_answer, written}
use Rattle.forms.proofs.Outcomes.{write_refused}
use Rattle.byte_calls.specs.Outputs.{Writable, output_answer_as, output_number_as, output_bytes_as}

module _ (f : Layout) (a : Answered) (out : List ℕ) where
  pub output_refused : {r : Refusal} → a.answer ≡ Refused r
      → (refusal_number r ≡ output_number_as f a out) × (out ≡ output_bytes_as f a out)
  unfolding output_number_as output_bytes_as output_answer_as if_accepted written
  output_refused e = (rw e, rw e)

  pub output_accepted_is : {w : Answer} {out' : List ℕ} → a.answer ≡ Accepted → w ≡ form_answer f a.table (length out)
      → out' ≡ written w (form_of f a.table) out
      → (answer_number w ≡ output_number_as f a out) × (out' ≡ output_bytes_as f a out)
  unfolding output_number_as output_bytes_as output_answer_as if_accepted
  output_accepted_is e wrote same = (rw (e, wrote), same ∙ rw (e, wrote))

-- ---- Where the answer is another's

-- the output of an answer is that of one that is equal to it
pub output_same_as : (f : Layout) (out : List ℕ) {a a' : Answered} {r : ℕ} {out' : List ℕ} → a ≡ a'
    → (r ≡ output_number_as f a out) × (out' ≡ output_bytes_as f a out)
    → (r ≡ output_number_as f a' out) × (out' ≡ output_bytes_as f a' out)
output_same_as f out e o = (
  o.0 ∙ ap (λ (x : Answered). output_number_as f x out) e,
  o.1 ∙ ap (λ (x : Answered). output_bytes_as f x out) e,
)

module _ (f : Layout) (out : List ℕ) {a : Answered} where
  -- a refusal, with any table
  pub output_refusal : {r : Refusal} {t : Table} → refuses r t ≡ a
      → (refusal_number r ≡ output_number_as f a out) × (out ≡ output_bytes_as f a out)
  output_refusal {r = r} {t = t} e = output_same_as f out e (output_refused f (refuses r t) out refl)

  -- a table that was written
  pub output_table : {t : Table} {w : Answer} {out' : List ℕ} → accepts t ≡ a
      → (w ≡ form_answer f t (length out)) × (out' ≡ written w (form_of f t) out)
      → (answer_number w ≡ output_number_as f a out) × (out' ≡ output_bytes_as f a out)
  output_table {t = t} e o = output_same_as f out e (output_accepted_is f (accepts t) out refl o.0 o.1)

  -- the table all zero, which is not written: it has no variables
  pub output_zero : accepts zero_table ≡ a
      → (refusal_number R.Width ≡ output_number_as f a out) × (out ≡ output_bytes_as f a out)
  unfolding check_table zero_table good_width
  output_zero e = output_table e (write_refused f zero_table out refl)

-- ---- What came of a call

-- What came can be written, where the table of an accepted answer has 1 to 32 variables.
pub came_writable : {l : ℕ} {list : List ℕ} {came : Coming} {a : Answered} → Comes l zero_table list came a
    → ((t : Table) → a ≡ accepts t → good_width l ≡ true) → Writable l list came
came_writable (turned r) w = tt
came_writable stayed w = tt
came_writable {l = l} (counted {τ = τ} h) w = (w (table_of l τ) refl, (τ, h))
