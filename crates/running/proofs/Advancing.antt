-- One equation of the running analysis: the number that it returns, and the state after it. Assumes nothing.
use mathlib.Core.Path.{◌≡◌, refl, ap, subst, ◌∙◌}
use Prim.Native.Nat.{ℕ}
use Rattle.tables.specs.declared.Table.{Table}
use Rattle.tables.specs.declared.Refusal.{Refusal}
use Rattle.tables.specs.declared.Answered.{Answered}
use Rattle.tables.specs.Refusals.{Answer, Accepted, Refused, answer_number, if_accepted}
use Rattle.tables.specs.Values.{accepts, refuses}
use Rattle.terms.specs.Checks.{Written}
use Rattle.model.specs.Tables.{Side}
use Rattle.operations.specs.Operations.{side_numbered}
use Rattle.byte_calls.specs.ByteCalls.{value_call}
use Rattle.running.specs.declared.Running.{Running}
use Rattle.running.specs.States.{state, one_more, step_number, after_answer, advanced}

-- What a step makes of an answer: its own answer, and the state after it.
abbrev pub Follows : Running → Answered → Answer → Running → Type 0
Follows s a r after = (r ≡ a.answer) × (after ≡ after_answer s a)

module _ (s : Running) {t : Table} {a : Answered} where
  -- Where it is refused.
  pub follows_refused : {q : Refusal} → refuses q t ≡ a → Follows s a (Refused q) s
  unfolding after_answer if_accepted
  follows_refused {q} e = subst (λ (b : Answered). Follows s b (Refused q) s) e (refl, refl)

  -- Where it is accepted, b being the state with the table after it.
  pub follows_accepted : accepts t ≡ a → {b : Running} → b ≡ state s.code s.side s.applied t → {k : ℕ} → k ≡ one_more b.applied
      → Follows s a Accepted (state 0 b.side k b.table)
  unfolding after_answer if_accepted
  follows_accepted e {b} is {k} more =
      subst (λ (x : Answered). Follows s x Accepted (state 0 b.side k b.table)) e (refl, rw (more, is))

-- What follows the answer to an equation is the step with it.
pub follows_step : (s : Running) (w : Written) {side : Side} → side ≡ side_numbered s.side → {r : Answer} {after : Running}
    → Follows s (value_call side s.table w) r after → (answer_number r ≡ step_number s w) × (after ≡ advanced s w)
unfolding step_number advanced
follows_step s w same h = (ap answer_number h.0 ∙ rw same, h.1 ∙ rw same)
