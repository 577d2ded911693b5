-- The reason and the equation agree: where the equation on the table is accepted, the table that it returns has s exactly where s
-- is told to be there. Assumes nothing.
use mathlib.Core.Path.{◌≡◌, ap, subst}
use mathlib.Core.List.{List}
use mathlib.Core.Logic.{◌↔◌}
use Prim.Native.Nat.{ℕ}
use native.Mathlib.Omega.{arith}
use Rattle.model.specs.Tables.{positive}
use Rattle.words.specs.Words.{set}
use Rattle.tables.specs.declared.Table.{Table}
use Rattle.tables.specs.declared.Refusal.{Refusal}
use Rattle.tables.specs.declared.Answered.{Answered}
use Rattle.tables.specs.Values.{accepts}
use Rattle.operations.specs.Operations.{equation_call}
use Rattle.operations.specs.Outcomes.{TableValue, Outcome, early, full, accepted, groups_of}
use Rattle.operations.proofs.Demand2.{equation_outcome}
use Rattle.reasons.specs.Verdicts.{reason_call}
use Rattle.reasons.specs.Statements.{There, ReasonReady}
use Rattle.reasons.proofs.Exclusive.{reason_exclusive}

-- what an accepted call returned
returned : {t : Table} {E : Refusal → Type 0} {P : Type 0} {F : P → Type 0} {R : P → Table → Type 0} {a : Answered} {u : Table}
    → Outcome t E P F R a → a ≡ accepts u → (p : P) × R p u
returned (early e) q = let d = ap (λ (b : Answered). b.answer) q in absurd (let z : ◌≡◌ {A = ℕ} 0 1 = cc in omega arith)
returned (full p f) q = let d = ap (λ (b : Answered). b.answer) q in absurd (let z : ◌≡◌ {A = ℕ} 0 1 = cc in omega arith)
returned {R = R} (accepted p n r) q = (p, subst (R p) (ap (λ (b : Answered). b.table) q) r)

pub reason_agrees : (t : Table) (x : ℕ) (ts : List ℕ) (s : ℕ) → TableValue t → {u : Table}
    → equation_call positive t x ts ≡ accepts u → ReasonReady t x ts s
    → There (reason_call t x ts s) ↔ groups_of positive u (set t.l s)
reason_agrees t x ts s value {u} e ready =
    let o = returned (equation_outcome positive t x ts value) e in
    let w = (reason_exclusive t x ts s value).there_where (o.0, ready.1) in
    let same = o.1.exact (set t.l s) in
    (λ h. same.1 (w.0 h), λ h. w.1 (same.0 h))
