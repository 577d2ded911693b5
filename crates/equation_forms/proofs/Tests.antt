-- The tests that a form of equations passes. Assumes nothing.
use mathlib.Core.Path.{◌≡◌}
use mathlib.Core.Bool.{◌&&◌}
use mathlib.Core.List.{List}
use Prim.Native.Nat.{ℕ}
use native.Mathlib.Omega.{arith}
use borrow.Author.Tests.{leb-true, eqb-true}
use lib.Dec.{leb, eqb}
use lib.ListN.{length}
use Rattle.tables.specs.declared.Refusal.{Refusal}
use Rattle.tables.specs.declared.Refusal.TheVariants as R
use Rattle.tables.specs.Refusals.{Answer}
use Rattle.tables.specs.Refusals.{Accepted, Refused}
use Rattle.terms.specs.Checks.{most_tokens}
use Rattle.tables.proofs.Tests.{both_true}
use Rattle.equation_forms.specs.declared.Left.{Left}
use Rattle.forms.specs.TableForms.{sized, first_size, second_size}
use Rattle.equation_forms.specs.EquationForms.{most_equations, equations_length, equations_in, check_each, tokens_counted}
use Rattle.equation_forms.specs.EquationForms.{check_sized, check_equations, GoodSizes}
use Rattle.forms.proofs.Tests.{held}

-- The tests of equations, all passed.
pub record EquationsPassed (f : Left) (l : ℕ) (b : List ℕ) : Type 0 where
  pub sizes : GoodSizes f b
  pub each : check_each l (equations_in f b) ≡ Accepted

-- Equations that are accepted have passed their tests.
pub equations_passed : (f : Left) (l : ℕ) (b : List ℕ) → check_equations f l b ≡ Accepted → EquationsPassed f l b
unfolding check_equations check_sized
equations_passed f l b e =
    let clash : (r : Refusal) → ◌≡◌ {A = Answer} (Refused r) Accepted → ⊥ =
    λ r g. absurd (let z : ◌≡◌ {A = ℕ} 0 1 = cc in omega arith) in
    let s = held (sized b) _ _ Accepted e (clash R.Torn) in
    let m = held (leb (first_size b) most_equations && leb (second_size b) most_tokens) _ _ Accepted s.1 (clash R.Long) in
    let n = held (eqb (length b) (equations_length (first_size b) (second_size b))) _ _ Accepted m.1 (clash R.Torn) in
    let t = held (eqb (tokens_counted f (first_size b) b) (second_size b)) _ _ Accepted n.1 (clash R.Term) in
    let most = both_true (leb (first_size b) most_equations) (leb (second_size b) most_tokens) m.0 in
    let sizes : GoodSizes f b = record {
      few = leb-true (first_size b) most_equations most.0;
      short = leb-true (second_size b) most_tokens most.1;
      long = eqb-true (length b) (equations_length (first_size b) (second_size b)) n.0;
      whole = eqb-true (tokens_counted f (first_size b) b) (second_size b) t.0;
    } in
    record { sizes = sizes; each = t.1 }
