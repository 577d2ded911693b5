-- The numbers by which a form of equations can be refused. Assumes nothing.
use mathlib.Core.Path.{◌≡◌, refl, ap}
use mathlib.Core.Bool.{◌&&◌}
use mathlib.Core.List.{List, [], ◌∷◌}
use Prim.Native.Nat.{ℕ}
use native.Mathlib.Omega.{arith}
use lib.Dec.{T, leb, eqb}
use lib.ListN.{length}
use Rattle.model.specs.Terms.{Term, var}
use Rattle.model.specs.Walk.{Sides}
use Rattle.tables.specs.declared.Refusal.{Refusal}
use Rattle.tables.specs.declared.Refusal.TheVariants as R
use Rattle.tables.specs.Refusals.{Answer}
use Rattle.tables.specs.Refusals.{Refused}
use Rattle.tables.specs.Refusals.{member, one_of, Numbered}
use Rattle.tables.proofs.Numbers.{within, one_of_more, refused_numbered, accepted_numbered, test_numbered}
use Rattle.terms.specs.Checks.{Outcome, reads, refuses, if_read, most_tokens, check_equation, Written, one_term, two_terms}
use Rattle.terms.specs.Checks.{check_written}
use Rattle.terms.proofs.Checking.{equation_numbers, sides_numbers}
use Rattle.equation_forms.specs.declared.Left.{Left}
use Rattle.forms.specs.TableForms.{sized, first_size, second_size}
use Rattle.equation_forms.specs.EquationForms.{most_equations, equations_length, equations_of, check_each, tokens_counted}
use Rattle.equation_forms.specs.EquationForms.{check_sized, check_equations}

-- The checks of an equation refuse by 7, 5 or 6.
written_numbers : (l : ℕ) (w : Written) (r : Refusal) → check_written l w ≡ refuses r → T (one_of (7 ∷ 5 ∷ 6 ∷ []) r)
unfolding check_written if_read
written_numbers l (one_term x ts) r e = equation_numbers l x ts r (go (check_equation l x ts) e)
  where
    go : (o : Outcome Term)
        → ◌≡◌ {A = Outcome Sides} (if_read o refuses (λ t. reads (record { left = var x; right = t }))) (refuses r)
        → o ≡ refuses r
    go (reads t) q = absurd (let z : ◌≡◌ {A = ℕ} 0 1 = cc in omega arith)
    go (refuses s) q = let z : s ≡ r = cc in ap refuses z
written_numbers l (two_terms ss ts) r e = sides_numbers l ss ts r e

-- equation by equation
after_numbers : (ns : List ℕ) (o : Outcome Sides) (a : Answer) → ((r : Refusal) → o ≡ refuses r → T (one_of ns r))
    → Numbered ns a → Numbered ns (if_read o Refused (λ u. a))
unfolding if_read
after_numbers ns (reads u) a f g = g
after_numbers ns (refuses s) a f g = refused_numbered ns s (f s refl)

each_numbers : (l : ℕ) (ws : List Written) → Numbered (1 ∷ 7 ∷ 6 ∷ 5 ∷ []) (check_each l ws)
unfolding check_each within member
each_numbers l [] = accepted_numbered (1 ∷ 7 ∷ 6 ∷ 5 ∷ [])
each_numbers l (w ∷ ws) =
    after_numbers (1 ∷ 7 ∷ 6 ∷ 5 ∷ []) (check_written l w) (check_each l ws)
    (λ r e. one_of_more (7 ∷ 5 ∷ 6 ∷ []) (1 ∷ 7 ∷ 6 ∷ 5 ∷ []) r tt (written_numbers l w r e))
    (each_numbers l ws)

-- The checks of equations refuse by 1, 7, 6 or 5.
pub equations_numbers : (f : Left) (l : ℕ) (b : List ℕ) → Numbered (1 ∷ 7 ∷ 6 ∷ 5 ∷ []) (check_equations f l b)
unfolding check_equations check_sized one_of member
equations_numbers f l b =
    let ns : List ℕ = 1 ∷ 7 ∷ 6 ∷ 5 ∷ [] in
    let e = first_size b in
    let m = second_size b in
    test_numbered ns (sized b) _ _
    (test_numbered ns (leb e most_equations && leb m most_tokens) _ _
    (test_numbered ns (eqb (length b) (equations_length e m)) _ _
    (test_numbered ns (eqb (tokens_counted f e b) m) _ _
    (each_numbers l (equations_of f e m b))
    (refused_numbered ns R.Term tt))
    (refused_numbered ns R.Torn tt))
    (refused_numbered ns R.Long tt))
    (refused_numbered ns R.Torn tt)
