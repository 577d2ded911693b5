-- Forms of equations that are cut short or followed by more bytes. Assumes nothing.
use mathlib.Core.Path.{◌≡◌, refl, sym, ◌∙◌}
use mathlib.Core.Bool.{true}
use mathlib.Core.List.{List, [], ◌∷◌, ◌++◌}
use Prim.Native.Nat.{ℕ, ◌<◌}
use native.Mathlib.Omega.{arith}
use borrow.Author.Tests.{le-leb, ne_eqb}
use lib.ListN.{length, take, length-append, length-take}
use Rattle.tables.specs.declared.Refusal.TheVariants as R
use Rattle.tables.specs.Refusals.{Accepted, Refused}
use Rattle.terms.specs.Checks.{most_tokens}
use Rattle.codec.specs.Numbers.{number, rows, sum}
use Rattle.equation_forms.specs.declared.Left.{Left}
use Rattle.forms.specs.TableForms.{sized, first_size, second_size}
use Rattle.equation_forms.specs.EquationForms.{most_equations, equations_length, spans, share_out, equations_of}
use Rattle.equation_forms.specs.EquationForms.{check_each, check_sized, check_equations}
use Rattle.equation_forms.proofs.Tests.{equations_passed}
use Rattle.forms.proofs.Cutting.{Sizes, cut_sizes, longer_sizes, torn_by}

-- the sizes of b, and another length
equations_torn : (f : Left) (l : ℕ) (b c : List ℕ) → check_equations f l b ≡ Accepted → (sized c ≡ true → Sizes c b)
    → (length c ≡ length b → ⊥) → check_equations f l c ≡ Refused R.Torn
unfolding check_equations check_sized
equations_torn f l b c e same other =
    let g = (equations_passed f l b e).sizes in
    let bad = ne_eqb (length c) (equations_length (first_size b) (second_size b)) (λ q. other (q ∙ sym g.long)) in
    let few = le-leb (first_size b) most_equations g.few in
    let short = le-leb (second_size b) most_tokens g.short in
    torn_by (sized c) _ _ (λ s. rw ((same s).0, (same s).1, few, short, bad))

equations_sized : (f : Left) (l : ℕ) (b : List ℕ) → check_equations f l b ≡ Accepted → sized b ≡ true
unfolding sized
equations_sized f l b e = le-leb 4 (length b) (omega (arith, (equations_passed f l b e).sizes.long))

-- Equations cut short anywhere are torn.
pub equations_cut : (f : Left) (l : ℕ) (b : List ℕ) (k : ℕ) → check_equations f l b ≡ Accepted → k < length b
    → check_equations f l (take k b) ≡ Refused R.Torn
equations_cut f l b k e h = equations_torn f l b (take k b) e (cut_sizes b k) (λ q. omega (arith, length-take k b))

-- Equations with bytes after them are torn.
pub equations_longer : (f : Left) (l : ℕ) (b : List ℕ) → check_equations f l b ≡ Accepted → (y : ℕ) (c : List ℕ)
    → check_equations f l (b ++ (y ∷ c)) ≡ Refused R.Torn
equations_longer f l b e y c =
    equations_torn f l b (b ++ (y ∷ c)) e (λ s. longer_sizes b (y ∷ c) (equations_sized f l b e))
    (λ q. omega (arith, length-append b (y ∷ c)))

-- The form of no equations is accepted.
pub no_equations : (f : Left) (l : ℕ) → check_equations f l (0 ∷ 0 ∷ 0 ∷ 0 ∷ []) ≡ Accepted
unfolding check_equations check_sized sized sum number rows spans equations_of share_out check_each
no_equations f l = refl
