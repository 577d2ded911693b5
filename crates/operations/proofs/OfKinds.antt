-- What the code's value of an equation says of the entries after it. Assumes nothing.
use mathlib.Core.Path.{◌≡◌, sym, ap, ◌∙◌}
use Prim.Native.Nat.{ℕ}
use Rattle.model.specs.Growth.{Entries}
use Rattle.model.specs.Tables.{Side}
use Rattle.model.specs.Equations.{Equation, Kind, equation_of_kind, equation}
use Rattle.terms.specs.declared.Kind as K
use Rattle.terms.specs.declared.Equation as E
use Rattle.terms.specs.EquationKinds.{kind_named, Told}

-- They are those of the kind that it tells.
pub by_kind : (side : Side) {l : ℕ} {q : E.Equation} {e : Equation} (τ : Entries) → Told l q e → {k : K.Kind} → q.kind ≡ k
    → equation side l e τ ≡ equation_of_kind (kind_named k) side l e τ
unfolding equation
by_kind side {l} {q} {e} τ t p =
    ap (λ (k : Kind). equation_of_kind k side l e τ) (sym t.same_kind ∙ ap kind_named p)
