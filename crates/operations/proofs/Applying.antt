-- The equations that a walk finds, applied one after another to the list of a checked table. Assumes nothing.
use mathlib.Core.Path.{◌≡◌, refl, sym, ap, ◌∙◌}
use mathlib.Core.List.{List, []}
use mathlib.Core.Option.{Option, some}
use Prim.Native.Nat.{ℕ}
use Rattle.model.specs.Growth.{◌>>=◌, fold, Entries}
use Rattle.model.specs.Tables.{Side}
use Rattle.model.specs.Equations.{Equation, equation}
use Rattle.model.specs.Unification.{next_equation, walk_entries}
use Rattle.lists.specs.WorkingLists.{Grown}
use Rattle.lists.specs.WorkingLists.{Count, Full}
use Rattle.lists.specs.WorkingLists.{Holds, Makes, makes, stops}
use Rattle.lists.proofs.Holding.{makes_count, makes_full}
use Rattle.terms.specs.declared.Equation as E
use Rattle.terms.specs.EquationKinds.{Told}
use Rattle.walks.specs.Cursors.{Rest}
use Rattle.walks.proofs.Consuming.{Listed}

-- The array holds what the equations of es so far make of the entries τ₀, and the others are found from the cursors i and j on.
pub record SoFar (side : Side) (l : ℕ) (τ₀ : Entries) (list : List ℕ) (n : ℕ) (left right : List ℕ) (i j : ℕ)
    (es : List Equation) : Type 0 where
  pub τ : Entries
  pub held : Holds l list n τ
  pub others : List Equation
  pub rest : Rest l left right i j (some others)
  pub same : fold (next_equation side l) τ others ≡ fold (next_equation side l) τ₀ es

pub so_far_start : (side : Side) {l : ℕ} {τ₀ : Entries} {list : List ℕ} {n : ℕ} {left right : List ℕ} {es : List Equation}
    → Holds l list n τ₀ → Rest l left right 0 0 (some es)
    → SoFar side l τ₀ list n left right 0 0 es
so_far_start side {τ₀ = τ₀} {es = es} h r = record { τ = τ₀; held = h; others = es; rest = r; same = refl }

module _ {side : Side} {l : ℕ} {τ₀ : Entries} {list : List ℕ} {n : ℕ} {left right : List ℕ} {i j : ℕ} {es : List Equation}
    (s : SoFar side l τ₀ list n left right i j es) where
  -- No equation is left: the array holds the whole.
  pub so_far_end : s.others ≡ [] → Makes l list (Count n) (walk_entries side l (some es) τ₀)
  unfolding walk_entries fold
  so_far_end e = rw (sym s.same ∙ ap (fold (next_equation side l) s.τ) e) (makes s.held)

  -- one equation more, and what it makes of the list
  module _ {q : E.Equation} {a b : ℕ} (w : Listed l left right i j s.others q a b) {list' : List ℕ} {r : Grown}
      (made : (τ : Entries) (e : Equation) → Holds l list n τ → Told l q e → Makes l list' r (equation side l e τ)) where
    called : Makes l list' r (equation side l w.e s.τ)
    called = made s.τ w.e s.held w.told

    next : {o : Option Entries} → equation side l w.e s.τ ≡ o
        → (o >>= λ ρ. fold (next_equation side l) ρ w.others) ≡ fold (next_equation side l) τ₀ es
    unfolding fold
    next k =
        ap (λ (o : Option Entries). o >>= λ ρ. fold (next_equation side l) ρ w.others) (sym k)
        ∙ ap (fold (next_equation side l) s.τ) (sym w.is)
        ∙ s.same

    -- Where it is full the whole is.
    pub so_far_full : r ≡ Full → Makes l list' Full (walk_entries side l (some es) τ₀)
    unfolding walk_entries ◌>>=◌
    so_far_full e = rw (sym (next (makes_full called e))) stops

    -- Else it goes on with the list made.
    pub so_far_step : {m : ℕ} → r ≡ Count m → SoFar side l τ₀ list' m left right a b es
    unfolding ◌>>=◌
    so_far_step e =
        let k = makes_count called e in
        record { τ = k.0; held = k.2; others = w.others; rest = w.rest; same = next k.1 }
