-- The equation of either side with its parts in the order in which the code makes them. Assumes nothing.
use mathlib.Core.Path.{◌≡◌, refl, sym, ◌∙◌}
use mathlib.Core.List.{[]}
use mathlib.Core.Option.{Option, some, none}
use Prim.Native.Nat.{ℕ}
use Rattle.model.specs.Groups.{Bits, or}
use Rattle.model.specs.Strings.{zeros, ones}
use Rattle.model.specs.Growth.{◌>>=◌, Entries, grow, grow_all}
use Rattle.model.specs.Tables.{meets_of, relevant, irrelevant, cross, close, change_side, positive_equation, negative_equation}
use Rattle.lists.proofs.BindLaws.{then_same, then_none, then_then}
use Rattle.procedures.specs.Parts.{closed_cross, positive_closed_cross, having_set, negative_closed_cross}

-- the closed cross as one step
pub positive_regrouped : (x t : Bits) (τ : Entries)
    → positive_equation x t τ ≡ (irrelevant (or x t) τ >>= λ I. positive_closed_cross x t τ >>= λ K. grow_all I K)
unfolding positive_equation positive_closed_cross closed_cross
positive_regrouped x t τ = then_same (irrelevant (or x t) τ) (λ I.
    sym (then_then (relevant x τ) _ _ ∙ then_same (relevant x τ) (λ A.
    then_then (relevant t τ) _ _ ∙ then_same (relevant t τ) (λ B. then_then (cross A B) close _))))

module _ {A : Type 0} (f close : A → Option A) (cross last : A → A → Option A) where
  -- the third list can come last
  regroup : (p q c : Option A)
      → (p >>= λ P. q >>= λ Q. c >>= λ C. f P >>= λ A. f Q >>= λ B. cross A B >>= λ J. close J >>= λ R. f R >>= λ K. last C K)
      ≡ (((p >>= f) >>= λ A. (q >>= f) >>= λ B. (cross A B >>= close) >>= f) >>= λ K. c >>= λ C. last C K)
  unfolding ◌>>=◌
  regroup none q c = refl
  regroup (some P) none c = sym (rw (then_none {B = A} (f P)))
  regroup (some P) (some Q) none = sym (then_none (f P >>= λ A. f Q >>= λ B. (cross A B >>= close) >>= f))
  regroup (some P) (some Q) (some C) =
      sym (then_then (f P) _ _ ∙ then_same (f P) (λ A. then_then (f Q) _ _ ∙ then_same (f Q) (λ B.
      then_then (cross A B >>= close) f _ ∙ then_then (cross A B) close _)))

-- the closed cross first
pub negative_regrouped : (l : ℕ) (x t : Bits) (τ : Entries)
    → negative_equation l x t τ
    ≡ (negative_closed_cross l x t τ >>= λ K. grow_all τ (ones (or x t)) >>= λ C. grow_all [] (meets_of C K))
unfolding negative_equation negative_closed_cross having_set closed_cross
negative_regrouped l x t τ =
    regroup (change_side l) close cross (λ C K. grow_all [] (meets_of C K))
    (grow τ (zeros x)) (grow τ (zeros t)) (grow_all τ (ones (or x t)))
