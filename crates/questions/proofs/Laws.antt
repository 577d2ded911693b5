-- Laws of the questions that users lean on, as statements over groups; of the empty set, as replies. Assumes nothing.
use mathlib.Core.Path.{◌≡◌, refl, sym, subst}
use mathlib.Core.List.{[], ◌∷◌}
use mathlib.Core.Logic.{⊎_elim}
use Prim.Native.Nat.{ℕ, zero, suc, ◌^◌, ◌<◌}
use borrow.Author.Tests.{lt-ltb}
use lib.Dec.{T, eqb_refl}
use lib.ListN.{length}
use lib.Pow.{pow_pos}
use Rattle.model.specs.Groups.{Bits, Groups, Ors, one, more, has, meets, AOrB, Those}
use Rattle.model.specs.Terms.{Term, var, occurs, variables}
use Rattle.model.specs.Tables.{Side}
use Rattle.model.specs.Equations.{Equation, Kind, itself, deeper, plain, kind, WithVariable, WithSome, AfterKind, After}
use Rattle.model.specs.Questions.{Equal, Ground, Independent}
use Rattle.model.proofs.Variables.{meets_variable}
use Rattle.model.proofs.OccursCheck.{itself_is}
use Rattle.words.specs.Words.{set}
use Rattle.tables.specs.declared.Table.{Table}
use Rattle.tables.specs.Values.{GoodTable}
use Rattle.tables.proofs.Checking.{good_long}
use Rattle.operations.specs.Outcomes.{TableValue}
use Rattle.questions.specs.Replies.{Yes}
use Rattle.questions.specs.Replies.{good_sets, independent_call}
use Rattle.questions.proofs.Exclusive.{independent_exclusive}

-- ---- Equal is an equivalence, and equal tables give the same answers

pub equal_self : (S : Groups) → Equal S S
equal_self S g = (λ h. h, λ h. h)

pub equal_back : (S R : Groups) → Equal S R → Equal R S
equal_back S R e g = ((e g).1, (e g).0)

pub equal_chain : (S R Q : Groups) → Equal S R → Equal R Q → Equal S Q
equal_chain S R Q e f g = (λ h. (f g).0 ((e g).0 h), λ h. (e g).1 ((f g).1 h))

pub equal_ground : (S R : Groups) (x : ℕ) → Equal S R → Ground S x → Ground R x
equal_ground S R x e f g h = f g ((e g).1 h)

pub equal_independent : (S R : Groups) (a b : Bits) → Equal S R → Independent S a b → Independent R a b
equal_independent S R a b e f g h = f g ((e g).1 h)

-- ---- After x = t with t ground, x is ground

-- no "a or b" where no group has a variable of t
none_related : (S X Y : Groups) → ((g : Bits) → S g → ¬ (Y g)) → (g : Bits) → ¬ (Ors (AOrB (Those S X) (Those S Y)) g)
none_related S X Y f g (one p) = f p.b p.in_b.0 p.in_b.1
none_related S X Y f g (more p q) = f p.b p.in_b.0 p.in_b.1

-- in an equation of each kind
ground_kind : (k : Kind) (S : Groups) (e : Equation) → kind e ≡ k → ((y : ℕ) → T (occurs y e.right) → Ground S y)
    → Ground (AfterKind k e S) e.left
unfolding AfterKind occurs
ground_kind itself S e q f g h x =
    f e.left (subst (λ (t : Term). T (occurs e.left t)) (sym (itself_is e q)) (eqb_refl e.left)) g h x
ground_kind deeper S e q f g h x = h
ground_kind plain S e q f g h x =
    ⊎_elim (λ k. k.1 x)
    (none_related S (WithVariable e.left) (WithSome e.right) (λ k s w. f w.0 w.1 k s w.2) g) h

-- where every variable of t is ground, x is ground after x = t
pub ground_after : (S : Groups) (e : Equation) → ((y : ℕ) → T (occurs y e.right) → Ground S y)
    → Ground (After e S) e.left
ground_after S e = ground_kind (kind e) S e refl

-- ---- {x} and {y} are independent exactly when no group has both

pub independent_pair : (l : ℕ) (S : Groups) → ((g : Bits) → S g → length g ≡ l) → (x y : ℕ)
    → Independent S (variables l (var x)) (variables l (var y)) → (g : Bits) → S g → ¬ (T (has g x) × T (has g y))
independent_pair l S long x y f g s h =
    f g s ((meets_variable l x g (long g s)).1 h.0, (meets_variable l y g (long g s)).1 h.1)

pub pair_independent : (l : ℕ) (S : Groups) → ((g : Bits) → S g → length g ≡ l) → (x y : ℕ)
    → ((g : Bits) → S g → ¬ (T (has g x) × T (has g y))) → Independent S (variables l (var x)) (variables l (var y))
pair_independent l S long x y f g s h =
    f g s ((meets_variable l x g (long g s)).0 h.0, (meets_variable l y g (long g s)).0 h.1)

-- ---- An empty set is independent of any

empty_meets : (l : ℕ) (g : Bits) → ¬ (T (meets (set l 0) g))
unfolding set meets
empty_meets zero g h = h
empty_meets (suc l) [] h = h
empty_meets (suc l) (b ∷ g) h = empty_meets l g h

module _ (side : Side) (t : Table) (b : ℕ) (good : GoodTable t) (below : b < 2 ^ t.l) where
  value : TableValue t
  value = record { cares = (good_long good).0; values = (good_long good).1 }

  -- The empty set and any set of the table's variables are independent.
  pub empty_independent : independent_call side t 0 b ≡ Yes
  unfolding good_sets
  empty_independent =
      (independent_exclusive side t 0 b value).yes_where.1 (
        (good, rw (lt-ltb 0 (2 ^ t.l) (pow_pos t.l), lt-ltb b (2 ^ t.l) below)),
        λ g s h. empty_meets t.l g h.0,
      )

  -- Any set of the table's variables and the empty set are independent.
  pub independent_empty : independent_call side t b 0 ≡ Yes
  unfolding good_sets
  independent_empty =
      (independent_exclusive side t b 0 value).yes_where.1 (
        (good, rw (lt-ltb b (2 ^ t.l) below, lt-ltb 0 (2 ^ t.l) (pow_pos t.l))),
        λ g s h. empty_meets t.l g h.1,
      )
