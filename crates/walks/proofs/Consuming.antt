-- How a caller goes through what the walk finds, in order. Assumes nothing.
use mathlib.Core.Path.{◌≡◌, refl, subst}
use mathlib.Core.Bool.{true, false}
use mathlib.Core.List.{List, [], ◌∷◌}
use mathlib.Core.Option.{some, none}
use Prim.Native.Nat.{ℕ}
use native.Mathlib.Omega.{arith}
use Rattle.model.specs.Growth.{◌>>=◌}
use Rattle.model.specs.Equations.{Equation}
use Rattle.model.specs.Walk.{Walked}
use Rattle.terms.specs.declared.Equation as E
use Rattle.terms.specs.EquationKinds.{Told}
use Rattle.walks.specs.declared.Found.{Found}
use Rattle.walks.specs.declared.Found.TheVariants as F
use Rattle.walks.specs.Cursors.{Rest, found, Onward, Next, at_end, at_clash, at_equation, clash}

-- ---- What an answer says of the walk

-- The equation e is found, and the walk goes on with p.
pub record Goes (l : ℕ) (left right : List ℕ) (i j : ℕ) (o : Walked) (q : E.Equation) (a b : ℕ) : Type 0 where
  pub e : Equation
  pub p : Walked
  pub told : Told l q e
  pub onward : Onward left right i j a b
  pub rest : Rest l left right a b p
  pub is : o ≡ found e p

module _ {l : ℕ} {left right : List ℕ} {i j : ℕ} {o : Walked} {r : Found} (n : Next l left right i j o r) where
  pub goes_on : {q : E.Equation} {a b : ℕ} → r ≡ F.Equation q a b → Goes l left right i j o q a b
  goes_on k = go (subst (Next l left right i j o) k n)
    where
      go : {q : E.Equation} {a b : ℕ} → Next l left right i j o (F.Equation q a b) → Goes l left right i j o q a b
      go (at_equation e p t w s k) = record { e = e; p = p; told = t; onward = w; rest = s; is = k }

  pub clash_told : r ≡ F.Clash → o ≡ none
  clash_told k = go (subst (Next l left right i j o) k n)
    where
      go : Next l left right i j o F.Clash → o ≡ none
      go (at_clash e) = e

  pub end_told : r ≡ F.End → o ≡ some []
  end_told k = go (subst (Next l left right i j o) k n)
    where
      go : Next l left right i j o F.End → o ≡ some []
      go (at_end e) = e

-- It clashes where the rest does.
pub clash_found : (e : Equation) (o : Walked) → clash (found e o) ≡ clash o
unfolding clash found ◌>>=◌
clash_found e none = refl
clash_found e (some es) = refl

-- What a walk that clashes gives.
pub clashed : (o : Walked) → clash o ≡ true → o ≡ none
unfolding clash
clashed none e = refl
clashed (some es) e = absurd (let z : ◌≡◌ {A = ℕ} 0 1 = cc in omega arith)

-- ---- The list of found equations

-- A walk that does not clash has one.
pub unclashed : {l : ℕ} {left right : List ℕ} {i j : ℕ} (o : Walked) → Rest l left right i j o → clash o ≡ false
    → (es : List Equation) × (o ≡ some es) × Rest l left right i j (some es)
unfolding clash
unclashed none r e = absurd (let z : ◌≡◌ {A = ℕ} 0 1 = cc in omega arith)
unclashed (some es) r e = (es, refl, r)

-- The equation e is the first of those that are left.
pub record Listed (l : ℕ) (left right : List ℕ) (i j : ℕ) (es : List Equation) (q : E.Equation) (a b : ℕ) : Type 0 where
  pub e : Equation
  pub others : List Equation
  pub told : Told l q e
  pub onward : Onward left right i j a b
  pub rest : Rest l left right a b (some others)
  pub is : es ≡ e ∷ others

module _ {l : ℕ} {left right : List ℕ} {i j : ℕ} {es : List Equation} {r : Found}
    (n : Next l left right i j (some es) r) where
  pub equation_told : {q : E.Equation} {a b : ℕ} → r ≡ F.Equation q a b → Listed l left right i j es q a b
  unfolding found ◌>>=◌
  equation_told {q} {a} {b} k = let g = goes_on n k in go g.e g.p g.told g.onward g.rest g.is
    where
      go : (e : Equation) (p : Walked) → Told l q e → Onward left right i j a b → Rest l left right a b p
          → some es ≡ found e p
          → Listed l left right i j es q a b
      go e none t w s k = absurd (let z : ◌≡◌ {A = ℕ} 0 1 = cc in omega arith)
      go e (some fs) t w s k = record { e = e; others = fs; told = t; onward = w; rest = s; is = cc }

  pub last_told : r ≡ F.End → es ≡ []
  last_told e = let k = end_told n e in cc

  pub never_clash : ¬ (r ≡ F.Clash)
  never_clash e = let k = clash_told n e in let z : ◌≡◌ {A = ℕ} 0 1 = cc in omega arith
