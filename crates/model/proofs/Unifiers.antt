-- Unifiers of two terms and of the equations that their walk finds: why the walk is the right model of the bindings (02, request
-- 2). Assumes nothing.
use mathlib.Core.Path.{◌≡◌, refl, sym, ap, ap₂, ◌∙◌, subst}
use mathlib.Core.Bool.{Bool, true, false, ◌&&◌, cond}
use mathlib.Core.List.{List, [], ◌∷◌, ◌++◌}
use mathlib.Core.Logic.{◌↔◌}
use mathlib.Core.Option.{some, none}
use Prim.Native.Nat.{ℕ, suc}
use native.Mathlib.Omega.{arith}
use lib.Dec.{T, eqb, eqb→eq, eqb_refl}
use Rattle.model.specs.Growth.{◌>>=◌}
use Rattle.model.specs.Terms.{Term, Terms, var, head, nil, cons, arity, apply, apply_row}
use Rattle.model.specs.Equations.{Equation, deeper, kind}
use Rattle.model.specs.Walk.{Walked, both, walk, walk_row}
use Rattle.model.specs.Bindings.{Bindings, Substitution, bound, as_bound}
use Rattle.model.proofs.Tests.{true_of}
use Rattle.model.proofs.Given.{Each, each_append}
use Rattle.model.proofs.OccursCheck.{no_solution}

row_arity : (ρ : Substitution) (ts : Terms) → arity (apply_row ρ ts) ≡ arity ts
unfolding arity apply_row
row_arity ρ nil = refl
row_arity ρ (cons t ts) = ap suc (row_arity ρ ts)

module _ (θ : Bindings) (σ : Substitution) where
  -- σ makes the two sides of the equation as bound equal.
  abbrev pub Solves : Equation → Type 0
  Solves e = apply σ (bound θ e.left) ≡ apply σ (as_bound θ e.right)

  -- Those of every equation that a walk found, and it did not clash.
  unfoldable pub SolvesWalk : Walked → Type 0
  SolvesWalk none = ⊥
  SolvesWalk (some es) = Each Solves es

  each_split : (es fs : List Equation) → Each Solves (es ++ fs) → Each Solves es × Each Solves fs
  unfolding Each
  each_split [] fs p = (tt, p)
  each_split (e ∷ es) fs p = let r = each_split es fs p.1 in ((p.0, r.0), r.1)

  both_solved : (o p : Walked) → SolvesWalk o → SolvesWalk p → SolvesWalk (both o p)
  unfolding SolvesWalk both ◌>>=◌
  both_solved none p a b = a
  both_solved (some es) none a b = b
  both_solved (some es) (some fs) a b = each_append Solves es fs a b

  solved_both : (o p : Walked) → SolvesWalk (both o p) → SolvesWalk o × SolvesWalk p
  unfolding SolvesWalk both ◌>>=◌
  solved_both none p a = absurd a
  solved_both (some es) none a = absurd a
  solved_both (some es) (some fs) a = each_split es fs a

  -- a term and a row of terms as bound, after σ
  abbrev whole : Term → Term
  whole t = apply σ (as_bound θ t)

  abbrev rows : Terms → Terms
  rows ts = apply_row σ (apply_row (bound θ) ts)

  same_arity : (ss ts : Terms) → rows ss ≡ rows ts → T (eqb (arity ss) (arity ts))
  same_arity ss ts e =
      subst (λ (n : ℕ). T (eqb (arity ss) n)) (sym (count ss) ∙ ap arity e ∙ count ts) (eqb_refl (arity ss))
    where
      count : (ts : Terms) → arity (rows ts) ≡ arity ts
      count ts = row_arity σ (apply_row (bound θ) ts) ∙ row_arity (bound θ) ts

  mutual
    unfolding SolvesWalk Each walk walk_row as_bound apply apply_row

    solved : (s t : Term) → whole s ≡ whole t → SolvesWalk (walk s t)
    solved (var x) t e = (e, tt)
    solved (head f ss) (var y) e = (sym e, tt)
    solved (head f ss) (head g ts) e =
        let r : rows ss ≡ rows ts = cc in
        let p : T (eqb f g) = subst (λ (n : ℕ). T (eqb f n)) (cc) (eqb_refl f) in
        rw (true_of (eqb f g) p, true_of (eqb (arity ss) (arity ts)) (same_arity ss ts r)) (solved_row ss ts r)

    solved_row : (ss ts : Terms) → rows ss ≡ rows ts → SolvesWalk (walk_row ss ts)
    solved_row nil nil e = tt
    solved_row nil (cons t ts) e = let z : ◌≡◌ {A = ℕ} 0 1 = cc in omega arith
    solved_row (cons s ss) nil e = let z : ◌≡◌ {A = ℕ} 0 1 = cc in omega arith
    solved_row (cons s ss) (cons t ts) e =
        both_solved (walk s t) (walk_row ss ts) (solved s t (cc)) (solved_row ss ts (cc))

  mutual
    unfolding SolvesWalk Each walk walk_row as_bound apply apply_row

    unifies : (s t : Term) → SolvesWalk (walk s t) → whole s ≡ whole t
    unifies (var x) t a = a.0
    unifies (head f ss) (var y) a = sym a.0
    unifies (head f ss) (head g ts) a =
        down (eqb f g) (eqb (arity ss) (arity ts)) (eqb→eq f g) (λ r. unifies_row ss ts r) a
      where
        down : (b c : Bool) → (T b → f ≡ g) → (SolvesWalk (walk_row ss ts) → rows ss ≡ rows ts)
            → SolvesWalk (cond (b && c) (walk_row ss ts) none)
            → whole (head f ss) ≡ whole (head g ts)
        down true true p r a = ap₂ head (p tt) (r a)
        down true false p r a = absurd a
        down false c p r a = absurd a

    unifies_row : (ss ts : Terms) → SolvesWalk (walk_row ss ts) → rows ss ≡ rows ts
    unifies_row nil nil a = refl
    unifies_row nil (cons t ts) a = absurd a
    unifies_row (cons s ss) nil a = absurd a
    unifies_row (cons s ss) (cons t ts) a =
        let r = solved_both (walk s t) (walk_row ss ts) a in ap₂ cons (unifies s t r.0) (unifies_row ss ts r.1)

  -- A substitution makes two terms as bound equal exactly where it does so for both sides of every found equation.
  pub unifier_exact : (s t : Term) (es : List Equation) → walk s t ≡ some es
      → (apply σ (as_bound θ s) ≡ apply σ (as_bound θ t)) ↔ Each Solves es
  unfolding SolvesWalk
  unifier_exact s t es w = (
    λ e. subst SolvesWalk w (solved s t e),
    λ a. unifies s t (subst SolvesWalk (sym w) a),
  )

  -- Where the walk clashes, no substitution whatever makes the two terms as bound equal.
  pub clash_no_unifier : (s t : Term) → walk s t ≡ none → ¬ (apply σ (as_bound θ s) ≡ apply σ (as_bound θ t))
  unfolding SolvesWalk
  clash_no_unifier s t w e = subst SolvesWalk w (solved s t e)

  -- Where it finds a deeper equation, none does either (the occurs check).
  pub deeper_no_unifier : (s t : Term) (es fs : List Equation) (e : Equation) → walk s t ≡ some (es ++ (e ∷ fs))
      → kind e ≡ deeper
      → ¬ (apply σ (as_bound θ s) ≡ apply σ (as_bound θ t))
  unfolding Each
  deeper_no_unifier s t es fs e w k same =
      let solves = (unifier_exact s t (es ++ (e ∷ fs)) w).0 same in
      no_solution θ σ e k (each_split es (e ∷ fs) solves).1.0
