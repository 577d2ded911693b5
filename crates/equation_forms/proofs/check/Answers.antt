-- Each test that fails gives its refusal; where all are passed the sizes are good, and the equations are checked one by one.
use mathlib.Core.Path.{sym, ◌∙◌}
use native.Mathlib.Omega.{arith}
use borrow.Author.Tests.{leb-true}
use Rattle.tables.proofs.Tests.{both_true}
use Rattle.equation_forms.specs.EquationForms.{GoodSizes}
use Rattle.equation_forms.proofs.Outcomes.{equations_unsized, equations_long, equations_torn, equations_sum}
use Rattle.equation_forms.proofs.Outcomes.{sizes_good, equations_each}
use Rattle.equation_forms.proofs.check.Goals as goal
use Rattle.equation_forms.proofs.check.Goals.{Else-counted-m}

-- where the counts sum up too, the sizes are good
good : (c : Else-counted-m) → GoodSizes c.args.f c.args.b.now
good c =
    let a = c.args in
    sizes_good a.f a.l a.b.now _ _ c.number_at-e.ensures
    c.number_at-m.ensures c.if-b-lt4.false (c.if-not-e-m.false)
    c.if-b-e.false (sym c.counted.ensures ∙ c.if-counted-m.false)

pub returns-then-b-lt4 : goal.returns-then-b-lt4
returns-then-b-lt4 c =
    let a = c.args in
    equations_unsized a.f a.l a.b.now c.if-b-lt4.true

pub returns-then-not-e-m : goal.returns-then-not-e-m
returns-then-not-e-m c =
    let a = c.args in
    equations_long a.f a.l a.b.now _ _ c.number_at-e.ensures
    c.number_at-m.ensures c.if-b-lt4.false (c.if-not-e-m.true)

pub returns-then-b-e : goal.returns-then-b-e
returns-then-b-e c =
    let a = c.args in
    equations_torn a.f a.l a.b.now _ _ c.number_at-e.ensures
    c.number_at-m.ensures c.if-b-lt4.false (c.if-not-e-m.false) c.if-b-e.true

pub counted-requires : goal.counted-requires
counted-requires c =
    let few = both_true _ _ (c.if-not-e-m.false) in (leb-true _ 64 few.0, omega (arith, c.if-b-e.false))

pub returns-then-counted-m : goal.returns-then-counted-m
returns-then-counted-m c =
    let a = c.args in
    equations_sum a.f a.l a.b.now _ _ c.number_at-e.ensures
    c.number_at-m.ensures c.if-b-lt4.false (c.if-not-e-m.false)
    c.if-b-e.false (λ q. c.if-counted-m.true (c.counted.ensures ∙ q))

pub check_each-requires : goal.check_each-requires
check_each-requires c = (c.requires, good (goal.at.check_each-requires c).Else-counted-m)

pub returns : goal.returns
returns c = c.check_each.ensures ∙ equations_each _ (good (goal.at.returns c).Else-counted-m)
