-- One return for each check, in the definition's order; the last is `check_term`.
use mathlib.Core.Bool.{true, false}
use mathlib.Core.Path.{◌≡◌, ◌∙◌}
use borrow.Author.Tests.{le-leb, lt-leb}
use Rattle.model.specs.Tokens.{named}
use Rattle.terms.specs.Checks.{check_equation, checked}
use Rattle.terms.proofs.check_equation.Goals as goal

pub returns-then-ts-gt-TOKENS : goal.returns-then-ts-gt-TOKENS
unfolding check_equation checked
returns-then-ts-gt-TOKENS c = rw (lt-leb _ 1024 c.if-ts-gt-TOKENS.true)

pub returns-then-not-x-l : goal.returns-then-not-x-l
unfolding check_equation checked
returns-then-not-x-l c =
    let a = c.args in
    let n : named a.l a.x ≡ false = c.if-not-x-l.true in
    rw (le-leb _ 1024 c.if-ts-gt-TOKENS.false, n)

pub returns : goal.returns
unfolding check_equation
returns c =
    let a = c.args in
    let n : named a.l a.x ≡ true = c.if-not-x-l.false in
    c.check_term.ensures ∙ rw (le-leb _ 1024 c.if-ts-gt-TOKENS.false, n)
