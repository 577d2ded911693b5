-- The names first; then by what the reader answers and whether it used all tokens (`term_checked`).
use Rattle.std.proofs.Common.{sym, ap, ◌∙◌, eq-eqb, ne_eqb}
use Rattle.terms.specs.Checks.{check_term, checked}
use Rattle.terms.specs.Checks.{Variables}
use Rattle.terms.proofs.Checking.{term_checked}
use Rattle.terms.proofs.check_term.Goals as goal

pub returns-then-not-all_named : goal.returns-then-not-all_named
unfolding check_term checked
returns-then-not-all_named c = rw (sym c.all_named.ensures ∙ c.if-not-all_named.true)

pub returns-in-Some : goal.returns-in-Some
returns-in-Some c =
    ap Variables c.variables.ensures
    ∙ rw (eq-eqb _ _ c.if-n-ts.true) at
    (term_checked _ _ _ (sym c.all_named.ensures ∙ c.if-not-all_named.false) (sym c.in-Some.ensures))

pub returns-in_default : goal.returns-in_default
returns-in_default c =
    rw (ne_eqb _ _ c.if-n-ts.false) at
    (term_checked _ _ _ (sym c.all_named.ensures ∙ c.if-not-all_named.false) (sym c.in-Some.ensures))

pub returns-in_default-2 : goal.returns-in_default-2
returns-in_default-2 c =
    term_checked _ _ _ (sym c.all_named.ensures ∙ c.if-not-all_named.false) (sym c.in_default.ensures)
