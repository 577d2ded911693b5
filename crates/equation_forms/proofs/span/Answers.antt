-- Each form has one count or a sum of two; the tokens of an equation are among those of the form (`tokens_within`), so that
-- the sum fits.
use borrow.Author.Rules.{rules}
use Rattle.equation_forms.proofs.Cursors.{tokens_within}
use Rattle.equation_forms.proofs.span.Goals as goal

pub overflow_add-result : goal.overflow_add-result
overflow_add-result c =
    let room = rw c.in-Term.is at (tokens_within c.requires.0 c.requires.1) in
    let short = c.requires.0.sizes.short in
    let x = c.left_number.ensures in
    let n = c.count-in-Term.ensures in
    search (rules, room, short, x, n)

pub returns-in-Variable : goal.returns-in-Variable
returns-in-Variable c = rw c.in-Variable.is c.count.ensures

pub returns-in-Term : goal.returns-in-Term
returns-in-Term c =
    rw (c.in-Term.is, c.left_number.ensures, c.count-in-Term.ensures)
