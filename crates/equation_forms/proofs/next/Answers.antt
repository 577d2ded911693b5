-- The counts before the place sum to at most the tokens (`tokens_within`), so that the sums fit.
use borrow.Author.Rules.{rules}
use Rattle.equation_forms.proofs.Cursors.{tokens_within}
use Rattle.equation_forms.proofs.next.Goals as goal

pub overflow_add-result-2 : goal.overflow_add-result-2
overflow_add-result-2 c =
    let h = c.span.ensures in
    let room = tokens_within c.requires.0 c.requires.1 in
    let short = c.requires.0.sizes.short in
    search (rules, h, room, short)

pub returns : goal.returns
returns c = rw c.span.ensures
