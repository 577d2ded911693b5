-- No shared bit; a shared one and one token; a shared one and more.
use Rattle.terms.proofs.EquationKinds.{plain_told, itself_told, deeper_told}
use Rattle.terms.proofs.kind_of.Goals as goal

pub returns-then-left-right-eq0 : goal.returns-then-left-right-eq0
returns-then-left-right-eq0 c = λ l e k. plain_told k c.if-left-right-eq0.true

pub returns-then-tokens-eq1 : goal.returns-then-tokens-eq1
returns-then-tokens-eq1 c = λ l e k. itself_told k c.if-left-right-eq0.false c.if-tokens-eq1.true

pub returns : goal.returns
returns c = λ l e k. deeper_told k c.if-left-right-eq0.false c.if-tokens-eq1.false
