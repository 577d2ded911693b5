-- The two tests come in the order of the definition.
use borrow.Author.Tests.{le-leb, lt-leb, eq-eqb, ne_eqb}
use Rattle.terms.specs.Checks.{most_tokens}
use Rattle.byte_calls.specs.ByteCalls.{check_bytes}
use Rattle.byte_calls.proofs.check_bytes.Goals as goal

pub returns-then-term-gt-TOKENS : goal.returns-then-term-gt-TOKENS
unfolding check_bytes
returns-then-term-gt-TOKENS c = rw (lt-leb _ most_tokens c.if-term-gt-TOKENS.true)

pub returns-then-term-ne0 : goal.returns-then-term-ne0
unfolding check_bytes
returns-then-term-ne0 c = rw (le-leb _ most_tokens c.if-term-gt-TOKENS.false, ne_eqb _ 0 c.if-term-ne0.true)

pub returns : goal.returns
unfolding check_bytes
returns c = rw (le-leb _ most_tokens c.if-term-gt-TOKENS.false, eq-eqb _ 0 c.if-term-ne0.false)
