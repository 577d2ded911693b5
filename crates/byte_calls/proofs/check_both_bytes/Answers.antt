-- The three tests come in the order of the definition.
use borrow.Author.Tests.{le-leb, lt-leb, eq-eqb, ne_eqb}
use Rattle.terms.specs.Checks.{most_tokens}
use Rattle.byte_calls.specs.ByteCalls.{check_both_bytes}
use Rattle.byte_calls.proofs.check_both_bytes.Goals as goal

pub returns-then-left-right-gt-TOKENS : goal.returns-then-left-right-gt-TOKENS
unfolding check_both_bytes
returns-then-left-right-gt-TOKENS c = rw (lt-leb _ most_tokens c.if-left-right-gt-TOKENS.true)

pub returns-then-left-ne0 : goal.returns-then-left-ne0
unfolding check_both_bytes
returns-then-left-ne0 c = rw (le-leb _ most_tokens c.if-left-right-gt-TOKENS.false, ne_eqb _ 0 c.if-left-ne0.true)

pub returns-then-right-ne0 : goal.returns-then-right-ne0
unfolding check_both_bytes
returns-then-right-ne0 c =
    rw (le-leb _ most_tokens c.if-left-right-gt-TOKENS.false, eq-eqb _ 0 c.if-left-ne0.false, ne_eqb _ 0 c.if-right-ne0.true)

pub returns : goal.returns
unfolding check_both_bytes
returns c =
    rw (le-leb _ most_tokens c.if-left-right-gt-TOKENS.false, eq-eqb _ 0 c.if-left-ne0.false, eq-eqb _ 0 c.if-right-ne0.false)
