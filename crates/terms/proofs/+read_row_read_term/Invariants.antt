-- By recursion: a head's row has a token less and at most 15 terms, so that 17 times the tokens pays for both functions.
use Rattle.std.proofs.Common.{◌+◌, ◌*◌, length}
use Rattle.terms.proofs.+read_row_read_term.Given as goal

-- a head's row has at most 15 terms, of one token less
abbrev pub decreases-read_row : goal.decreases-read_row
decreases-read_row l = 17 * length l.ts.now + l.count + 1

abbrev pub decreases-read_term : goal.decreases-read_term
decreases-read_term l = 17 * length l.ts.now
