-- Each layout is one sum; a word has at most four bytes and a packed row seven, so that nothing wraps.
use Prim.Native.Nat.{◌*◌, ◌≤◌}
use Rattle.forms.proofs.WordLengths.{words_most}
use Rattle.forms.proofs.PackedRows.{rows_most}
use borrow.Author.Rules.{rules}
use Rattle.forms.proofs.form_length.Goals as goal
use Rattle.forms.proofs.form_length.Goals.{After-row_length, After-word_length}

-- no more than 256 words of four bytes
most_words : (c : After-word_length) → c.word_length.result * c.args.n ≤ 1024
most_words c =
    words_most _ c.word_length.ensures c.requires.1

-- no more than 256 rows of seven bytes
most : (c : After-row_length) → c.row_length.result * c.args.n ≤ 1792
most c =
    rows_most c.requires.0 c.requires.1 c.row_length.ensures

pub overflow_mul-result : goal.overflow_mul-result
overflow_mul-result c = let m = most_words (goal.at.overflow_mul-result c).After-word_length in search (rules, m)

pub overflow_mul-result-in-Plain : goal.overflow_mul-result-in-Plain
overflow_mul-result-in-Plain c =
    let m = most_words (goal.at.overflow_mul-result-in-Plain c).After-word_length in search (rules, m)

pub overflow_add-result : goal.overflow_add-result
overflow_add-result c = let m = most_words (goal.at.overflow_add-result c).After-word_length in search (rules, m)

pub overflow_mul-result-in-Packed : goal.overflow_mul-result-in-Packed
overflow_mul-result-in-Packed c =
    let m = most (goal.at.overflow_mul-result-in-Packed c).After-row_length in search (rules, m)

pub overflow_add-result-in-Packed : goal.overflow_add-result-in-Packed
overflow_add-result-in-Packed c =
    let m = most (goal.at.overflow_add-result-in-Packed c).After-row_length in search (rules, m)

pub returns-in-Plain : goal.returns-in-Plain
returns-in-Plain c = rw (c.in-Plain.is, c.word_length.ensures)

pub returns-in-Packed : goal.returns-in-Packed
returns-in-Packed c = rw (c.in-Packed.is, c.row_length.ensures)
