-- Of the entry's text the bytes before position i stand (`Stands`); a turn writes the character of one position, and the newline
-- is the last byte.
use Rattle.words.specs.Words.{string}
use Rattle.text.specs.Text.{entry_text}
use Rattle.text.proofs.Printing.{Stands}
use Rattle.text.proofs.lines.write_entry.Given as goal

abbrev pub invariant-loop-i : goal.invariant-loop-i
invariant-loop-i l =
    Stands (entry_text (string l.l (record { care = l.care; value = l.value }))) l.at l.initial.out l.out l.i
