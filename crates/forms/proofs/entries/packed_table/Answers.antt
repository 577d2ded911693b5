-- Where every row is good the row of words holds the entries that are written, and they are grown; else 12.
use mathlib.Core.Path.{sym, ◌∙◌}
use mathlib.Core.List.{[]}
use borrow.Author.Rules.{rules}
use Rattle.lists.proofs.Holding.{holds_empty}
use Rattle.forms.specs.TableForms.{read_entries}
use Rattle.forms.proofs.entries.packed_table.Goals as goal

pub returns-then-not-read_rows : goal.returns-then-not-read_rows
unfolding read_entries
returns-then-not-read_rows c = rw (c.refused.ensures, sym c.read_rows.ensures.clean ∙ c.if-not-read_rows.true)

pub made_or_full-requires : goal.made_or_full-requires
made_or_full-requires c = c.grow_each-g.ensures.within

pub returns : goal.returns
unfolding read_entries
returns c =
    let good = c.if-not-read_rows.false in
    let empty = holds_empty c.args.l _ (search rules) c.requires.0 in
    let made = c.grow_each-g.ensures.made [] _ empty (c.read_rows.ensures.made good) in
    rw (c.made_or_full.ensures _ made, c.zero.ensures, sym c.read_rows.ensures.clean ∙ good)
