-- Where every entry is clean they are grown; else 4.
use mathlib.Core.Path.{sym, ◌∙◌}
use Rattle.forms.specs.TableForms.{read_entries}
use Rattle.forms.proofs.Listing.{made_within}
use Rattle.forms.proofs.entries.plain_table.Goals as goal

pub returns-then-not-clean : goal.returns-then-not-clean
unfolding read_entries
returns-then-not-clean c = rw (c.refused.ensures, sym c.clean.ensures ∙ c.if-not-clean.true)

pub grow_plain-g-requires : goal.grow_plain-g-requires
grow_plain-g-requires c =
    let p = c.requires in (p.0, p.1, p.2, sym c.clean.ensures ∙ c.if-not-clean.false)

pub made_or_full-requires : goal.made_or_full-requires
made_or_full-requires c = made_within c.grow_plain-g.ensures

pub returns : goal.returns
unfolding read_entries
returns c =
    rw (c.made_or_full.ensures _ c.grow_plain-g.ensures, c.zero.ensures, sym c.clean.ensures ∙ c.if-not-clean.false)
