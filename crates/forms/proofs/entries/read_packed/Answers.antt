-- Where every row is good the row of words holds the entries that are written, and they are grown; else 12.
use mathlib.Core.Path.{sym, ◌∙◌}
use mathlib.Core.List.{[]}
use Prim.Native.Nat.{◌≤◌}
use native.Mathlib.Omega.{arith}
use Rattle.tables.proofs.Checking.{width_most}
use Rattle.lists.proofs.Holding.{holds_empty}
use Rattle.forms.specs.declared.Layout.TheVariants.{Packed}
use Rattle.forms.proofs.Listing.{entries_bad, entries_good}
use borrow.Author.Rules.{rules}
use Rattle.forms.proofs.entries.read_packed.Goals as goal

pub read_rows-requires : goal.read_rows-requires
read_rows-requires c =
    let p = c.requires in (omega (arith, width_most _ p.0), p.1, p.2)

pub returns-then-not-read_rows : goal.returns-then-not-read_rows
returns-then-not-read_rows c =
    let a = c.args in
    entries_bad Packed a.l a.n a.b.now (sym c.read_rows.ensures.clean ∙ c.if-not-read_rows.true)

pub grow_each-g-requires : goal.grow_each-g-requires
grow_each-g-requires c =
    let p = c.requires in
    (omega arith, omega (arith, width_most _ p.0), omega arith)

pub returns : goal.returns
returns c =
    let a = c.args in
    let short : a.l ≤ 32 = omega (arith, width_most _ c.requires.0) in
    let good = c.if-not-read_rows.false in
    let empty = holds_empty a.l _ (search rules) short in
    let made = c.grow_each-g.ensures.made [] _ empty (c.read_rows.ensures.made good) in
    entries_good Packed a.l a.n a.b.now (sym c.read_rows.ensures.clean ∙ good)
    (c.listed.ensures _ _ c.requires.0 made)
