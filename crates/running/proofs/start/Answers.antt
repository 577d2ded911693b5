-- By what was read into the list: `reads_refused`, `reads_list`.
use mathlib.Core.Path.{◌≡◌, sym, ap, ◌∙◌}
use mathlib.Core.List.{List}
use Prim.Native.Nat.{ℕ}
use Rattle.tables.specs.declared.Answered.{Answered}
use Rattle.tables.specs.Refusals.{answer_number}
use Rattle.tables.specs.Values.{accepts}
use Rattle.forms.specs.declared.Extent.TheVariants.{Whole}
use Rattle.forms.specs.TableForms.{read_table}
use Rattle.forms.proofs.Listing.{ReadAs, reads_refused, reads_list, read_few}
use Rattle.running.specs.States.{state, started}
use Rattle.running.proofs.start.Goals as goal
use Rattle.running.proofs.start.Goals.{In-Ok}

-- the list that was read
listing : (c : In-Ok) → ReadAs c.read_list.new.list c.in-Ok.field-0.l c.in-Ok.field-0.n (read_table Whole c.args.b.now)
listing c = reads_list c.read_list.ensures c.in-Ok.is

-- the state of an answer that is the reading's
started_as : (side : ℕ) (b : List ℕ) {a : Answered} → a ≡ read_table Whole b
    → state (answer_number a.answer) side 0 a.table ≡ started side b
unfolding started
started_as side b e = ap (λ (x : Answered). state (answer_number x.answer) side 0 x.table) e

pub table-requires : goal.table-requires
table-requires c = read_few (listing (goal.at.table-requires c).In-Ok)

pub returns-in-Err : goal.returns-in-Err
returns-in-Err c =
    let a = c.args in
    rw (c.from.ensures, c.zero.ensures)
    (started_as a.side a.b.now (reads_refused c.read_list.ensures c.in-Err.is))

pub returns-in-Ok : goal.returns-in-Ok
returns-in-Ok c =
    let a = c.args in
    let m = listing (goal.at.returns-in-Ok c).In-Ok in
    started_as a.side a.b.now (ap accepts (c.table.ensures m.entries m.held) ∙ sym m.is)
