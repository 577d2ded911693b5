-- To close with c is to grow by the row of its ors and then by a row of c alone (`close_on`, `close_full`).
use mathlib.Core.Path.{sym, ◌∙◌}
use mathlib.Core.Option.{none-ne-some}
use native.Mathlib.Omega.{arith}
use Rattle.lists.specs.WorkingLists.{stops}
use Rattle.lists.proofs.Holding.{makes_count, makes_full, within_count}
use Rattle.candidates.proofs.RowEnds.{holds_one}
use Rattle.candidates.proofs.ProceduresAsFolds.{close_on, close_full}
use Rattle.candidates.proofs.closing.close_one.Goals as goal

pub grow_row-requires-2 : goal.grow_row-requires-2
grow_row-requires-2 g c =
    (within_count c.grow_row.ensures.within c.in_ok-m.was, omega (arith, c.requires.1), omega arith)

pub returns : goal.returns
returns g c =
    let words = c.pair_row-k.new.row in
    let first = c.grow_row.ensures in
    let second = c.grow_row-2.ensures in record {
      within = second.within;
      made = λ τ s h e is f.
          let row = c.pair_row-k.ensures.made _ τ s h e is in
          let t = makes_count (first.made τ _ h row f) c.in_ok-m.was in
          rw (close_on τ s t.0 t.1)
          (second.made t.0 _ t.2 (holds_one words row.room h.short s e is)
          (first.kept τ _ t.0 h row f t.1));
      kept = λ τ s h e is κ f q.
          let row = c.pair_row-k.ensures.made _ τ s h e is in
          let t = makes_count (first.made τ _ h row f) c.in_ok-m.was in
          second.kept t.0 _ κ t.2 (holds_one words row.room h.short s e is)
          (first.kept τ _ t.0 h row f t.1) (sym (close_on τ s t.0 t.1) ∙ q);
    }

pub returns-in_err-m : goal.returns-in_err-m
returns-in_err-m g c =
    let first = c.grow_row.ensures.made in
    let is_full = c.in_err-m.was in rw c.from_residual.ensures (record {
      within = tt;
      made = λ τ s h e is f.
          let made = first τ _ h (c.pair_row-k.ensures.made _ τ s h e is) f in
          rw (close_full τ s (makes_full made is_full)) stops;
      kept = λ τ s h e is κ f q.
          let made = first τ _ h (c.pair_row-k.ensures.made _ τ s h e is) f in
          absurd (none-ne-some κ (sym (close_full τ s (makes_full made is_full)) ∙ q));
    })
