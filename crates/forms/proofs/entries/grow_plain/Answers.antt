use mathlib.Core.Path.{refl, ap, ◌∙◌}
use mathlib.Core.List.{[]}
use native.Mathlib.Omega.{arith}
use lib.ListN.{get_or}
use Rattle.model.specs.Growth.{grow, grow_all}
use Rattle.words.specs.Words.{word_of}
use Rattle.tables.proofs.Arrays.{wide_at}
use Rattle.lists.specs.WorkingLists.{Makes}
use Rattle.lists.proofs.Holding.{holds_empty, within_count}
use Rattle.lists.proofs.SoFar.{so_far_start, so_far_step, so_far_stop, so_far_end}
use Rattle.forms.specs.declared.Layout.TheVariants.{Plain}
use Rattle.forms.specs.TableForms.{written_entries}
use Rattle.forms.proofs.Reading.{entries_wide}
use Rattle.forms.proofs.Decoding.{entry_word, plain_count}
use borrow.Author.Rules.{rules}
use Rattle.forms.proofs.entries.grow_plain.Goals as goal
use Rattle.forms.proofs.entries.grow_plain.Goals.{After-grow}

-- what was made of it
made : (c : After-grow) → let a = c.args in
    let w = c.loop-i.invariant.1 in
    Makes a.l c.grow.new.list c.grow.result
    (grow w.now (get_or (written_entries Plain a.l a.n a.b.now) c.loop-i.i []))
made c =
    let a = c.args in
    let p = c.requires in
    let i = c.loop-i.i in
    let lt = c.loop-i-test.true in
    let is = c.from-y.ensures.0 ∙ ap word_of c.entry_at.ensures
    ∙ entry_word a.l a.n a.b.now i lt p.3 in
    c.grow.ensures.made _ _ c.loop-i.invariant.1.held
    (wide_at a.l _ i (entries_wide Plain a.l a.n a.b.now p.2)
    (omega (arith, plain_count a.l a.n a.b.now))) is

pub loop-i-init : goal.loop-i-init
unfolding grow_all
loop-i-init c = (
  omega arith,
  so_far_start (holds_empty _ _ (search rules) c.requires.0) refl tt,
)

pub returns-in_err-k : goal.returns-in_err-k
returns-in_err-k c =
    let lp = c.loop-i in
    let a = c.args in
    rw c.from_residual.ensures (so_far_stop lp.invariant.1 [] (omega (arith, plain_count a.l a.n a.b.now))
    (made (goal.at.returns-in_err-k c).After-grow) c.in_err-k.was)

pub loop-i-preserved : goal.loop-i-preserved
loop-i-preserved c =
    let lp = c.loop-i in
    let a = c.args in
    let is = c.in_ok-k.was in (
      within_count c.grow.ensures.within is,
      so_far_step lp.invariant.1 [] (omega (arith, plain_count a.l a.n a.b.now))
          (made (goal.at.loop-i-preserved c).After-grow) is (λ κ g. tt),
    )

pub returns : goal.returns
returns c =
    let a = c.args in
    so_far_end c.loop-i.invariant.1 (omega (arith, plain_count a.l a.n a.b.now))
