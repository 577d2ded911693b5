-- An all-zero string is absorbed; any other goes by a survey: one that entries guard is absorbed, one that none touches stays,
-- and else it is widened.
use mathlib.Core.Path.{◌≡◌, sym, ap, ◌∙◌, subst}
use mathlib.Core.Bool.{false}
use borrow.Author.Tests.{eqb-true}
use lib.ListN.{length}
use Rattle.model.specs.Strings.{Trits, all_zero}
use Rattle.words.specs.Words.{word}
use Rattle.lists.specs.Widening.{Surveyed}
use Rattle.lists.proofs.Growing.{fresh_absorbed, fresh_new, zero_absorbed, guarded_idle, untouched_new}
use Rattle.lists.proofs.Guards.{untouched_stays}
use Rattle.lists.proofs.widening.fresh.Goals as goal
use Rattle.lists.proofs.widening.fresh.Goals.{After-survey}

-- a string that was found not to be all zero
nonzero : (c : After-survey) (s : Trits)
    → (let a = c.args in length s ≡ a.l → a.y ≡ word s → all_zero s ≡ false)
nonzero c s e y = sym (c.is_zero.ensures.strings s e y) ∙ c.if-is_zero.false

pub returns-then-is_zero : goal.returns-then-is_zero
returns-then-is_zero c =
    λ τ s h e y.
    let zero = sym (c.is_zero.ensures.strings s e y) ∙ c.if-is_zero.true in
    let is = eqb-true _ _ (sym c.is_zero.ensures.words ∙ c.if-is_zero.true) in
    (h, is ∙ sym (fresh_absorbed _ τ s (zero_absorbed τ s zero)))

pub returns-in-Absorbed : goal.returns-in-Absorbed
returns-in-Absorbed c =
    λ τ s h e y.
    let g = subst (Surveyed τ s) c.in-Absorbed.is (c.survey.ensures _ τ s h e y) in
    let n = nonzero (goal.at.returns-in-Absorbed c).After-survey s e y in
    (h, c.zero.ensures.words ∙ sym (fresh_absorbed _ τ s (guarded_idle τ s n g)))

pub returns-in-Stays : goal.returns-in-Stays
returns-in-Stays c =
    λ τ s h e y.
    let u = subst (Surveyed τ s) c.in-Stays.is (c.survey.ensures _ τ s h e y) in
    let n = nonzero (goal.at.returns-in-Stays c).After-survey s e y in
    (h, y ∙ ap word (sym (untouched_stays τ s u)) ∙ sym (fresh_new _ τ s (untouched_new τ s n u)))

pub returns-in-Open : goal.returns-in-Open
returns-in-Open c =
    λ τ s h e y.
    let ready = c.prepare-k.ensures.made _ τ s h e y in
    (ready.held, c.widened.ensures τ s ready y (nonzero (goal.at.returns-in-Open c).After-survey s e y))
