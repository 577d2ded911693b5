-- The three cases of `fresh`: `fresh_zero`, `fresh_subsumed`, `fresh_new`.
use mathlib.Core.Path.{sym, ◌∙◌}
use native.Mathlib.Omega.{arith}
use Rattle.lists.specs.WorkingLists.{makes}
use Rattle.lists.proofs.Slices.{words_held}
use Rattle.sides.proofs.PieceLoop.{fresh_zero, fresh_subsumed, fresh_new}
use Rattle.sides.proofs.append_fresh.Goals as goal

pub returns-then-is_zero : goal.returns-then-is_zero
returns-then-is_zero c =
    record {
      within = omega arith;
      made = λ τ κ s h k e z. rw (fresh_zero κ τ s (sym (c.is_zero.ensures.strings s e z) ∙ c.if-is_zero.true)) (makes h);
    }

pub returns-then-subsumed : goal.returns-then-subsumed
returns-then-subsumed c =
    record {
      within = omega arith;
      made = λ τ κ s h k e z.
          let zero = sym (c.is_zero.ensures.strings s e z) ∙ c.if-is_zero.false in
          rw (fresh_subsumed κ τ s zero (sym (c.subsumed.ensures.strings _ κ s (words_held k) e z) ∙ c.if-subsumed.true)) (makes h);
    }

pub returns : goal.returns
returns c =
    record {
      within = c.append.ensures.within;
      made = λ τ κ s h k e z.
          let zero = sym (c.is_zero.ensures.strings s e z) ∙ c.if-is_zero.false in
          let new = sym (c.subsumed.ensures.strings _ κ s (words_held k) e z) ∙ c.if-subsumed.false in
          rw (fresh_new κ τ s zero new) (c.append.ensures.made _ τ s h e z);
    }
