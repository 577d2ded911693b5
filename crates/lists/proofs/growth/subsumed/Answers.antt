use mathlib.Core.Path.{◌≡◌, refl, sym, ◌∙◌}
use mathlib.Core.Bool.{Bool}
use mathlib.Core.List.{List}
use Prim.Native.Nat.{ℕ, ◌+◌, ◌*◌}
use native.Mathlib.Omega.{arith}
use lib.ListN.{length, get_or}
use Rattle.model.specs.Growth.{subsumed}
use Rattle.words.specs.Words.{subsumes_word}
use Rattle.tables.specs.Lists.{some_from}
use Rattle.tables.proofs.Scans.{some_scan, scan_start, block_found, block_none, block_last}
use Rattle.lists.specs.WorkingLists.{OfWords}
use Rattle.lists.proofs.WordTests.{words_subsumed}
use Rattle.lists.proofs.growth.subsumed.Goals as goal

-- what is answered of the words is so of the strings
of_strings : {list : List ℕ} {y : ℕ} {r : Bool} → r ≡ some_from 0 (length list) (λ m. subsumes_word (get_or list m 0) y)
    → (l : ℕ) → OfWords l list y (λ τ s. r ≡ subsumed τ s)
of_strings e = λ l τ s h long is. e ∙ words_subsumed h s long is

pub returns-then-n-lt8 : goal.returns-then-n-lt8
returns-then-n-lt8 c =
    let e = c.some_subsumes.ensures ∙ sym (scan_start some_scan _ _) in record { words = e; strings = of_strings e }

pub loop-b-init : goal.loop-b-init
unfolding some_from
loop-b-init c = refl

pub returns-then-some_subsumes : goal.returns-then-some_subsumes
returns-then-some_subsumes c =
    let lp = c.loop-b in
    let some = sym c.some_subsumes-in-loop-b.ensures ∙ c.if-some_subsumes.true in
    let e = sym (block_found _ (8 * lp.b) _ _ (omega arith) (omega arith) some) in
    record { words = e; strings = of_strings e }

pub loop-b-preserved : goal.loop-b-preserved
loop-b-preserved c =
    let lp = c.loop-b in
    let next : 8 * (lp.b + 1) ≡ 8 * lp.b + 8 = omega arith in
    rw next
    (block_none _ (8 * lp.b) _ (omega arith) lp.invariant (sym c.some_subsumes-in-loop-b.ensures ∙ c.if-some_subsumes.false))

pub returns : goal.returns
returns c =
    let lp = c.loop-b in
    let e = c.some_subsumes-2.ensures ∙ block_last _ _ (8 * lp.b) _ (omega arith) (omega arith) lp.invariant in
    record { words = e; strings = of_strings e }
