-- The longest text of a run. Assumes nothing.
use mathlib.Core.List.{List, [], ◌∷◌}
use Prim.Native.Nat.{ℕ, ◌+◌, ◌*◌, ◌≤◌}
use native.Mathlib.Omega.{arith}
use lib.ListN.{length, drop, length-append}
use Rattle.model.specs.Tables.{positive}
use Rattle.tables.specs.declared.Table.{Table}
use Rattle.tables.specs.Refusals.{Answer}
use Rattle.tables.specs.Refusals.{Accepted, Refused}
use Rattle.tables.specs.Refusals.{if_accepted}
use Rattle.tables.specs.Values.{GoodTable}
use Rattle.terms.specs.Checks.{Written}
use Rattle.operations.specs.Operations.{written_call}
use Rattle.codec.proofs.Laws.{length_words}
use Rattle.forms.specs.TableForms.{first_size, second_size}
use Rattle.equation_forms.specs.declared.Left.{Left}
use Rattle.equation_forms.specs.declared.Left.TheVariants.{Variable}
use Rattle.equation_forms.specs.EquationForms.{lefts, counts, all_tokens, span, share_out, equations_of, equations_in, GoodSizes}
use Rattle.text.specs.Lines.{vars, first_text, equation_text}
use Rattle.text.specs.RunTexts.{most_text, text_from, run_text}
use Rattle.text.proofs.Blocks.{most_block, block_most, equation_most}
use Rattle.text.proofs.RunByEquations.{good_after}

on_most : (y : Answer) (text : List ℕ) → length (if_accepted y (λ r. []) text) ≤ length text
unfolding if_accepted
on_most Accepted text = omega arith
on_most (Refused r) text = omega arith

-- each equation says at most so many bytes
from_most : (ws : List Written) (t : Table) (k : ℕ) → GoodTable t → length (text_from t k ws) ≤ most_block * length ws
unfolding text_from
from_most [] t k good = omega arith
from_most (w ∷ ws) t k good =
    let a = written_call positive t w in
    let good_a = good_after t w good in
    let after = if_accepted a.answer (λ r. []) (text_from a.table (k + 1) ws) in
    omega (
      arith,
      length-append (equation_text k a.answer a.table) after,
      equation_most k a.answer good_a,
      on_most a.answer (text_from a.table (k + 1) ws),
      from_most ws a.table (k + 1) good_a,
    )

shared_most : (f : Left) (xs cs ts : List ℕ) → length (share_out f xs cs ts) ≤ length xs
unfolding share_out
shared_most f [] cs ts = omega arith
shared_most f (x ∷ xs) [] ts = omega arith
shared_most f (x ∷ xs) (c ∷ cs) ts = omega (arith, shared_most f xs cs (drop (span f x c) ts))

-- The text of 65 tables is not longer.
pub run_most : (t : Table) (q : List ℕ) → GoodTable t → GoodSizes Variable q
    → length (run_text t (equations_in Variable q)) ≤ most_text
unfolding run_text equations_of
run_most t q good sizes =
    let e = first_size q in
    let ws = equations_in Variable q in
    omega (
      arith,
      sizes.few,
      length-append (first_text t) (text_from t 1 ws),
      block_most vars t.l good (omega arith),
      from_most ws t 1 good,
      shared_most Variable (lefts e q) (counts e q) (all_tokens e (second_size q) q),
      length_words 2 e (drop 4 q),
    )
