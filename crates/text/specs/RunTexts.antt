-- The text of a run whose input passed its checks (01, "The program `sharerun`").
use Rattle.std.specs.Prelude.{List, [], ◌∷◌, ◌++◌, ℕ, ◌+◌}
use Rattle.model.specs.Tables.{positive}
use Rattle.tables.specs.declared.Table.{Table}
use Rattle.tables.specs.Refusals.{if_accepted}
use Rattle.terms.specs.Checks.{Written}
use Rattle.operations.specs.Operations.{written_call}
use Rattle.text.specs.Lines.{first_text, equation_text}

-- What is said of the equations from the one numbered k on, from table t: the first that is refused ends it.
unfoldable pub text_from : Table → ℕ → List Written → List ℕ
text_from t k [] = []
text_from t k (w ∷ ws) =
    let a = written_call positive t w in
    equation_text k a.answer a.table ++ if_accepted a.answer (λ r. []) (text_from a.table (k + 1) ws)

-- The text of a run whose input passed its checks.
unfoldable pub run_text : Table → List Written → List ℕ
run_text t ws = first_text t ++ text_from t 1 ws

-- No text of a run has more bytes: at most 65 tables of 256 lines of 33 bytes, each under a line of at most 25.
abbrev pub most_text : ℕ
most_text = 552500
