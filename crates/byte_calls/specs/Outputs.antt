-- What a call on byte buffers hands back (01, "Written form" and "Refusals"): 9 comes last, and a refusal leaves every byte.
use Rattle.std.specs.Prelude.{◌≡◌, true, List, ℕ, length}
use Rattle.model.specs.Growth.{Entries}
use Rattle.tables.specs.Refusals.{Answer}
use Rattle.tables.specs.Refusals.{Refused}
use Rattle.tables.specs.declared.Answered.{Answered}
use Rattle.tables.specs.Refusals.{answer_number, if_accepted}
use Rattle.tables.specs.Values.{good_width}
use Rattle.lists.specs.Comings.{Coming}
use Rattle.lists.specs.Comings as C
use Rattle.lists.specs.WorkingLists.{Holds}
use Rattle.forms.specs.declared.Layout.{Layout}
use Rattle.forms.specs.declared.Layout.TheVariants.{Plain}
use Rattle.forms.specs.TableForms.{form_of, form_answer, written}

-- The answer of a call that writes its table, plain or packed: 9 where the output is too short.
unfoldable pub output_answer_as : Layout → Answered → List ℕ → Answer
output_answer_as f a out = if_accepted a.answer Refused (form_answer f a.table (length out))

-- The number that is returned.
unfoldable pub output_number_as : Layout → Answered → List ℕ → ℕ
output_number_as f a out = answer_number (output_answer_as f a out)

-- The bytes of the output afterwards: the form, and past it what they held; all that they held where the call is refused.
unfoldable pub output_bytes_as : Layout → Answered → List ℕ → List ℕ
output_bytes_as f a out = written (output_answer_as f a out) (form_of f a.table) out

-- What came of a call can be written: a count is that of entries of 1 to 32 positions that the list holds.
abbrev pub Writable : ℕ → List ℕ → Coming → Type 0
Writable l list (C.Refused r) = Unit {0}
Writable l list C.Same = Unit {0}
Writable l list (C.Count n) = (good_width l ≡ true) × ((τ : Entries) × Holds l list n τ)

-- ---- Of the plain form, as most calls write it

-- The answer.
abbrev pub output_answer : Answered → List ℕ → Answer
output_answer a out = output_answer_as Plain a out

-- The number.
abbrev pub output_number : Answered → List ℕ → ℕ
output_number a out = output_number_as Plain a out

-- The bytes of the output.
abbrev pub output_bytes : Answered → List ℕ → List ℕ
output_bytes a out = output_bytes_as Plain a out
