-- The two passes over a text: it is measured, and then written where it fits.
use Rattle.std.specs.Prelude.{◌≡◌, List, ℕ, ◌+◌, ◌≤◌, length}
use Rattle.std.proofs.lemmas.List.Edits.{sets}
use Rattle.text.specs.declared.Pass.{Pass}
use Rattle.text.specs.declared.Pass.TheVariants.{Measure, Write}

-- Where a text is written there is room for it.
abbrev pub Room : Pass → List ℕ → ℕ → List ℕ → Type 0
Room pass out at text = pass ≡ Write → at + length text ≤ length out

-- The output after a pass: from the index on it holds the text, and where that is only measured, what it held.
unfoldable pub passed : Pass → List ℕ → ℕ → List ℕ → List ℕ
passed Measure out at text = out
passed Write out at text = sets out at text
