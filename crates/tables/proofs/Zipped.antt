-- A test of two arrays of words, read in step: what a turn of its loop adds, and that it is whole at the end. Assumes nothing.
use mathlib.Core.Path.{◌≡◌, ap, ap₂, ◌∙◌}
use mathlib.Core.Bool.{Bool, true, ◌&&◌}
use mathlib.Core.List.{List, [], ◌∷◌, ◌++◌}
use Prim.Native.Nat.{ℕ, ◌+◌, ◌-◌, ◌≤◌, ◌<◌}
use native.Mathlib.Nat.{add-zero}
use native.Mathlib.Omega.{arith}
use denote.Ref.{Bor}
use lib.ListN.{length, take, drop, length-append, length-drop}
use Rattle.std.proofs.Common.{Iter, Option, Some, None}
use Rattle.std.proofs.iter.Yields.{fronts}
use Rattle.std.proofs.lemmas.Iterator.{zips}
use Rattle.std.proofs.lemmas.List.{get_or-drop, get_or-take, length-take}
use Rattle.std.proofs.lemmas.Slice.Zip.{zip_turn, zip_end}
use Rattle.std.specs.Iterator.{Yields}
use Rattle.std.specs.Iterator.Adapters.{zip_first, zip_second}
use Rattle.std.specs.Slice.Iter.{iter_rest}
use Rattle.std.specs.declared.iter.Zip.{Zip}
use Rattle.words.specs.declared.Entry.{Entry}
use Rattle.tables.specs.Values.{entry_at, all_from}
use Rattle.tables.proofs.Scans.{all_scan, scan_turn, scan_end}

-- what was found in the words that were read, and the test of the others of the k from `start` on
abbrev pub found_and_left : (Entry → Bool) → List ℕ → List ℕ → ℕ → ℕ → Bool → ℕ → Bool
found_and_left q care value start k found read =
    found && all_from (start + read) (k - read) (λ m. q (entry_at care value m))

module _ (q : Entry → Bool) (care value : List ℕ) (start k : ℕ) where
  pub left_init : all_from start k (λ m. q (entry_at care value m)) ≡ found_and_left q care value start k true 0
  left_init = let z : k ≡ k - 0 = omega arith in rw (add-zero start, ← z)

  module _ (xs : List (Bor ℕ × Bor ℕ)) (s t u : Zip (Iter ℕ) (Iter ℕ)) {r : Option (Bor ℕ × Bor ℕ)} {whole : Bool} (found : Bool)
      (h : whole ≡ found_and_left q care value start k found (length xs))
      (cares : iter_rest (zip_first s) ≡ take k (drop start care))
      (values : iter_rest (zip_second s) ≡ take k (drop start value))
      (y : Yields (zips fronts fronts) s xs t) (z : zips fronts fronts t r u) where
    pub left_turn : (x : Bor ℕ × Bor ℕ) → r ≡ Some x → (hit : Bool) → hit ≡ q (record { care = x.0.now; value = x.1.now })
        → whole ≡ found_and_left q care value start k (found && hit) (length (xs ++ (x ∷ [])))
    left_turn x is hit e =
        let j = length xs in
        let at = zip_turn (take k (drop start care)) (take k (drop start value)) xs s t u r cares values y x is z in
        let lt : j < k = omega (arith, at.0, length-take k (drop start care)) in
        let word = λ (ws : List ℕ). get_or-take k (drop start ws) j 0 lt ∙ get_or-drop start ws j 0 in
        let now : record { care = x.0.now; value = x.1.now } ≡ entry_at care value (start + j) =
        ap₂ {C = Entry} (λ (c v : ℕ). record { care = c; value = v }) (at.2 0 ∙ word care) (at.3 0 ∙ word value) in
        let n : start + (j + 1) ≡ start + j + 1 = omega arith in
        let m : k - (j + 1) ≡ (start + k) - (start + j + 1) = omega arith in
        let o : k - j ≡ (start + k) - (start + j) = omega arith in
        rw (length-append xs, m, n)
        (scan_turn all_scan (λ m. q (entry_at care value m)) whole found (start + j) (start + k) (rw o at h) (omega arith) hit
        (e ∙ ap q now))

    pub left_end : start + k ≤ length care → start + k ≤ length value → r ≡ None → found ≡ whole
    left_end c v is =
        let j = length xs in
        let end = zip_end (take k (drop start care)) (take k (drop start value)) xs s t u r cares values y is z in
        let o : k - j ≡ (start + k) - (start + j) = omega arith in
        scan_end all_scan (λ m. q (entry_at care value m)) whole found (start + j) (start + k) (rw o at h)
        (omega (
          arith,
          end,
          length-take k (drop start care),
          length-take k (drop start value),
          length-drop start care,
          length-drop start value,
        ))
