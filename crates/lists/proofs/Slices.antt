-- A part of an array, as a loop goes over it: what stands at an index, and a scan of it. Assumes nothing.
use mathlib.Core.Path.{◌≡◌, ap, ◌∙◌}
use mathlib.Core.Bool.{Bool}
use mathlib.Core.List.{List, []}
use Prim.Native.Nat.{ℕ, ◌+◌, ◌-◌, ◌≤◌, ◌<◌}
use native.Mathlib.Omega.{arith}
use lib.ListN.{length, get_or, take, drop, length-drop}
use lib.Seq.{length-take-le}
use Rattle.std.specs.List.{slice_range}
use Rattle.std.proofs.lemmas.List.{get_or-take, get_or-drop, length-take}
use Rattle.model.specs.Growth.{Entries}
use Rattle.words.specs.Words.{word}
use Rattle.tables.proofs.Scans.{Scan, scan_turn, scan_end}
use Rattle.tables.proofs.Arrays.{wide_at}
use Rattle.lists.specs.WorkingLists.{Holds, WordsOf}

-- ---- A scan of the part from index j up to e

-- What was found of the first i elements, with the test of the others, is the test of all.
pub record PartScan {from : ℕ → ℕ → (ℕ → Bool) → Bool} {op : Bool → Bool → Bool} (S : Scan from op) (q : ℕ → Bool)
    (list : List ℕ) (j e : ℕ) (so_far : Bool) (i : ℕ) : Type 0 where
  pub all : from j (e - j) (λ m. q (get_or list m 0)) ≡ op so_far (from (j + i) (e - (j + i)) (λ m. q (get_or list m 0)))

module _ {from : ℕ → ℕ → (ℕ → Bool) → Bool} {op : Bool → Bool → Bool} {S : Scan from op} {q : ℕ → Bool} {list : List ℕ}
    {j e : ℕ} {so_far : Bool} {i : ℕ} (w : PartScan S q list j e so_far i) where
  -- one element more
  pub part_turn : i < length (slice_range list j e) → {hit : Bool} → hit ≡ q (get_or (slice_range list j e) i 0)
      → PartScan S q list j e (op so_far hit) (i + 1)
  part_turn lt {hit = hit} is =
      let here : i < e - j = omega (arith, length-take (e - j) (drop j list)) in
      let same = get_or-take (e - j) (drop j list) i 0 here ∙ get_or-drop j list i 0 in
      let next : j + (i + 1) ≡ j + i + 1 = omega arith in
      record { all = rw next (scan_turn S _ _ so_far (j + i) e w.all (omega arith) hit (is ∙ ap q same)) }

  -- all elements
  pub part_end : e ≤ length list → length (slice_range list j e) ≤ i → so_far ≡ from j (e - j) (λ m. q (get_or list m 0))
  part_end le done =
      let long = length-take-le (e - j) (drop j list) (omega (arith, length-drop j list)) in
      scan_end S _ _ so_far (j + i) e w.all (omega (arith, long))

-- ---- The first n strings of a list that an array holds

module _ {l : ℕ} {list : List ℕ} {n : ℕ} {τ : Entries} (h : Holds l list n τ) where
  -- as many words
  pub cut_length : length (take n list) ≡ n
  cut_length = length-take-le n list (omega (arith, h.room, h.count, h.good.few))

  -- those of the strings
  pub cut_here : (i : ℕ) → i < length (take n list) → get_or (take n list) i 0 ≡ word (get_or τ i [])
  cut_here i lt =
      let here : i < n = omega (arith, cut_length) in
      get_or-take n list i 0 here ∙ h.here i here

  -- the slice of them has the list's words
  pub words_held : WordsOf l (take n list) τ
  words_held = record { here = cut_here; count = cut_length ∙ h.count; good = h.good; short = h.short }

-- each string of a list whose words a slice has has l positions
pub words_length : {l : ℕ} {list : List ℕ} {τ : Entries} → WordsOf l list τ → (i : ℕ) → i < length list
    → length (get_or τ i []) ≡ l
words_length {l = l} {τ = τ} w i lt = wide_at l τ i w.good.wide (omega (arith, w.count))
