-- The packed rows of a form, as entries and as they are written. Assumes nothing.
use mathlib.Core.Path.{◌≡◌, refl, sym, ap, ap₂, ◌∙◌}
use mathlib.Core.Bool.{true}
use mathlib.Core.List.{List, [], ◌∷◌, ◌++◌, map}
use Prim.Native.Nat.{ℕ, zero, suc, ◌+◌, ◌*◌, ◌≤◌, ◌<◌}
use native.Mathlib.Nat.{mul-suc, mul-le-mul}
use native.Mathlib.Omega.{arith}
use lib.ListN.{length, get_or, take, drop, length-map, length-drop}
use lib.Seq.{length-take-le, sets}
use Rattle.model.specs.Growth.{Entries}
use Rattle.model.specs.Tables.{Wide}
use Rattle.codec.specs.Numbers.{rows}
use Rattle.codec.proofs.Rows.{Long, joined_length, joined_turn, rows_back}
use Rattle.packing.specs.Packing.{row_length, packed, unpacked, good_row}
use Rattle.packing.proofs.Back.{packed_length, unpacked_length, packed_good, packed_back}
use Rattle.forms.specs.TableForms.{all_good, rows_of}

-- up to 256 rows of up to 32 positions have at most seven bytes each
pub rows_most : {l n k : ℕ} → l ≤ 32 → n ≤ 256 → k ≡ row_length l → k * n ≤ 1792
unfolding row_length
rows_most {l} {n} {k} short few e = let most : k ≤ 7 = omega (arith, e) in mul-le-mul most few

-- ---- As entries

-- rows that stand within the bytes are entries of l positions
pub rows_wide : (l n : ℕ) (b : List ℕ) → row_length l * n ≤ length b → Wide l (map (unpacked l) (rows (row_length l) n b))
unfolding rows Wide
rows_wide l zero b h = tt
rows_wide l (suc n) b h =
    let k : ℕ = row_length l in
    let room : k ≤ length b = omega (arith, mul-suc k n) in (
      unpacked_length l (take k b) (length-take-le k b room),
      rows_wide l n (drop k b) (omega (arith, mul-suc k n, length-drop k b)),
    )

-- ---- As they are written

-- the rows of entries of l positions have so many bytes each
packed_long : (l : ℕ) (τ : Entries) → Wide l τ → Long (row_length l) (map packed τ)
unfolding Wide Long
packed_long l [] wide = tt
packed_long l (s ∷ τ) wide = (packed_length s ∙ ap row_length wide.0, packed_long l τ wide.1)

-- and so many in all
pub rows_length : (l : ℕ) (τ : Entries) → Wide l τ → length (rows_of τ) ≡ row_length l * length τ
rows_length l τ wide =
    joined_length (row_length l) (map packed τ) (packed_long l τ wide) ∙ ap (λ (n : ℕ). row_length l * n) (length-map τ packed)

-- a turn of the writer
pub rows_turn : (l : ℕ) (τ : Entries) (out₀ out : List ℕ) (i : ℕ) → Wide l τ → i < length τ
    → out ≡ sets out₀ 4 (rows_of (take i τ))
    → sets out (4 + row_length l * i) (packed (get_or τ i [])) ≡ sets out₀ 4 (rows_of (take (i + 1) τ))
rows_turn l τ out₀ out i wide lt q = joined_turn (row_length l) packed τ [] out₀ out 4 i (packed_long l τ wide) lt q

-- what was written is read as rows
pub packed_rows_read : (l : ℕ) (τ : Entries) (c : List ℕ) → Wide l τ
    → rows (row_length l) (length τ) (rows_of τ ++ c) ≡ map packed τ
packed_rows_read l τ c wide =
    ap (λ (n : ℕ). rows (row_length l) n (rows_of τ ++ c)) (sym (length-map τ packed))
    ∙ rows_back (row_length l) (map packed τ) c (packed_long l τ wide)

-- they are good
pub packed_rows_good : (l : ℕ) (τ : Entries) → Wide l τ → all_good l (map packed τ) ≡ true
unfolding all_good Wide
packed_rows_good l [] wide = refl
packed_rows_good l (s ∷ τ) wide =
    let here : good_row l (packed s) ≡ true = rw (← wide.0) (packed_good s) in
    rw here (packed_rows_good l τ wide.1)

-- and stand for the entries
pub packed_rows_back : (l : ℕ) (τ : Entries) → Wide l τ → map (unpacked l) (map packed τ) ≡ τ
unfolding Wide
packed_rows_back l [] wide = refl
packed_rows_back l (s ∷ τ) wide =
    let here : unpacked l (packed s) ≡ s = rw (← wide.0) (packed_back s) in
    ap₂ {C = Entries} (λ t r. t ∷ r) here (packed_rows_back l τ wide.1)
