-- The tests that a form passes, and what a reading answers then. Assumes nothing.
use mathlib.Core.Path.{◌≡◌, refl}
use mathlib.Core.Bool.{Bool, true, false, ◌&&◌, ◌||◌, cond}
use mathlib.Core.List.{List, []}
use Prim.Native.Nat.{ℕ}
use native.Mathlib.Omega.{arith}
use lib.Dec.{ltb, leb, eqb}
use lib.ListN.{length}
use Rattle.model.specs.Growth.{Entries, limit, grow_all}
use Rattle.tables.specs.declared.Refusal.{Refusal}
use Rattle.tables.specs.declared.Refusal.TheVariants as R
use Rattle.tables.specs.declared.Answered.{Answered}
use Rattle.tables.specs.Refusals.{answer_number}
use Rattle.tables.specs.Values.{good_width, zero_table, refuses, made_or_full}
use Rattle.forms.specs.declared.Extent.{Extent}
use Rattle.forms.specs.declared.Layout.{Layout}
use Rattle.forms.specs.declared.Layout.TheVariants.{Plain, Packed}
use Rattle.forms.specs.TableForms.{sized, first_size, second_size, form_length, fits, written_entries, all_well}
use Rattle.forms.specs.TableForms.{bad_entry, read_entries, read_sized, read_form, Passed}

-- where the other branch is not what came out, the test held
pub held : {A : Type 0} (c : Bool) (x y a : A) → cond c x y ≡ a → (y ≡ a → ⊥) → (c ≡ true) × (x ≡ a)
held true x y a e other = (refl, e)
held false x y a e other = absurd (other e)

-- The entries that a form holds.
abbrev pub entries_in : Layout → List ℕ → Entries
entries_in f b = written_entries f (first_size b) (second_size b) b

-- The table of the entries that a form holds, grown in order.
abbrev pub grown_table : Layout → List ℕ → Answered
grown_table f b = made_or_full (first_size b) zero_table (grow_all [] (entries_in f b))

-- A reading that passes its tests answers the grown table.
pub passed_reads : (f : Layout) (x : Extent) (b : List ℕ) → Passed f x b → read_form f x b ≡ grown_table f b
unfolding read_form read_sized read_entries
passed_reads f x b p = rw (p.sizes, p.width, p.few, p.long, p.clean)

-- Refused with 1 to 4, or with 12.
abbrev pub early : Answered → Bool
early a = let k = answer_number a.answer in (ltb 0 k && leb k 4) || eqb k 12

bad_early : (f : Layout) → early (refuses (bad_entry f) zero_table) ≡ true
bad_early Plain = refl
bad_early Packed = refl

-- A reading that is not refused with one of these has passed its tests.
pub reads_passed : (f : Layout) (x : Extent) (b : List ℕ) (a : Answered) → early a ≡ false → read_form f x b ≡ a
    → Passed f x b × (grown_table f b ≡ a)
unfolding read_form read_sized read_entries
reads_passed f x b a late e =
    let clash : (r : Refusal) → early (refuses r zero_table) ≡ true → refuses r zero_table ≡ a → ⊥ =
    λ r k f. absurd (let z : ◌≡◌ {A = ℕ} 0 1 = cc in omega arith) in
    let s = held (sized b) _ _ a e (clash R.Torn refl) in
    let w = held (good_width (first_size b)) _ _ a s.1 (clash R.Width refl) in
    let n = held (leb (second_size b) limit) _ _ a w.1 (clash R.Entries refl) in
    let h = held (fits x (form_length f (first_size b) (second_size b)) (length b)) _ _ a n.1 (clash R.Torn refl) in
    let c = held (all_well f (first_size b) (second_size b) b) _ _ a h.1 (clash (bad_entry f) (bad_early f)) in
    (record { sizes = s.0; width = w.0; few = n.0; long = h.0; clean = c.0 }, c.1)
