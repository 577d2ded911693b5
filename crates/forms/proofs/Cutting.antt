-- Forms that are cut short or followed by more bytes. Assumes nothing.
use mathlib.Core.Path.{◌≡◌, refl, sym, ap, ◌∙◌}
use mathlib.Core.Bool.{Bool, true, false, cond}
use mathlib.Core.List.{List, ◌∷◌, ◌++◌}
use Prim.Native.Nat.{ℕ, ◌+◌, ◌*◌, ◌≤◌, ◌<◌}
use native.Mathlib.Omega.{arith}
use borrow.Author.Tests.{leb-true, eqb-true, lt-leb, le-leb, ne_eqb}
use lib.ListN.{length, take, drop, length-append, length-take, take-append-drop}
use Rattle.tables.specs.declared.Table.{Table}
use Rattle.tables.specs.declared.Refusal.TheVariants as R
use Rattle.tables.specs.Values.{zero_table, accepts, refuses}
use Rattle.forms.specs.declared.Extent.{Extent}
use Rattle.forms.specs.declared.Extent.TheVariants.{Whole, Front}
use Rattle.forms.specs.declared.Layout.{Layout}
use Rattle.forms.specs.declared.Layout.TheVariants.{Plain, Packed}
use Rattle.forms.specs.TableForms.{sized, first_size, second_size, word_length, form_length, fits}
use Rattle.forms.specs.TableForms.{written_entries, all_well, read_entries, read_sized, read_form}
use Rattle.forms.specs.TableForms.{Passed}
use Rattle.packing.specs.Packing.{row_length}
use Rattle.codec.proofs.Rows.{rows_within}
use Rattle.codec.proofs.Laws.{word_within, words_within}
use Rattle.forms.proofs.Tests.{grown_table, reads_passed}

-- ---- The sizes at the front

-- the sizes are the same
abbrev pub Sizes : List ℕ → List ℕ → Type 0
Sizes c b = (first_size c ≡ first_size b) × (second_size c ≡ second_size b)

pub longer_sizes : (b c : List ℕ) → sized b ≡ true → Sizes (b ++ c) b
unfolding sized
longer_sizes b c s =
    let h = leb-true 4 (length b) s in
    (word_within 2 b c 0 (omega arith), word_within 2 b c 2 (omega arith))

pub cut_sizes : (b : List ℕ) (k : ℕ) → sized (take k b) ≡ true → Sizes (take k b) b
cut_sizes b k s =
    let same = longer_sizes (take k b) (drop k b) s in
    let whole = take-append-drop k b in
    (sym same.0 ∙ ap first_size whole, sym same.1 ∙ ap second_size whole)

-- no sizes, or sizes by which it is torn
pub torn_by : {A : Type 0} (s : Bool) (a torn : A) → (s ≡ true → a ≡ torn) → cond s a torn ≡ torn
torn_by true a torn f = f refl
torn_by false a torn f = refl

-- ---- Tables

-- what an accepted whole form has passed
whole_passed : (f : Layout) (b : List ℕ) (t : Table) → read_form f Whole b ≡ accepts t
    → Passed f Whole b × (grown_table f b ≡ accepts t) × (form_length f (first_size b) (second_size b) ≡ length b)
unfolding fits
whole_passed f b t e =
    let p = reads_passed f Whole b (accepts t) refl e in
    (p.0, p.1, eqb-true (form_length f (first_size b) (second_size b)) (length b) p.0.long)

-- the sizes of b, and a length that does not fit them
torn : {f : Layout} {y : Extent} {b : List ℕ} → Passed f y b → (x : Extent) (c : List ℕ) → (sized c ≡ true → Sizes c b)
    → fits x (form_length f (first_size b) (second_size b)) (length c) ≡ false
    → read_form f x c ≡ refuses R.Torn zero_table
unfolding read_form read_sized
torn p x c same bad = torn_by (sized c) _ _ (λ s. rw ((same s).0, (same s).1, p.width, p.few, bad))

too_short : (x : Extent) (length room : ℕ) → room < length → fits x length room ≡ false
unfolding fits
too_short Whole length room h = ne_eqb length room (λ e. omega arith)
too_short Front length room h = lt-leb length room h

-- A table cut short anywhere is torn, whether more bytes may follow or not.
pub table_cut : (f : Layout) (x : Extent) (b : List ℕ) (t : Table) (k : ℕ) → read_form f Whole b ≡ accepts t → k < length b
    → read_form f x (take k b) ≡ refuses R.Torn zero_table
table_cut f x b t k e h =
    let p = whole_passed f b t e in
    torn p.0 x (take k b) (cut_sizes b k) (too_short x _ _ (omega (arith, p.2, length-take k b)))

-- A table with bytes after it is torn, where it is to be all the bytes.
pub table_longer : (f : Layout) (b : List ℕ) (t : Table) → read_form f Whole b ≡ accepts t → (y : ℕ) (c : List ℕ)
    → read_form f Whole (b ++ (y ∷ c)) ≡ refuses R.Torn zero_table
unfolding fits
table_longer f b t e y c =
    let p = whole_passed f b t e in
    torn p.0 Whole (b ++ (y ∷ c)) (λ s. longer_sizes b (y ∷ c) p.0.sizes)
    (ne_eqb (form_length f (first_size b) (second_size b)) (length (b ++ (y ∷ c)))
    (λ q. omega (arith, p.2, length-append b (y ∷ c))))

-- bytes that follow a form are not looked at
followed : (f : Layout) (l n : ℕ) (b c : List ℕ) → form_length f l n ≤ length b
    → (written_entries f l n (b ++ c) ≡ written_entries f l n b) × (all_well f l n (b ++ c) ≡ all_well f l n b)
unfolding written_entries all_well
followed Plain l n b c room =
    let k : ℕ = word_length l in
    let cs = words_within 4 k n b c (omega arith) in
    let vs = words_within (4 + k * n) k n b c (omega arith) in
    (rw (cs, vs), rw (cs, vs))
followed Packed l n b c room = let rs = rows_within 4 (row_length l) n b c room in (rw rs, rw rs)

-- A table with bytes after it is read as the table alone, where more may follow.
pub table_followed : (f : Layout) (b : List ℕ) (t : Table) → read_form f Whole b ≡ accepts t → (c : List ℕ)
    → read_form f Front (b ++ c) ≡ accepts t
unfolding read_form read_sized read_entries sized fits
table_followed f b t e c =
    let p = whole_passed f b t e in
    let l = first_size b in
    let n = second_size b in
    let same = longer_sizes b c p.0.sizes in
    let here = followed f l n b c (omega (arith, p.2)) in
    let long : 4 ≤ length (b ++ c) = omega (arith, leb-true 4 (length b) p.0.sizes, length-append b c) in
    rw (
      le-leb 4 (length (b ++ c)) long,
      same.0,
      same.1,
      p.0.width,
      p.0.few,
      le-leb (form_length f l n) (length (b ++ c)) (omega (arith, p.2, length-append b c)),
      here.0,
      here.1,
      p.0.clean,
    )
    p.1
