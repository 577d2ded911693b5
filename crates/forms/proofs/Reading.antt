-- What a table that was read is: good, reduced, and with exactly the groups that were written. Assumes nothing.
use mathlib.Core.Path.{◌≡◌, refl, sym, ap, ◌∙◌, subst}
use mathlib.Core.Bool.{true}
use mathlib.Core.List.{List, [], ◌∷◌, map}
use mathlib.Core.Logic.Iff
use mathlib.Core.Option.{some}
use Prim.Native.Nat.{ℕ, ◌≤◌}
use native.Mathlib.Omega.{arith}
use borrow.Author.Tests.{leb-true}
use lib.Dec.{T}
use lib.ListN.{length, take, drop, length-map, length-take, length-drop}
use Rattle.model.specs.Groups.{Bits, nonzero}
use Rattle.model.specs.Growth.{Entries, limit, covered, grow_all, Reduced}
use Rattle.model.specs.Tables.{Side, positive, negative, Wide, groups}
use Rattle.model.specs.Questions.{Equal}
use Rattle.model.proofs.Given.{given_at}
use Rattle.model.proofs.Growth.{GrownBy}
use Rattle.model.proofs.Shape.{Shape}
use Rattle.model.proofs.Overflow.{never_full}
use Rattle.model.proofs.Closing.{from_empty}
use Rattle.model.proofs.Exact.{shape_good}
use Rattle.words.specs.declared.Entry.{Entry}
use Rattle.words.specs.Words.{string}
use Rattle.words.proofs.Codec.{string_length}
use Rattle.tables.specs.declared.Table.{Table}
use Rattle.tables.specs.declared.Refusal.TheVariants as R
use Rattle.tables.specs.Refusals.{Accepted}
use Rattle.tables.specs.declared.Answered.{Answered}
use Rattle.tables.specs.Refusals.{answer_number}
use Rattle.tables.specs.Lists.{strings, pairs}
use Rattle.tables.specs.Values.{table_of, entries_of, accepts, refuses, made_or_full, good_width, GoodTable}
use Rattle.tables.proofs.Values.{entries_of_table, table_of_good}
use Rattle.packing.specs.Packing.{row_length, unpacked}
use Rattle.forms.specs.declared.Extent.{Extent}
use Rattle.forms.specs.declared.Layout.{Layout}
use Rattle.forms.specs.declared.Layout.TheVariants.{Plain, Packed}
use Rattle.forms.specs.TableForms.{sized, first_size, second_size, form_length, cares, values, packed_rows}
use Rattle.forms.specs.TableForms.{written_entries, read_form, Passed}
use Rattle.codec.proofs.Rows.{rows_count}
use Rattle.forms.proofs.PackedRows.{rows_wide}
use Rattle.forms.proofs.Outcomes.{fits_room}
use Rattle.forms.proofs.Tests.{entries_in, grown_table, reads_passed}

-- ---- The entries that a form holds

strings_wide : (l : ℕ) (ws : List Entry) → Wide l (map (string l) ws)
unfolding Wide
strings_wide l [] = tt
strings_wide l (w ∷ ws) = (string_length l w, strings_wide l ws)

-- The entries that are written have l positions.
pub entries_wide : (f : Layout) (l n : ℕ) (b : List ℕ) → form_length f l n ≤ length b → Wide l (written_entries f l n b)
unfolding written_entries strings
entries_wide Plain l n b room = strings_wide l (take n (pairs (cares l n b) (values l n b)))
entries_wide Packed l n b room = rows_wide l n (drop 4 b) (omega (arith, length-drop 4 b))

-- There are no more than n.
entries_most : (f : Layout) (l n : ℕ) (b : List ℕ) → length (written_entries f l n b) ≤ n
unfolding written_entries strings
entries_most Plain l n b =
    let ws = pairs (cares l n b) (values l n b) in
    omega (arith, length-map (take n ws) (string l), length-take n ws)
entries_most Packed l n b =
    omega (arith, length-map (packed_rows l n b) (unpacked l), rows_count (row_length l) n (drop 4 b))

module _ {f : Layout} {x : Extent} {b : List ℕ} (p : Passed f x b) where
  -- a form that passes has its sizes
  pub passed_sized : 4 ≤ length b
  unfolding sized
  passed_sized = leb-true 4 (length b) p.sizes

  -- a form that passes is within the bytes
  pub passed_room : form_length f (first_size b) (second_size b) ≤ length b
  passed_room = fits_room x _ (length b) p.long

  -- growing its entries is never full
  pub entries_grow : (ρ : Entries) × (grow_all [] (entries_in f b) ≡ some ρ)
      × (grown_table f b ≡ accepts (table_of (first_size b) ρ))
  unfolding made_or_full
  entries_grow =
      let few : length (entries_in f b) ≤ limit =
      omega (arith, leb-true (second_size b) limit p.few, entries_most f (first_size b) (second_size b) b) in
      let g = never_full (entries_in f b) few in
      (g.0, g.1, rw g.1)

-- A form that reads has passed its tests.
pub read_passed : (f : Layout) (x : Extent) (b : List ℕ) → (read_form f x b).answer ≡ Accepted → Passed f x b
read_passed f x b e =
    let t = (read_form f x b).table in
    (reads_passed f x b (accepts t) refl (λ i. record { answer = e i; table = t })).0

-- ---- The table that was read

-- The list that an accepted reading has grown from the empty one, and its table.
record Grown (f : Layout) (b : List ℕ) (t : Table) : Type 0 where
  list : Entries
  width : good_width (first_size b) ≡ true
  shape : Shape Unit (first_size b) list
  by : GrownBy [] (entries_in f b) list
  is : table_of (first_size b) list ≡ t

read_grown : (f : Layout) (x : Extent) (b : List ℕ) (t : Table) → read_form f x b ≡ accepts t → Grown f b t
read_grown f x b t e =
    let p = reads_passed f x b (accepts t) refl e in
    let g = entries_grow p.0 in
    let wide = entries_wide f (first_size b) (second_size b) b (passed_room p.0) in
    let made = given_at (from_empty (first_size b) (entries_in f b) wide) g.0 g.1 in
    record {
      list = g.0;
      width = p.0.width;
      shape = made.0;
      by = made.1;
      is = ap (λ (a : Answered). a.table) (sym g.2 ∙ p.1);
    }

-- same groups where the same groups are covered
same_groups : (side : Side) (l : ℕ) (τ ρ : Entries) → ((g : Bits) → T (nonzero g) → covered τ g ≡ covered ρ g)
    → Equal (groups side l τ) (groups side l ρ)
unfolding groups
same_groups positive l τ ρ f g = (λ h. (h.0, rw (← f g h.0.1) h.1), λ h. (h.0, rw (f g h.0.1) h.1))
same_groups negative l τ ρ f g = (λ h. (h.0, rw (← f g h.0.1) h.1), λ h. (h.0, rw (f g h.0.1) h.1))

-- A table that was read is a good table value, with no entry that another subsumes and none all zero.
pub read_good : (f : Layout) (x : Extent) (b : List ℕ) (t : Table) → read_form f x b ≡ accepts t
    → GoodTable t × Reduced (entries_of t)
read_good f x b t e =
    let r = read_grown f x b t e in
    let good = shape_good r.shape in
    subst (λ (u : Table). GoodTable u × Reduced (entries_of u)) r.is (
      table_of_good (first_size b) r.list r.width good,
      rw (entries_of_table (first_size b) r.list good) (r.shape.reduced tt),
    )

-- A form is never refused as full: it has at most 256 entries.
pub read_never_full : (f : Layout) (x : Extent) (b : List ℕ) (t : Table) → ¬ (read_form f x b ≡ refuses R.Full t)
read_never_full f x b t e =
    let p = reads_passed f x b (refuses R.Full t) refl e in
    let g = entries_grow p.0 in
    let clash : ◌≡◌ {A = ℕ} 0 8 = ap (λ (a : Answered). answer_number a.answer) (sym g.2 ∙ p.1) in
    absurd (omega arith)

-- Reading neither loses nor adds a group, on either side.
pub read_groups : (f : Layout) (x : Extent) (side : Side) (b : List ℕ) (t : Table) → read_form f x b ≡ accepts t
    → Equal (groups side t.l (entries_of t)) (groups side (first_size b) (entries_in f b))
unfolding covered table_of
read_groups f x side b t e =
    let r = read_grown f x b t e in
    subst (λ (u : Table). Equal (groups side u.l (entries_of u)) (groups side (first_size b) (entries_in f b))) r.is
    (rw (entries_of_table (first_size b) r.list (shape_good r.shape))
    (same_groups side (first_size b) r.list (entries_in f b) r.by.exact))

-- Two forms that read as one table hold the same groups, on either side, whichever layout each has.
pub alike : (f h : Layout) (x y : Extent) (side : Side) (b c : List ℕ) (t : Table) → read_form f x b ≡ accepts t
    → read_form h y c ≡ accepts t
    → Equal (groups side (first_size b) (entries_in f b)) (groups side (first_size c) (entries_in h c))
alike f h x y side b c t e d g = Iff.trans (Iff.symm (read_groups f x side b t e g)) (read_groups h y side c t d g)
