-- The two-buffer call (01, "Written form"): a part of one of two buffers.
use Rattle.std.specs.Prelude.{cond, List, ℕ, ltb, eqb, take}
use Rattle.std.specs.Borrow.{Bor}
use Rattle.tables.specs.Refusals.{if_accepted}
use Rattle.forms.specs.declared.Extent.TheVariants.{Front}
use Rattle.forms.specs.TableForms.{second_size, front_length, read_table}

-- A part of a buffer: where it stands, and its bytes.
pub record Part : Type 0 where
  pub place : ℕ × ℕ
  pub bytes : List ℕ

-- The part that a reference to a slice lends.
abbrev pub lent : Bor (List ℕ) → Part
lent r = record { place = r.ref_ptr; bytes = r.now }

-- The first k bytes of a part.
abbrev pub front : ℕ → Part → Part
front k p = record { place = p.place; bytes = take k p.bytes }

-- The form that a part begins with, tail cut: its length goes by the sizes written.
abbrev pub form : Part → Part
form p = front (front_length p.bytes) p

-- The form with fewer entries by the n written; equal ones give the positive. Where either does not read or their l differ, an
-- empty part; the papers leave free where an empty part stands, and it is the place of the positive buffer.
unfoldable pub smaller_part : Part → Part → Part
smaller_part p q =
    let a = read_table Front p.bytes in
    let b = read_table Front q.bytes in
    if_accepted a.answer (λ r. front 0 p) (if_accepted b.answer (λ r. front 0 p)
    (cond (eqb a.table.l b.table.l)
    (cond (ltb (second_size q.bytes) (second_size p.bytes)) (form q) (form p))
    (front 0 p)))
