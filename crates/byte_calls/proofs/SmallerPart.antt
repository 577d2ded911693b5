-- The two-buffer call: one law for each way that it ends. Assumes nothing.
use mathlib.Core.Path.{◌≡◌, sym, ap, ap₂, ◌∙◌}
use mathlib.Core.Bool.{cond}
use mathlib.Core.List.{List}
use Prim.Native.Nat.{ℕ, ◌≤◌, ◌<◌}
use borrow.Author.Tests.{eq-eqb, ne_eqb, lt-ltb, le-ltb}
use lib.Dec.{ltb, eqb}
use lib.ListN.{length}
use Rattle.tables.specs.declared.Refusal.{Refusal}
use Rattle.tables.specs.Refusals.{Accepted, Refused}
use Rattle.tables.specs.declared.Answered.{Answered}
use Rattle.tables.specs.Refusals.{if_accepted}
use Rattle.forms.specs.declared.Layout.TheVariants.{Plain}
use Rattle.forms.specs.declared.Extent.TheVariants.{Front}
use Rattle.forms.specs.TableForms.{second_size, read_table}
use Rattle.forms.proofs.Reading.{read_passed, passed_sized}
use Rattle.byte_calls.specs.BufferParts.{Part, front, form, smaller_part}

-- a form that reads at the front of a buffer
pub front_reads : (b : List ℕ) {a : Answered} → a ≡ read_table Front b → a.answer ≡ Accepted
    → (read_table Front b).answer ≡ Accepted
front_reads b read e = ap (λ (a : Answered). a.answer) (sym read) ∙ e

-- its sizes are there
pub front_sized : (b : List ℕ) → (read_table Front b).answer ≡ Accepted → 4 ≤ length b
front_sized b e = passed_sized (read_passed Plain Front b e)

module _ (p q : Part) {a b : Answered} (ea : a ≡ read_table Front p.bytes) (eb : b ≡ read_table Front q.bytes) where
  -- the part, from what was read
  as_read : if_accepted a.answer (λ r. front 0 p) (if_accepted b.answer (λ r. front 0 p)
      (cond (eqb a.table.l b.table.l)
      (cond (ltb (second_size q.bytes) (second_size p.bytes)) (form q) (form p)) (front 0 p)))
      ≡ smaller_part p q
  unfolding smaller_part
  as_read =
      ap₂ {C = Part} (λ (x y : Answered). if_accepted x.answer (λ r. front 0 p) (if_accepted y.answer (λ r. front 0 p)
      (cond (eqb x.table.l y.table.l)
      (cond (ltb (second_size q.bytes) (second_size p.bytes)) (form q) (form p)) (front 0 p)))) ea eb

  pub first_unread : {r : Refusal} → a.answer ≡ Refused r → front 0 p ≡ smaller_part p q
  unfolding if_accepted
  first_unread e = let g = as_read in rw e at g

  module _ (good : a.answer ≡ Accepted) where
    pub second_unread : {r : Refusal} → b.answer ≡ Refused r → front 0 p ≡ smaller_part p q
    unfolding if_accepted
    second_unread e = let g = as_read in rw (good, e) at g

    module _ (too : b.answer ≡ Accepted) where
      pub unlike : ¬ (a.table.l ≡ b.table.l) → front 0 p ≡ smaller_part p q
      unfolding if_accepted
      unlike f = let g = as_read in rw (good, too, ne_eqb a.table.l b.table.l f) at g

      module _ (same : a.table.l ≡ b.table.l) {m n : ℕ} (em : m ≡ second_size p.bytes)
          (en : n ≡ second_size q.bytes) where
        -- the form with fewer entries, by the counts written
        pub by_count : (n < m → form q ≡ smaller_part p q) × (m ≤ n → form p ≡ smaller_part p q)
        unfolding if_accepted
        by_count =
            let g = rw (good, too, eq-eqb a.table.l b.table.l same) at as_read in
            let counts : ltb (second_size q.bytes) (second_size p.bytes) ≡ ltb n m = rw (em, en) in
            (λ lt. rw (counts ∙ lt-ltb n m lt) at g, λ le. rw (counts ∙ le-ltb n m le) at g)
