-- The numbers by which a form can be refused. Assumes nothing.
use mathlib.Core.Path.{sym, subst}
use mathlib.Core.List.{List}
use Prim.Native.Nat.{ℕ}
use lib.Dec.{T, leb}
use lib.ListN.{length}
use Rattle.model.specs.Growth.{limit}
use Rattle.tables.specs.declared.Refusal.TheVariants as R
use Rattle.tables.specs.declared.Answered.{Answered}
use Rattle.tables.specs.Refusals.{member, one_of, Numbered}
use Rattle.tables.specs.Values.{good_width}
use Rattle.tables.proofs.Numbers.{refused_numbered, accepted_numbered, answered_numbered}
use Rattle.forms.specs.declared.Extent.{Extent}
use Rattle.forms.specs.declared.Layout.{Layout}
use Rattle.forms.specs.declared.Layout.TheVariants.{Plain, Packed}
use Rattle.forms.specs.TableForms.{sized, first_size, second_size, form_length, fits, all_well, bad_entry, form_numbers}
use Rattle.forms.specs.TableForms.{read_entries, read_sized, read_form}
use Rattle.forms.proofs.Reading.{entries_grow}

bad_numbered : (f : Layout) → T (one_of (form_numbers f) (bad_entry f))
unfolding one_of member
bad_numbered Plain = tt
bad_numbered Packed = tt

-- Reading a table refuses by no other.
pub read_numbers : (f : Layout) (x : Extent) (b : List ℕ) → Numbered (form_numbers f) (read_form f x b).answer
unfolding read_form read_sized read_entries one_of member
read_numbers f x b =
    let ns : List ℕ = form_numbers f in
    let l = first_size b in
    let n = second_size b in
    answered_numbered ns (sized b) _ _
    (λ s. answered_numbered ns (good_width l) _ _
    (λ w. answered_numbered ns (leb n limit) _ _
    (λ m. answered_numbered ns (fits x (form_length f l n) (length b)) _ _
    (λ h. answered_numbered ns (all_well f l n b) _ _
    (λ c.
    let g = entries_grow {f = f} {x = x} {b = b} (record { sizes = s; width = w; few = m; long = h; clean = c }) in
    subst (λ (a : Answered). Numbered ns a.answer) (sym g.2) (accepted_numbered ns))
    (refused_numbered ns (bad_entry f) (bad_numbered f)))
    (refused_numbered ns R.Torn tt))
    (refused_numbered ns R.Entries tt))
    (refused_numbered ns R.Width tt))
    (refused_numbered ns R.Torn tt)
