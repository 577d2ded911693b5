-- Each test that fails gives its refusal; where all are passed the entries are read.
use mathlib.Core.Path.{◌≡◌, sym, ap, ◌∙◌}
use mathlib.Core.Bool.{true}
use Prim.Native.Nat.{ℕ}
use native.Mathlib.Omega.{arith}
use lib.ListN.{length}
use Rattle.tables.specs.Values.{good_width}
use Rattle.tables.proofs.Checking.{width_most}
use Rattle.forms.specs.TableForms.{form_length, fits}
use Rattle.forms.proofs.Outcomes.{read_unsized, read_width, read_many, read_torn, read_all, fits_room}
use Rattle.forms.proofs.Listing.{refused_reads, same_reads}
use Rattle.forms.proofs.read_list.Goals as goal
use Rattle.forms.proofs.read_list.Goals.{After-fits, Else-not-good_width}

-- the width is good, where it was not refused
wide : (c : Else-not-good_width) → good_width c.number_at-l.result ≡ true
wide c = sym c.good_width.ensures ∙ c.if-not-good_width.false

-- where the length is tried, the test as the definition has it
fitting : (c : After-fits) → let a = c.args in
    fits a.extent (form_length a.layout c.number_at-l.result c.number_at-n.result) (length a.b.now) ≡ c.fits.result
fitting c =
    let a = c.args in
    ap (λ (k : ℕ). fits a.extent k (length a.b.now)) (sym c.form_length.ensures) ∙ sym c.fits.ensures

pub returns-then-b-lt4 : goal.returns-then-b-lt4
returns-then-b-lt4 c =
    let a = c.args in
    refused_reads (read_unsized a.layout a.extent a.b.now c.if-b-lt4.true)

pub returns-then-not-good_width : goal.returns-then-not-good_width
returns-then-not-good_width c =
    let a = c.args in
    refused_reads (read_width a.layout a.extent a.b.now _ _ c.number_at-l.ensures
    c.number_at-n.ensures c.if-b-lt4.false
    (sym c.good_width.ensures ∙ c.if-not-good_width.true))

pub returns-then-n-gt-ENTRIES : goal.returns-then-n-gt-ENTRIES
returns-then-n-gt-ENTRIES c =
    let a = c.args in
    refused_reads (read_many a.layout a.extent a.b.now _ _ c.number_at-l.ensures
    c.number_at-n.ensures c.if-b-lt4.false
    (wide (goal.at.returns-then-n-gt-ENTRIES c).Else-not-good_width) c.if-n-gt-ENTRIES.true)

pub form_length-requires : goal.form_length-requires
form_length-requires c =
    let w = wide (goal.at.form_length-requires c).Else-not-good_width in
    (omega (arith, width_most _ w), c.if-n-gt-ENTRIES.false)

pub returns-then-not-fits : goal.returns-then-not-fits
returns-then-not-fits c =
    let a = c.args in
    refused_reads (read_torn a.layout a.extent a.b.now _ _ c.number_at-l.ensures
    c.number_at-n.ensures c.if-b-lt4.false (wide (goal.at.returns-then-not-fits c).Else-not-good_width)
    c.if-n-gt-ENTRIES.false
    (fitting (goal.at.returns-then-not-fits c).After-fits ∙ c.if-not-fits.true))

pub read_listed-requires : goal.read_listed-requires
read_listed-requires c =
    let a = c.args in (
      wide (goal.at.read_listed-requires c).Else-not-good_width,
      c.if-n-gt-ENTRIES.false,
      fits_room a.extent _ (length a.b.now) (fitting (goal.at.read_listed-requires c).After-fits ∙ c.if-not-fits.false),
    )

pub returns : goal.returns
returns c =
    let a = c.args in
    same_reads (read_all a.layout a.extent a.b.now _ _ c.number_at-l.ensures
    c.number_at-n.ensures c.if-b-lt4.false (wide (goal.at.returns c).Else-not-good_width) c.if-n-gt-ENTRIES.false
    (fitting (goal.at.returns c).After-fits ∙ c.if-not-fits.false)) c.read_listed.ensures
