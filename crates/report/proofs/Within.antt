-- The text that was written lies within the output. Assumes nothing.
use mathlib.Core.Path.{◌≡◌, refl, sym, ap, ◌∙◌}
use mathlib.Core.Bool.{Bool, true, false, cond}
use mathlib.Core.List.{List, ◌++◌}
use Prim.Native.Nat.{ℕ, ◌≤◌}
use native.Mathlib.Omega.{arith}
use borrow.Author.Tests.{leb-true}
use lib.ListN.{length, take, drop, length-append, length-drop}
use lib.Seq.{length-take-le}
use Rattle.running.specs.declared.Running.{Running}
use Rattle.text.specs.declared.Reported.{Reported}
use Rattle.report.specs.Reports.{narrowed, fits_in, reported, fitted}

reported_within : (s : Running) (text out : List ℕ) → (reported s text out).size ≤ length out
unfolding reported
reported_within s text out = go (fits_in text out) refl
  where
    go : (b : Bool) → fits_in text out ≡ b
        → (cond {A = Reported} b (record { state = s; size = length text }) (record { state = narrowed s; size = 0 })
        ).size
        ≤ length out
    go true e = leb-true (length text) (length out) e
    go false e = omega arith

-- the bytes of an output are as many as before
fitted_length : (text out : List ℕ) → length (fitted text out) ≡ length out
unfolding fitted
fitted_length text out = go (fits_in text out) refl
  where
    go : (b : Bool) → fits_in text out ≡ b → length (cond b (text ++ drop (length text) out) out) ≡ length out
    go true e =
        let fits = leb-true (length text) (length out) e in
        length-append text (drop (length text) out) ∙ omega (arith, fits, length-drop (length text) out)
    go false e = refl

-- what a report answers counts bytes at the start of the output
pub report_within : (s : Running) (text out : List ℕ) {r : Reported} {out' : List ℕ} → r ≡ reported s text out
    → out' ≡ fitted text out → (r.size ≤ length out') × (r.size ≡ length (take r.size out'))
report_within s text out {r} {out'} e f =
    let fits : r.size ≤ length out' =
    omega (arith, ap (λ (x : Reported). x.size) e, reported_within s text out, ap length f, fitted_length text out) in
    (fits, sym (length-take-le r.size out' fits))
