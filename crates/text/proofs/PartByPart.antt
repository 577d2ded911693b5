-- A text written part after part, in either pass: where the rest of it is written, all of it is. Assumes nothing.
use mathlib.Core.Path.{◌≡◌, refl, sym, ap, ◌∙◌}
use mathlib.Core.List.{List, [], ◌++◌}
use Prim.Native.Nat.{ℕ, ◌+◌}
use native.Mathlib.Omega.{arith}
use lib.ListN.{length, length-append}
use lib.Seq.{sets, length-sets}
use Rattle.codec.proofs.Rows.{sets_append}
use Rattle.text.specs.declared.Pass.{Pass}
use Rattle.text.specs.declared.Pass.TheVariants.{Measure, Write}
use Rattle.text.specs.Passes.{Room, passed}

-- Of the whole text, written from index at of out₀ on, the rest is left to be written from end on.
pub record SoFar (pass : Pass) (out₀ : List ℕ) (at : ℕ) (whole out : List ℕ) (end : ℕ) (rest : List ℕ) : Type 0 where
  pub long : end + length rest ≡ at + length whole
  pub same : passed pass out end rest ≡ passed pass out₀ at whole
  pub room : Room pass out end rest
  pub kept : length out ≡ length out₀

passed_append : (pass : Pass) (out xs ys : List ℕ) (at : ℕ)
    → passed pass (passed pass out at xs) (at + length xs) ys ≡ passed pass out at (xs ++ ys)
unfolding passed
passed_append Measure out xs ys at = refl
passed_append Write out xs ys at = sym (sets_append xs ys out at)

length_passed : (pass : Pass) (out xs : List ℕ) (at : ℕ) → length (passed pass out at xs) ≡ length out
unfolding passed
length_passed Measure out xs at = refl
length_passed Write out xs at = length-sets out at xs

passed_none : (pass : Pass) (out : List ℕ) (at : ℕ) → passed pass out at [] ≡ out
unfolding passed
passed_none Measure out at = refl
passed_none Write out at = refl

-- Before the first part all of it is left.
pub so_far_start : (pass : Pass) (out : List ℕ) (at : ℕ) (whole : List ℕ) → Room pass out at whole
    → SoFar pass out at whole out at whole
so_far_start pass out at whole room = record { long = refl; same = refl; room = room; kept = refl }

module _ {pass : Pass} {out₀ : List ℕ} {at : ℕ} {whole out : List ℕ} {end : ℕ} (xs ys : List ℕ)
    (w : SoFar pass out₀ at whole out end (xs ++ ys)) where
  -- There is room for the next part.
  pub so_far_room : Room pass out end xs
  so_far_room p = omega (arith, w.room p, length-append xs ys)

  -- Once it is written the rest is left.
  pub so_far_step : {out' : List ℕ} {end' : ℕ} → out' ≡ passed pass out end xs → end' ≡ end + length xs
      → SoFar pass out₀ at whole out' end' ys
  so_far_step {out'} {end'} e f =
      let kept : length out' ≡ length out = ap length e ∙ length_passed pass out xs end in record {
        long = omega (arith, w.long, length-append xs ys, f);
        same = rw (e, f) (passed_append pass out xs ys end ∙ w.same);
        room = λ p. omega (arith, w.room p, length-append xs ys, f, kept);
        kept = kept ∙ w.kept;
      }

-- Where none is left all of it is written.
pub so_far_end : {pass : Pass} {out₀ : List ℕ} {at : ℕ} {whole out : List ℕ} {end : ℕ}
    → SoFar pass out₀ at whole out end [] → (end ≡ at + length whole) × (out ≡ passed pass out₀ at whole)
so_far_end {pass} {out = out} {end} w = (omega (arith, w.long), sym (passed_none pass out end) ∙ w.same)

-- A text that is only measured.
pub as_measured : {pass : Pass} → pass ≡ Measure → (out text : List ℕ) (at : ℕ) → out ≡ passed pass out at text
unfolding passed
as_measured e out text at = rw e

-- A text that is written.
pub as_written : {pass : Pass} → pass ≡ Write → (out text : List ℕ) (at : ℕ) → sets out at text ≡ passed pass out at text
unfolding passed
as_written e out text at = rw e
