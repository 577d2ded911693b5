-- A text that fits is written, at once where no text is longer; else it is only measured, and nothing is written.
use mathlib.Core.Path.{◌≡◌, ap, ◌∙◌}
use Prim.Native.Nat.{ℕ, ◌≤◌}
use native.Mathlib.Omega.{arith}
use lib.ListN.{length}
use Rattle.equation_forms.specs.declared.Left.TheVariants.{Variable}
use Rattle.equation_forms.specs.EquationForms.{equations_in}
use Rattle.running.specs.States.{run_from}
use Rattle.text.specs.declared.Reported.{Reported}
use Rattle.text.specs.RunTexts.{run_text}
use Rattle.text.proofs.LongestText.{run_most}
use Rattle.report.proofs.Fitting.{reported_fits}
use Rattle.report.proofs.Inputs.{at_once, kept_measured, both_fit, both_narrow}
use Rattle.report.proofs.write_fitting.Goals as goal

pub write_run-requires : goal.write_run-requires
write_run-requires c =
    let p = c.requires in
    let most = run_most c.args.t c.args.q.now p.1 p.0 in
    (p.0, p.1, λ w. omega (arith, c.if-out-ge-TEXT.true, most))

pub returns-then-out-ge-TEXT : goal.returns-then-out-ge-TEXT
returns-then-out-ge-TEXT c =
    let a = c.args in
    let ws = equations_in Variable a.q.now in
    let most = run_most a.t a.q.now c.requires.1 c.requires.0 in
    let fits : length (run_text a.t ws) ≤ length a.out.now = omega (arith, c.if-out-ge-TEXT.true, most) in record {
      answer = c.write_run.ensures.0 ∙ reported_fits (run_from 0 a.t 0 ws) (run_text a.t ws) a.out.now fits;
      bytes = at_once (run_text a.t ws) a.out.now fits c.write_run.ensures.1;
    }

pub write_run-measured-requires : goal.write_run-measured-requires
write_run-measured-requires c =
    let p = c.requires in
    (p.0, p.1, λ w. absurd (let z : ◌≡◌ {A = ℕ} 0 1 = cc in omega arith))

pub write_run-requires-then-size-out : goal.write_run-requires-then-size-out
write_run-requires-then-size-out c =
    let p = c.requires in
    let long = ap (λ (r : Reported). r.size) c.write_run-measured.ensures.0 in
    (p.0, p.1, λ w. omega (arith, c.if-size-out.true, long))

pub returns-then-size-out : goal.returns-then-size-out
returns-then-size-out c =
    let a = c.args in
    let ws = equations_in Variable a.q.now in
    let long = ap (λ (r : Reported). r.size) c.write_run-measured.ensures.0 in
    let both = both_fit (run_from 0 a.t 0 ws) (run_text a.t ws) a.out.now c.write_run-measured.ensures.1
    (omega (arith, c.if-size-out.true, long)) c.write_run-then-size-out.ensures.1 in
    record {
      answer = c.write_run-then-size-out.ensures.0 ∙ both.0;
      bytes = both.1;
    }

pub shape_of-out : goal.shape_of-out
shape_of-out c =
    let a = c.args in
    let ws = equations_in Variable a.q.now in
    ap length
    (kept_measured (run_from 0 a.t 0 ws) (run_text a.t ws) a.out.now c.write_run-measured.ensures.1)

pub returns : goal.returns
returns c =
    let a = c.args in
    let ws = equations_in Variable a.q.now in
    let long = ap (λ (r : Reported). r.size) c.write_run-measured.ensures.0 in
    let state = ap (λ (r : Reported). r.state) c.write_run-measured.ensures.0 in
    let both = both_narrow (run_from 0 a.t 0 ws) (run_text a.t ws) a.out.now
    c.write_run-measured.ensures.1 (omega (arith, c.if-size-out.false, long)) in
    record {
      answer = rw (c.narrowed.ensures, state) both.0;
      bytes = both.1;
    }
