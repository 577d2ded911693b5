-- Loop: `good` says whether the entries before i are clean (`scan_turn`).
use mathlib.Core.Path.{◌≡◌}
use mathlib.Core.Bool.{◌&&◌}
use Prim.Native.Nat.{◌-◌}
use Rattle.tables.specs.Values.{clean, all_from}
use Rattle.forms.specs.declared.Layout.TheVariants.{Plain}
use Rattle.forms.specs.TableForms.{written_at, all_well}
use Rattle.forms.proofs.entries.clean.Given as goal

abbrev pub invariant-loop-i : goal.invariant-loop-i
invariant-loop-i l =
    all_well Plain l.l l.n l.b ≡ (l.good && all_from l.i (l.n - l.i) (λ m. clean l.l (written_at l.l l.n l.b m)))
