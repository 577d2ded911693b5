use mathlib.Core.Path.{ap, ◌∙◌}
use native.Mathlib.Omega.{arith}
use Rattle.tables.specs.Values.{clean, all_clean}
use Rattle.tables.proofs.Scans.{all_scan, scan_start, scan_turn, scan_end}
use Rattle.tables.proofs.Checking.{clean_hit}
use Rattle.forms.specs.TableForms.{all_well}
use Rattle.forms.proofs.entries.clean.Goals as goal

pub loop-i-init : goal.loop-i-init
unfolding all_well all_clean
loop-i-init c = scan_start all_scan _ _

pub loop-i-preserved : goal.loop-i-preserved
loop-i-preserved c =
    let lp = c.loop-i in
    let a = c.args in
    scan_turn all_scan _ _ lp.good lp.i _ lp.invariant (omega arith) _
    (clean_hit a.l _ _ _ c.full-full.ensures ∙ ap (clean a.l) c.entry_at-e.ensures)

pub returns : goal.returns
returns c =
    let lp = c.loop-i in
    scan_end all_scan _ _ lp.good lp.i _ lp.invariant (omega arith)
