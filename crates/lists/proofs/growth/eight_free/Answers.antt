use mathlib.Core.Path.{refl, sym, ap, ◌∙◌}
use mathlib.Core.Bool.{not}
use native.Mathlib.Omega.{arith}
use Rattle.tables.proofs.Scans.{all_scan, scan_whole}
use Rattle.lists.proofs.Slices.{part_turn, part_end}
use Rattle.lists.proofs.growth.eight_free.Goals as goal

pub loop-e-preserved : goal.loop-e-preserved
loop-e-preserved c = part_turn c.loop-e.invariant c.loop-e-test.true (ap not c.subsumes.ensures.words)

pub returns : goal.returns
returns c = part_end c.loop-e.invariant (omega arith) c.loop-e-test.false ∙ sym (scan_whole all_scan _ _ 8 _ refl)
